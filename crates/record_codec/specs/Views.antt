-- The spelling of bans, jails and views.
use Rattle.std.specs.Prelude.{◌≡◌, ℕ, ◌-◌, ◌≤◌, Bool, not, ◌&&◌, nat_lt, nat_le, List, [], ◌∷◌, ◌++◌, Option, None, Result, Ok, Err, bytes_eq}
use Rattle.std.specs.List.{list_any}
use Rattle.f2b_base.specs.Addresses.{same_addr}
use Rattle.f2b_base.specs.declared.ban.Ban.{Ban}
use Rattle.f2b_base.specs.declared.ban.Failure.{Failure}
use Rattle.f2b_base.specs.declared.ban.Past.{Past}
use Rattle.f2b_base.specs.declared.ban.Until.{Until}
use Rattle.f2b_base.specs.declared.ban.Until.TheVariants.{Never, At}
use Rattle.f2b_base.specs.declared.jail.JailDef.{JailDef}
use Rattle.f2b_base.specs.declared.jail.WatchDef.{WatchDef}
use Rattle.f2b_base.specs.declared.job.Job.{Job}
use Rattle.f2b_base.specs.declared.view.JailView.{JailView}
use Rattle.f2b_base.specs.declared.view.View.{View}
use Rattle.f2b_base.specs.declared.view.WatchView.{WatchView}
use Rattle.f2b_model.specs.Lists.{AllOf}
use Rattle.f2b_model.specs.Nows.{comes_before}
use Rattle.f2b_model.specs.Sound.{IsRisingEnds}
use Rattle.f2b_model.specs.Storable.{most_numbers, IsStorableUntil, IsStorableBan, IsStorablePast}
use Rattle.f2b_model.specs.StorableViews.{IsStorableView}
use Rattle.record_codec.specs.declared.version.Version.{Version}
use Rattle.record_codec.specs.Definitions.{name, place, defs}
use Rattle.record_codec.specs.Lanes.{began, up_lane, same_up, job}
use Rattle.record_codec.specs.Versions.{failure, IsWholeIn}
use Rattle.record_fields.specs.Addresses.{addr}
use Rattle.record_fields.specs.Codec.{◌>>=◌, as_made, Reads, Codec, both, and_then, made, fit, checked, case, no_case, field}
use Rattle.record_fields.specs.Lists.{list_of, listed, is_new, is_behind, each_of}
use Rattle.record_fields.specs.Numbers.{number, at_most}
use Rattle.record_fields.specs.Small.{flag, moment, count}
use Rattle.record_fields.specs.Texts.{text}

-- ---- bans

abbrev pub until_spelling : Until → List ℕ
until_spelling Never = 0 ∷ []
until_spelling (At end) = 1 ∷ moment.spell end

unfoldable pub until : Codec Until
until = record {
  spell = until_spelling;
  read = field (case 0 (λ bytes. Ok (Never, bytes)) (case 1 (as_made (λ n. At n) moment) no_case));
  Fits = IsStorableUntil;
}

unfoldable pub ban : Codec Ban
ban = fit IsStorableBan (made
    (λ x. record { serial = x.0; addr = x.1.0; begin = x.1.1.0; until = x.1.1.1.0; count = x.1.1.1.1.0; failures = x.1.1.1.1.1 })
    (λ b. (b.serial, (b.addr, (b.begin, (b.until, (b.count, b.failures))))))
    (both began (both addr (both moment (both until (both count count))))))

unfoldable pub past : Codec Past
past = fit IsStorablePast (made (λ x. record { addr = x.0; end = x.1 }) (λ p. (p.addr, p.end)) (both addr moment))

-- ---- orders

-- a failure may stand right behind another one that it does not come before
abbrev pub may_follow : Failure → Failure → Bool
may_follow f g = not (comes_before g f)

-- by address, time and arrival, and none is to come
abbrev pub is_next_failure : ℕ → List Failure → Failure → Bool
is_next_failure at before f = nat_le f.time at && is_behind may_follow before f

abbrev pub rises : Ban → Ban → Bool
rises b c = nat_lt b.serial c.serial

abbrev pub same_banned : Ban → Ban → Bool
same_banned b c = same_addr c.addr b.addr

-- by serial, and one for an address
abbrev pub is_next_active : List Ban → Ban → Bool
is_next_active before b = is_behind rises before b && is_new same_banned before b

-- by end
abbrev pub ends_later : Past → Past → Bool
ends_later p q = nat_le p.end q.end

-- by id
abbrev pub has_later_id : Job → Job → Bool
has_later_id j k = nat_lt j.id k.id

-- ---- jails

unfoldable pub watch_spelling : WatchView → List ℕ
watch_spelling w = text.spell w.path ++ place.spell w.place

-- the path is that of the definition
abbrev pub path_of : WatchDef → Codec (List ℕ)
path_of d = checked (λ path. bytes_eq path d.path) text

unfoldable pub watch_view : WatchDef → Codec WatchView
watch_view d = record {
  spell = watch_spelling;
  read = as_made (λ x. record { path = x.0; place = x.1 }) (both (path_of d) place);
  Fits = λ w. (both (path_of d) place).Fits (w.path, w.place);
}

unfoldable pub watches_at : List WatchDef → Reads (List WatchView)
watches_at ds = (each_of watch_spelling watch_view ds).read

abbrev pub watches : List WatchDef → Codec (List WatchView)
watches ds = record { spell = list_of watch_spelling; read = watches_at ds; Fits = (each_of watch_spelling watch_view ds).Fits }

-- the numbers of a jail
abbrev pub totals_spelling : JailView → List ℕ
totals_spelling v = name.spell v.name ++ (flag.spell v.idle ++ (number.spell v.total_failed ++ (number.spell v.total_banned ++ moment.spell v.moment)))

-- its tables
abbrev pub tables_spelling : Version → JailView → List ℕ
tables_spelling version v = list_of (failure version).spell v.failures ++ (list_of ban.spell v.bans ++ (list_of past.spell v.past ++ list_of watch_spelling v.watches))

unfoldable pub jail_spelling : Version → JailView → List ℕ
jail_spelling version v = name.spell v.name ++ (flag.spell v.idle ++ (number.spell v.total_failed ++ (number.spell v.total_banned ++ (moment.spell v.moment
    ++ (list_of (failure version).spell v.failures ++ (list_of ban.spell v.bans ++ (list_of past.spell v.past ++ list_of watch_spelling v.watches)))))))

-- the name is that of the definition
abbrev pub name_of : JailDef → Codec (List ℕ)
name_of d = checked (λ n. bytes_eq n d.name) name

-- the fields of a jail, one after the other
abbrev pub jail_fields : Version → ℕ → JailDef → Codec (List ℕ × (Bool × (ℕ × (ℕ × (ℕ × (List Failure × (List Ban × (List Past × List WatchView))))))))
jail_fields version at d = both (name_of d) (both flag (both number (both number (both moment
    (both (listed None (is_next_failure at) (failure version)) (both (listed None is_next_active ban) (both (listed None (is_behind ends_later) past) (watches d.watches))))))))

abbrev pub jail_parts : JailView → List ℕ × (Bool × (ℕ × (ℕ × (ℕ × (List Failure × (List Ban × (List Past × List WatchView)))))))
jail_parts v = (v.name, (v.idle, (v.total_failed, (v.total_banned, (v.moment, (v.failures, (v.bans, (v.past, v.watches))))))))

unfoldable pub jail_view : Version → ℕ → JailDef → Codec JailView
jail_view version at d = record {
  spell = jail_spelling version;
  read = as_made (λ x. record {
    name = x.0;
    idle = x.1.0;
    total_failed = x.1.1.0;
    total_banned = x.1.1.1.0;
    moment = x.1.1.1.1.0;
    failures = x.1.1.1.1.1.0;
    bans = x.1.1.1.1.1.1.0;
    past = x.1.1.1.1.1.1.1.0;
    watches = x.1.1.1.1.1.1.1.1;
  }) (jail_fields version at d);
  Fits = λ v. (jail_fields version at d).Fits (jail_parts v);
}

unfoldable pub jails_at : Version → ℕ → List JailDef → Reads (List JailView)
jails_at version at ds = (each_of (jail_spelling version) (jail_view version at) ds).read

abbrev pub jail_views : Version → ℕ → List JailDef → Codec (List JailView)
jail_views version at ds = record {
  spell = list_of (jail_spelling version);
  read = jails_at version at ds;
  Fits = (each_of (jail_spelling version) (jail_view version at) ds).Fits;
}

-- ---- views

-- the id of the job to come is above those of all jobs
abbrev pub is_next_job : List Job → ℕ → Bool
is_next_job jobs n = nat_le n most_numbers && not (list_any (λ (j : Job). nat_le n j.id) jobs)

-- whether a jail has a ban with that serial or a greater one
abbrev pub has_late_ban : ℕ → JailView → Bool
has_late_ban n v = list_any (λ (b : Ban). nat_le n b.serial) v.bans

-- the serial of the ban to come is above those of all bans
abbrev pub is_next_ban : List JailView → ℕ → Bool
is_next_ban jails n = nat_le n most_numbers && not (list_any (has_late_ban n) jails)

-- the failures of a view are spelt whole in a version
abbrev pub IsViewWholeIn : Version → View → Type 0
IsViewWholeIn version v = AllOf (λ (j : JailView). AllOf (IsWholeIn version) j.failures) v.jails

-- a view that can be stored, whose past bans stand by their ends
pub record IsRecordedView (v : View) : Type 0 where
  pub storable : IsStorableView v
  pub ends : AllOf (λ (j : JailView). IsRisingEnds j.past) v.jails

-- the settings of a view, which stand before its jails
abbrev pub settings_spelling : View → List ℕ
settings_spelling v = moment.spell v.at ++ (defs.spell v.defs ++ (flag.spell v.stopping ++ list_of up_lane.spell v.up))

unfoldable pub view : Version → Codec View
view version = fit (λ v. IsRecordedView v × IsViewWholeIn version v) (made
    (λ x. record { at = x.0; defs = x.1.0; stopping = x.1.1.0; up = x.1.1.1.0; jails = x.1.1.1.1.0; jobs = x.1.1.1.1.1.0; next_job = x.1.1.1.1.1.1.0; next_ban = x.1.1.1.1.1.1.1 })
    (λ v. (v.at, (v.defs, (v.stopping, (v.up, (v.jails, (v.jobs, (v.next_job, v.next_ban))))))))
    (and_then moment (λ at. and_then defs (λ d. both flag (both (listed None (is_new same_up) up_lane) (and_then (jail_views version at d.jails) (λ jails.
    and_then (listed None (is_behind has_later_id) job) (λ jobs. both (checked (is_next_job jobs) number) (checked (is_next_ban jails) number)))))))))
