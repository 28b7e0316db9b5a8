-- Views that are stored, and what is taken up of them: all of a sound view, and of another one what no step could have left is left out.
use Rattle.std.specs.Prelude.{◌≡◌, ℕ, ◌≤◌, ◌&&◌, min, not, nat_le, Bool, true, List, [], ◌∷◌, map, filter}
use Rattle.std.specs.List.{list_all}
use Rattle.f2b_base.specs.declared.ban.Ban.{Ban}
use Rattle.f2b_base.specs.declared.ban.Failure.{Failure}
use Rattle.f2b_base.specs.declared.ban.Past.{Past}
use Rattle.f2b_base.specs.declared.ban.Until.{Until}
use Rattle.f2b_base.specs.declared.ban.Until.TheVariants.{Never, At}
use Rattle.f2b_base.specs.declared.jail.JailDef.{JailDef}
use Rattle.f2b_base.specs.declared.view.JailView.{JailView}
use Rattle.f2b_base.specs.declared.view.View.{View}
use Rattle.f2b_model.specs.declared.jail_now.JailNow.{JailNow}
use Rattle.f2b_model.specs.Full.{is_full, is_recent}
use Rattle.f2b_model.specs.Laws.{AreWatched}
use Rattle.f2b_model.specs.Lists.{AllOf}
use Rattle.f2b_model.specs.Storable.{IsStorable}
use Rattle.f2b_model.specs.Views.{gathered, jail_of}
use Rattle.f2b_model.specs.Whole.{Now}

-- A view that can be stored: what it shows can be, it shows one jail for each definition, of its name, each jail watches the paths of
-- its definition, and no failure is to come.
pub record IsStorableView (v : View) : Type 0 where
  pub now : IsStorable (gathered v)
  pub named : map (λ (j : JailView). j.name) v.jails ≡ map (λ (d : JailDef). d.name) v.defs.jails
  pub watched : AreWatched (gathered v).jails
  pub times : AllOf (λ (j : JailView). AllOf (λ (f : Failure). f.time ≤ v.at) j.failures) v.jails

-- ---- what is taken up

-- whether a failure can still matter to a jail whose last one was counted at a moment: it is no later, and not too old
abbrev pub can_matter : ℕ → ℕ → Failure → Bool
can_matter moment findtime f = nat_le f.time moment && is_recent moment findtime f

-- the failures but for those of addresses that they fill: such an address would have been banned
abbrev pub unfilled : ℕ → ℕ → List Failure → List Failure
unfilled findtime maxretry fs = filter (λ (f : Failure). not (is_full findtime maxretry f.addr fs)) fs

-- whether an end comes no earlier than a moment
abbrev pub ends_from : ℕ → Until → Bool
ends_from moment Never = true
ends_from moment (At end) = nat_le moment end

-- whether a past ban is over, and before each active ban's end
abbrev pub is_over : ℕ → List Ban → Past → Bool
is_over at bs p = nat_le p.end at && list_all (λ (b : Ban). ends_from p.end b.until) bs

-- what is taken up of a jail that was stored at a moment
abbrev pub jail_taken_up : ℕ → JailDef → JailView → JailNow
jail_taken_up at d v =
    let moment = min v.moment at in
    record (jail_of d v) {
      moment = moment;
      failures = unfilled d.findtime d.maxretry (filter (can_matter moment d.findtime) v.failures);
      past = filter (is_over at v.bans) v.past;
    }

-- and of jails, one by one
abbrev pub jails_taken_up : ℕ → List JailDef → List JailView → List JailNow
jails_taken_up at [] vs = []
jails_taken_up at (d ∷ ds) [] = []
jails_taken_up at (d ∷ ds) (v ∷ vs) = jail_taken_up at d v ∷ jails_taken_up at ds vs

-- and of a view
abbrev pub taken_up : View → Now
taken_up v = record (gathered v) { jails = record (gathered v).jails { jails = jails_taken_up v.at v.defs.jails v.jails } }
