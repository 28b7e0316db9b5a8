-- No reader of a view or an input leaves more bytes than there were.
use Rattle.std.proofs.Common.{ℕ, List}
use Rattle.f2b_base.specs.declared.ban.Until.{Until}
use Rattle.f2b_base.specs.declared.input.What.{What}
use Rattle.f2b_base.specs.declared.jail.DateSpec.{DateSpec}
use Rattle.f2b_base.specs.declared.jail.Place.{Place}
use Rattle.f2b_base.specs.declared.job.Outcome.{Outcome}
use Rattle.f2b_base.specs.declared.input.What.TheVariants.{Tick, Stop}
use Rattle.f2b_base.specs.declared.jail.DateSpec.TheVariants.{Default, Anchored, NoDate, Epoch, Iso}
use Rattle.f2b_base.specs.declared.jail.JailDef.{JailDef}
use Rattle.f2b_base.specs.declared.jail.Place.TheVariants.{Tail}
use Rattle.f2b_base.specs.declared.jail.WatchDef.{WatchDef}
use Rattle.f2b_base.specs.declared.ban.Until.TheVariants.{Never}
use Rattle.f2b_base.specs.declared.job.Outcome.TheVariants.{NotStarted, TimedOut}
use Rattle.f2b_base.specs.Limits.{kept_line_bytes, last_moment}
use Rattle.f2b_model.specs.Storable.{longest_span}
use Rattle.record_codec.specs.declared.version.Version.{Version}
use Rattle.record_codec.specs.declared.version.Version.TheVariants.{One, Two}
use Rattle.record_codec.specs.Definitions.{name, watch_def, place, head_at, pattern, date, base, factor, ban_rule, family, action_def, zone, jail_def, defs}
use Rattle.record_codec.specs.Inputs.{read_fields, ended_fields, ban_fields, unban_fields, read_at, ended_at, config_at, ban_at, unban_at, attempt_at, ignore_at, findtime_at, bantime_at, maxretry_at, idle_at, check_failed_at, what, input}
use Rattle.record_codec.specs.Lanes.{lane_id, up_lane, began, kind, tries, job, outcome}
use Rattle.record_codec.specs.Versions.{failure_v1, failure_v2, failure}
use Rattle.record_codec.specs.Views.{until, ban, past, watch_spelling, jail_spelling, path_of, watch_view, watches_at, watches, jail_fields, jail_view, jails_at, jail_views, view}
use Rattle.record_fields.specs.Codec.{no_case}
use Rattle.record_fields.specs.Numbers.{number}
use Rattle.record_fields.specs.Small.{moment, span, count}
use Rattle.slot_reader.proofs.LeftLemmas.{LeavesNoMore, StaysWithin, then_leaves, both_leaves, as_made_leaves, made_leaves, fit_leaves, checked_leaves, coded_leaves, none_leave, case_leaves, alone_leaves, field_leaves, option_leaves, number_leaves, at_most_leaves, between_leaves, signed_leaves, flag_leaves, string_leaves, text_leaves, short_leaves, addr_leaves, cidr_leaves, list_leaves, each_leaves}

-- ---- definitions

name_leaves : LeavesNoMore name
unfolding name
name_leaves = fit_leaves _ _ (checked_leaves _ _ text_leaves)

watch_def_leaves : LeavesNoMore watch_def
unfolding watch_def
watch_def_leaves = fit_leaves _ _ (made_leaves _ _ _ (both_leaves _ _ text_leaves flag_leaves))

place_leaves : LeavesNoMore place
unfolding place
place_leaves = record {
  within = field_leaves _
      (case_leaves 0 _ _ (alone_leaves Tail)
      (case_leaves 1 _ no_case (as_made_leaves _ _ (then_leaves number head_at number_leaves (λ n. fit_leaves _ _ (checked_leaves _ _ string_leaves)))) (none_leave Place)));
}

pattern_leaves : LeavesNoMore pattern
pattern_leaves = short_leaves 8192

date_leaves : LeavesNoMore date
unfolding date
date_leaves = record {
  within = field_leaves _
      (case_leaves 0 _ _ (alone_leaves Default)
      (case_leaves 1 _ _ (alone_leaves Anchored)
      (case_leaves 2 _ _ (alone_leaves NoDate)
      (case_leaves 3 _ _ (alone_leaves Epoch)
      (case_leaves 4 _ _ (alone_leaves Iso)
      (case_leaves 5 _ _ (as_made_leaves _ _ pattern_leaves)
      (case_leaves 6 _ no_case (as_made_leaves _ _ pattern_leaves) (none_leave DateSpec))))))));
}

base_leaves : LeavesNoMore base
base_leaves = fit_leaves _ _ (checked_leaves _ _ signed_leaves)

factor_leaves : LeavesNoMore factor
factor_leaves = between_leaves 1 1000000

span_leaves : LeavesNoMore span
span_leaves = between_leaves 1 3153600000

moment_leaves : LeavesNoMore moment
moment_leaves = at_most_leaves last_moment

ban_rule_leaves : LeavesNoMore ban_rule
unfolding ban_rule
ban_rule_leaves = fit_leaves _ _ (made_leaves _ _ _
    (both_leaves _ _ base_leaves (both_leaves _ _ flag_leaves (both_leaves _ _ factor_leaves (both_leaves _ _ (list_leaves _ _ _ factor_leaves) (both_leaves _ _ span_leaves (at_most_leaves 1000000)))))))

family_leaves : LeavesNoMore family
family_leaves = coded_leaves _ _ _

action_def_leaves : LeavesNoMore action_def
unfolding action_def
action_def_leaves = fit_leaves _ _ (made_leaves _ _ _
    (both_leaves _ _ text_leaves (both_leaves _ _ family_leaves (both_leaves _ _ text_leaves (both_leaves _ _ text_leaves (both_leaves _ _ text_leaves (both_leaves _ _ text_leaves (both_leaves _ _ text_leaves span_leaves))))))))

zone_leaves : LeavesNoMore zone
zone_leaves = fit_leaves _ _ (checked_leaves _ _ signed_leaves)

jail_def_leaves : LeavesNoMore jail_def
unfolding jail_def
jail_def_leaves = fit_leaves _ _ (made_leaves _ _ _
    (both_leaves _ _ name_leaves (both_leaves _ _ (list_leaves _ _ _ watch_def_leaves) (both_leaves _ _ zone_leaves (both_leaves _ _ date_leaves (both_leaves _ _ (option_leaves _ pattern_leaves)
    (both_leaves _ _ (list_leaves _ _ _ pattern_leaves) (both_leaves _ _ (list_leaves _ _ _ pattern_leaves) (both_leaves _ _ (list_leaves _ _ _ cidr_leaves) (both_leaves _ _ span_leaves
    (both_leaves _ _ (between_leaves 1 100000) (both_leaves _ _ (at_most_leaves 1000) (both_leaves _ _ ban_rule_leaves (list_leaves _ _ _ action_def_leaves))))))))))))))

defs_leaves : LeavesNoMore defs
unfolding defs
defs_leaves = fit_leaves _ _ (made_leaves _ _ _ (both_leaves _ _ (at_most_leaves longest_span) (list_leaves _ _ _ jail_def_leaves)))

-- ---- failures

failure_v1_leaves : LeavesNoMore failure_v1
unfolding failure_v1
failure_v1_leaves = record { within = as_made_leaves _ _ (both_leaves _ _ addr_leaves moment_leaves) }

failure_v2_leaves : LeavesNoMore failure_v2
unfolding failure_v2
failure_v2_leaves = fit_leaves _ _ (made_leaves _ _ _ (both_leaves _ _ addr_leaves (both_leaves _ _ moment_leaves (short_leaves kept_line_bytes))))

failure_leaves : (version : Version) → LeavesNoMore (failure version)
failure_leaves One = failure_v1_leaves
failure_leaves Two = failure_v2_leaves

-- ---- lanes and jobs

lane_id_leaves : LeavesNoMore lane_id
unfolding lane_id
lane_id_leaves = fit_leaves _ _ (made_leaves _ _ _ (both_leaves _ _ name_leaves (both_leaves _ _ text_leaves family_leaves)))

up_lane_leaves : LeavesNoMore up_lane
unfolding up_lane
up_lane_leaves = fit_leaves _ _ (made_leaves _ _ _ (both_leaves _ _ name_leaves action_def_leaves))

began_leaves : LeavesNoMore began
began_leaves = at_most_leaves _

kind_leaves : LeavesNoMore kind
kind_leaves = coded_leaves _ _ _

tries_leaves : LeavesNoMore tries
tries_leaves = coded_leaves _ _ _

job_leaves : LeavesNoMore job
unfolding job
job_leaves = fit_leaves _ _ (made_leaves _ _ _
    (both_leaves _ _ began_leaves (both_leaves _ _ lane_id_leaves (both_leaves _ _ kind_leaves (both_leaves _ _ (option_leaves _ addr_leaves)
    (both_leaves _ _ text_leaves (both_leaves _ _ span_leaves (both_leaves _ _ tries_leaves moment_leaves))))))))

outcome_leaves : LeavesNoMore outcome
unfolding outcome
outcome_leaves = record {
  within = field_leaves _
      (case_leaves 0 _ _ (as_made_leaves _ _ signed_leaves)
      (case_leaves 1 _ _ (alone_leaves NotStarted)
      (case_leaves 2 _ no_case (alone_leaves TimedOut) (none_leave Outcome))));
}

-- ---- views

until_leaves : LeavesNoMore until
unfolding until
until_leaves = record { within = field_leaves _ (case_leaves 0 _ _ (alone_leaves Never) (case_leaves 1 _ no_case (as_made_leaves _ _ moment_leaves) (none_leave Until))) }

count_leaves : LeavesNoMore count
count_leaves = at_most_leaves _

ban_leaves : LeavesNoMore ban
unfolding ban
ban_leaves = fit_leaves _ _ (made_leaves _ _ _
    (both_leaves _ _ (at_most_leaves _) (both_leaves _ _ addr_leaves (both_leaves _ _ moment_leaves (both_leaves _ _ until_leaves (both_leaves _ _ count_leaves count_leaves))))))

past_leaves : LeavesNoMore past
unfolding past
past_leaves = fit_leaves _ _ (made_leaves _ _ _ (both_leaves _ _ addr_leaves moment_leaves))

watch_view_leaves : (d : WatchDef) → LeavesNoMore (watch_view d)
unfolding watch_view
watch_view_leaves d = record { within = as_made_leaves _ _ (both_leaves (path_of d) place (checked_leaves _ _ text_leaves) place_leaves) }

watches_leaves : (ds : List WatchDef) → LeavesNoMore (watches ds)
unfolding watches_at
watches_leaves ds = record { within = (each_leaves watch_spelling watch_view ds watch_view_leaves).within }

jail_view_leaves : (version : Version) (at : ℕ) (d : JailDef) → LeavesNoMore (jail_view version at d)
unfolding jail_view
jail_view_leaves version at d = record {
  within = as_made_leaves _ (jail_fields version at d)
      (both_leaves _ _ (checked_leaves _ _ name_leaves) (both_leaves _ _ flag_leaves (both_leaves _ _ number_leaves (both_leaves _ _ number_leaves (both_leaves _ _ moment_leaves
      (both_leaves _ _ (list_leaves _ _ _ (failure_leaves version)) (both_leaves _ _ (list_leaves _ _ _ ban_leaves) (both_leaves _ _ (list_leaves _ _ _ past_leaves) (watches_leaves d.watches)))))))));
}

jail_views_leaves : (version : Version) (at : ℕ) (ds : List JailDef) → LeavesNoMore (jail_views version at ds)
unfolding jails_at
jail_views_leaves version at ds = record { within = (each_leaves (jail_spelling version) (jail_view version at) ds (jail_view_leaves version at)).within }

pub view_leaves : (version : Version) → LeavesNoMore (view version)
unfolding view
view_leaves version = fit_leaves _ _ (made_leaves _ _ _
    (then_leaves _ _ moment_leaves (λ at. then_leaves _ _ defs_leaves (λ d. both_leaves _ _ flag_leaves (both_leaves _ _ (list_leaves _ _ _ up_lane_leaves)
    (then_leaves _ _ (jail_views_leaves version at d.jails) (λ jails. then_leaves _ _ (list_leaves _ _ _ job_leaves) (λ jobs.
    both_leaves _ _ (checked_leaves _ _ number_leaves) (checked_leaves _ _ number_leaves)))))))))

-- ---- inputs

ended_leaves : LeavesNoMore ended_fields
ended_leaves = both_leaves _ _ number_leaves outcome_leaves

read_within : (version : Version) → StaysWithin (read_at version)
unfolding read_at
read_within version = as_made_leaves _ (read_fields version) (both_leaves _ _ name_leaves (both_leaves _ _ text_leaves (both_leaves _ _ place_leaves (list_leaves _ _ _ (failure_leaves version)))))

ended_within : StaysWithin ended_at
unfolding ended_at
ended_within = as_made_leaves _ _ ended_leaves

config_within : StaysWithin config_at
unfolding config_at
config_within = as_made_leaves _ _ defs_leaves

ban_within : StaysWithin ban_at
unfolding ban_at
ban_within = as_made_leaves _ ban_fields (both_leaves _ _ name_leaves (list_leaves _ _ _ addr_leaves))

unban_within : StaysWithin unban_at
unfolding unban_at
unban_within = as_made_leaves _ unban_fields (both_leaves _ _ (option_leaves _ name_leaves) (option_leaves _ (list_leaves _ _ _ addr_leaves)))

attempt_within : StaysWithin attempt_at
unfolding attempt_at
attempt_within = as_made_leaves _ _ (both_leaves _ _ name_leaves addr_leaves)

ignore_within : StaysWithin ignore_at
unfolding ignore_at
ignore_within = as_made_leaves _ _ (both_leaves _ _ name_leaves (both_leaves _ _ cidr_leaves flag_leaves))

findtime_within : StaysWithin findtime_at
unfolding findtime_at
findtime_within = as_made_leaves _ _ (both_leaves _ _ name_leaves span_leaves)

bantime_within : StaysWithin bantime_at
unfolding bantime_at
bantime_within = as_made_leaves _ _ (both_leaves _ _ name_leaves base_leaves)

maxretry_within : StaysWithin maxretry_at
unfolding maxretry_at
maxretry_within = as_made_leaves _ _ (both_leaves _ _ name_leaves (between_leaves 1 100000))

idle_within : StaysWithin idle_at
unfolding idle_at
idle_within = as_made_leaves _ _ (both_leaves _ _ name_leaves flag_leaves)

check_failed_within : StaysWithin check_failed_at
unfolding check_failed_at
check_failed_within = as_made_leaves _ _ ended_leaves

what_leaves : (version : Version) → LeavesNoMore (what version)
unfolding what
what_leaves version = record {
  within = field_leaves _
      (case_leaves 0 _ _ (alone_leaves Tick)
      (case_leaves 1 _ _ (read_within version)
      (case_leaves 2 _ _ ended_within
      (case_leaves 3 _ _ config_within
      (case_leaves 4 _ _ (alone_leaves Stop)
      (case_leaves 5 _ _ ban_within
      (case_leaves 6 _ _ unban_within
      (case_leaves 7 _ _ attempt_within
      (case_leaves 8 _ _ ignore_within
      (case_leaves 9 _ _ findtime_within
      (case_leaves 10 _ _ bantime_within
      (case_leaves 11 _ _ maxretry_within
      (case_leaves 12 _ _ idle_within
      (case_leaves 13 _ no_case check_failed_within (none_leave What)))))))))))))));
}

pub input_leaves : (version : Version) → LeavesNoMore (input version)
unfolding input
input_leaves version = fit_leaves _ _ (made_leaves _ _ _ (both_leaves _ _ moment_leaves (both_leaves _ _ number_leaves (what_leaves version))))
