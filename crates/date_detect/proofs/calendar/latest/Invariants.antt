use Rattle.std.proofs.Common.{◌≡◌, ◌-◌}
use Rattle.date_detect.specs.Calendar.{moment_by, latest, first_back}
use Rattle.date_detect.proofs.calendar.latest.Given as goal

abbrev pub invariant-loop-back : goal.invariant-loop-back
invariant-loop-back l = first_back (moment_by l.limit l.date) (l.year - l.back) (9 - l.back) ≡ latest l.fn.now l.date
