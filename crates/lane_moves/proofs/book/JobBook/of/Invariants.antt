use Rattle.std.proofs.Common.{◌≡◌, take}
use Rattle.lane_moves.proofs.book.JobBook.of.Given as goal

abbrev pub invariant-loop-job : goal.invariant-loop-job
invariant-loop-job l = l.lanes ≡ take l.job-index l.jobs
