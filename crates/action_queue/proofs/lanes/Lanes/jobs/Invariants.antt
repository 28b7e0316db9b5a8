use Rattle.std.proofs.Common.{◌≡◌, map}
use Rattle.action_queue.proofs.lanes.Lanes.jobs.Given as goal

abbrev pub invariant-loop-job : goal.invariant-loop-job
invariant-loop-job l = l.jobs ≡ map (λ job. job.now) l.yielded
