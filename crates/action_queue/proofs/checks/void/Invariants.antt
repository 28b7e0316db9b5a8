use Rattle.std.proofs.Common.{length}
use Rattle.action_queue.proofs.CheckLemmas.{IsVoiding}
use Rattle.action_queue.proofs.checks.void.Given as goal

abbrev pub invariant-loop-id : goal.invariant-loop-id
invariant-loop-id l = IsVoiding l.lane l.initial.jobs.entries l.jobs.entries l.queues.items

abbrev pub decreases-loop-id : goal.decreases-loop-id
decreases-loop-id l = length l.jobs.entries
