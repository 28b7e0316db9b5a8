use Rattle.std.proofs.Common.{take}
use Rattle.action_queue.specs.Due.{IsLeastDue}
use Rattle.action_queue.proofs.due.least_due.Given as goal

abbrev pub invariant-loop-queue : goal.invariant-loop-queue
invariant-loop-queue l = IsLeastDue l.best l.now l.running l.jobs.entries (take l.queue-index l.queues)
