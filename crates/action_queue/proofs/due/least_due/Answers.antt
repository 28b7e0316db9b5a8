-- A queue more.
use Rattle.action_queue.proofs.DueLemmas.{due_more}
use Rattle.action_queue.proofs.due.least_due.Goals as goal

pub loop-queue-preserved : goal.loop-queue-preserved
loop-queue-preserved c =
    due_more c.args.now c.args.running.now c.args.jobs.now.entries c.args.queues.now c.loop-queue.queue-index c.queue-item.result c.loop-queue.best c.better-best.result c.loop-queue-test.true c.queue-item.is c.better-best.ensures
    c.loop-queue.invariant
