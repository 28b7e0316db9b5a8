-- The new job has the greatest id, which is below the bound, and the next one is greater.
use Rattle.std.proofs.Common.{arith}
use Rattle.action_queue.proofs.BelowLemmas.{below_push}
use Rattle.lane_moves.proofs.book.JobBook.order.Goals as goal

pub invariant_of-self-2 : goal.invariant_of-self-2
invariant_of-self-2 c = record {
  below = rw c.in_ok-push.ensures.ok (below_push _ c.self.inside.jobs c.self.invariant.below);
  few = omega arith;
}
