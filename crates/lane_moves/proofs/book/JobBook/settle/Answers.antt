-- An ending adds no id.
use Rattle.action_queue.specs.Tries.{ending_of}
use Rattle.action_queue.proofs.BelowLemmas.{below_settle}
use Rattle.lane_moves.proofs.book.JobBook.settle.Goals as goal

pub invariant_of-self : goal.invariant_of-self
invariant_of-self c = record {
  below = rw c.settle.ensures.jobs (below_settle c.self.inside.next (ending_of c.args.id c.args.outcome c.args.at) c.self.inside.jobs c.self.invariant.below);
  few = c.self.invariant.few;
}
