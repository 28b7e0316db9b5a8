use Rattle.std.proofs.Common.{◌≤◌, ◌-◌, length}
use Rattle.client_frames.specs.Replies.{IsMore, Received}
use Rattle.client_frames.proofs.ReceiveLemmas.{Adds}
use Rattle.client_frames.proofs.receive.receive_to.Given as goal

abbrev pub invariant-loop-link : goal.invariant-loop-link
invariant-loop-link g l = record {
  received : Received (g.L.Outside.stands l.initial.link) (g.L.Outside.stands l.link) (Adds l.initial.came l.came);
  more : IsMore l.initial.came l.came;
  within : length l.came ≤ l.count;
}

abbrev pub decreases-loop-link : goal.decreases-loop-link
decreases-loop-link g l = l.count - length l.came
