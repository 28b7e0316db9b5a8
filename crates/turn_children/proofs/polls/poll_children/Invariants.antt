use Rattle.std.proofs.Common.{◌≡◌, ◌-◌, length}
use Rattle.run_law.specs.Stages.{IsSteady, Moves}
use Rattle.run_law.specs.Turn.{to_polls}
use Rattle.run_steps.specs.Keeping.{IsPlacedIn, KeepsRunning}
use Rattle.turn_children.proofs.polls.poll_children.Given as goal

abbrev pub invariant-children : goal.invariant-children
invariant-children g l = record {
  moves : Moves KeepsRunning (g.W.Outside.stands l.initial.world) (g.W.Outside.stands l.world) (to_polls 0) (to_polls l.place) l.initial.running l.running;
  steady : IsSteady (g.W.Outside.stands l.initial.world) (g.W.Outside.stands l.world);
  left : l.running.left ≡ l.initial.running.left;
  placed : IsPlacedIn (g.W.Outside.stands l.world).told l.running.clocked;
}

abbrev pub decreases-children : goal.decreases-children
decreases-children g l = length l.running.children.running - l.place
