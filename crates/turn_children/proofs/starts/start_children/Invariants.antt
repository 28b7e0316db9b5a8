use Rattle.std.proofs.Common.{◌≡◌}
use Rattle.run_law.specs.Stages.{IsSteady, Moves}
use Rattle.run_law.specs.Turn.{to_starts}
use Rattle.run_steps.specs.Keeping.{IsPlacedIn, KeepsRunning}
use Rattle.turn_children.specs.Starting.{checks_then}
use Rattle.turn_children.proofs.starts.start_children.Given as goal

abbrev pub invariant-rounds : goal.invariant-rounds
invariant-rounds g l = record {
  moves : Moves KeepsRunning (g.W.Outside.stands l.initial.world) (g.W.Outside.stands l.world) to_starts to_starts l.initial.running l.running;
  steady : IsSteady (g.W.Outside.stands l.initial.world) (g.W.Outside.stands l.world);
  left : l.running.left ≡ l.initial.running.left;
  placed : IsPlacedIn (g.W.Outside.stands l.world).told l.running.clocked;
}

abbrev pub decreases-rounds : goal.decreases-rounds
decreases-rounds g l = checks_then l.running
