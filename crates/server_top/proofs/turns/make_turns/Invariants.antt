use Rattle.std.proofs.Common.{◌≤◌}
use Rattle.run_law.specs.Stages.{IsSteady, Moves}
use Rattle.run_law.specs.Turn.{to_starts}
use Rattle.run_steps.specs.Keeping.{IsPlacedIn, KeepsRunning}
use Rattle.server_top.proofs.turns.make_turns.Given as goal

abbrev pub invariant-turns : goal.invariant-turns
invariant-turns g l = record {
  moves : Moves KeepsRunning (g.W.Outside.stands l.initial.world) (g.W.Outside.stands l.world) to_starts to_starts l.initial.running l.running;
  steady : IsSteady (g.W.Outside.stands l.initial.world) (g.W.Outside.stands l.world);
  placed : IsPlacedIn (g.W.Outside.stands l.world).told l.running.clocked;
  some : 1 ≤ l.running.left;
  less : l.running.left ≤ l.initial.running.left;
}

abbrev pub decreases-turns : goal.decreases-turns
decreases-turns g l = l.running.left
