use Rattle.std.proofs.Common.{◌≡◌, ◌-◌, ◌≤◌, length}
use Rattle.run_law.specs.Stages.{IsSteady, Moves}
use Rattle.run_law.specs.Turn.{to_looks}
use Rattle.run_steps.specs.Keeping.{IsPlacedIn, KeepsRunning}
use Rattle.turn_logs.proofs.looks.look_at_each.Given as goal

abbrev pub invariant-logs : goal.invariant-logs
invariant-logs g l = record {
  moves : Moves KeepsRunning (g.W.Outside.stands l.initial.world) (g.W.Outside.stands l.world) (to_looks 0) (to_looks l.from) l.initial.running l.running;
  steady : IsSteady (g.W.Outside.stands l.initial.world) (g.W.Outside.stands l.world);
  left : l.running.left ≡ l.initial.running.left;
  placed : IsPlacedIn (g.W.Outside.stands l.world).told l.running.clocked;
  within : l.from ≤ length l.running.logs.logs;
}

abbrev pub decreases-logs : goal.decreases-logs
decreases-logs g l = length l.running.logs.logs - l.from
