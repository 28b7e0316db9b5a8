use Rattle.std.proofs.Common.{◌≤◌, length}
use Rattle.run_law.specs.Stages.{IsSteady}
use Rattle.run_start.specs.Walks.{IsWild, WalksTo}
use Rattle.run_steps.specs.Keeping.{IsPlacedIn}
use Rattle.run_start.proofs.naming.name_all.Given as goal

abbrev pub invariant-paths : goal.invariant-paths
invariant-paths g l = record {
  steady : IsSteady (g.W.Outside.stands l.initial.world) (g.W.Outside.stands l.world);
  walks : WalksTo (g.W.Outside.stands l.initial.world) (g.W.Outside.stands l.world) l.settings l.initial.walk l.walk;
  placed : IsPlacedIn (g.W.Outside.stands l.world).told l.walk.clocked;
  wild : IsWild l.walk.left.now;
  fewer : length l.walk.left.now ≤ length l.initial.walk.left.now;
}

abbrev pub decreases-paths : goal.decreases-paths
decreases-paths g l = length l.walk.left.now
