use Rattle.std.specs.Prelude.{IfSome}
use Rattle.run_law.specs.Stages.{IsSteady}
use Rattle.run_steps.specs.Keeping.{IsPlacedIn}
use Rattle.server_top.specs.Reloads.{GoesOnWith, StandsTaken, left_behind}
use Rattle.server_top.proofs.run.serve.Given as goal

abbrev pub invariant-reloads : goal.invariant-reloads
invariant-reloads g l = record {
  stands : StandsTaken (g.W.Outside.stands l.fn.world) (g.W.Outside.stands l.world) l.plan l.taken;
  steady : IsSteady (g.W.Outside.stands l.fn.world) (g.W.Outside.stands l.world);
  goes : IfSome l.taken (λ r. GoesOnWith r.0.items r.1 r.2);
  placed : IfSome l.taken (λ r. IsPlacedIn (g.W.Outside.stands l.world).told r.1.clocked);
}

abbrev pub decreases-reloads : goal.decreases-reloads
decreases-reloads g l = left_behind l.taken
