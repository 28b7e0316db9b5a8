use Rattle.std.proofs.Common.{◌≤◌}
use Rattle.std.specs.Prelude.{IfSome}
use Rattle.run_law.specs.Stages.{IsSteady}
use Rattle.run_steps.specs.Keeping.{IsPlacedIn}
use Rattle.server_top.specs.Reloads.{left_in}
use Rattle.server_top.specs.Turns.{Asks}
use Rattle.server_top.proofs.ReloadLemmas.{AsksOn}
use Rattle.server_top.proofs.run.until_taken.Given as goal

abbrev pub invariant-asked : goal.invariant-asked
invariant-asked g l = record {
  on : AsksOn (g.W.Outside.stands l.initial.world) (g.W.Outside.stands l.world) l.plan l.initial.asked l.asked;
  steady : IsSteady (g.W.Outside.stands l.initial.world) (g.W.Outside.stands l.world);
  asks : IfSome l.asked (λ r. Asks r.0 r.1);
  placed : IfSome l.asked (λ r. IsPlacedIn (g.W.Outside.stands l.world).told r.0.clocked);
  less : left_in l.asked ≤ left_in l.initial.asked;
}

abbrev pub decreases-asked : goal.decreases-asked
decreases-asked g l = left_in l.asked
