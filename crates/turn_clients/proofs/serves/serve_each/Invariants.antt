use Rattle.std.proofs.Common.{◌≡◌, ◌≤◌, ◌-◌, length}
use Rattle.run_law.specs.Stages.{IsSteady, Moves}
use Rattle.run_law.specs.Turn.{to_clients}
use Rattle.run_steps.specs.Keeping.{IsPlacedIn, KeepsRunning}
use Rattle.turn_clients.specs.Serving.{behind}
use Rattle.turn_clients.proofs.serves.serve_each.Given as goal

abbrev pub invariant-clients : goal.invariant-clients
invariant-clients g l = record {
  moves : Moves KeepsRunning (g.W.Outside.stands l.initial.world) (g.W.Outside.stands l.world) (to_clients l.from) (to_clients l.place) l.initial.running l.running;
  steady : IsSteady (g.W.Outside.stands l.initial.world) (g.W.Outside.stands l.world);
  near : behind l.place l.running ≤ behind l.from l.initial.running;
  left : l.running.left ≡ l.initial.running.left;
  placed : IsPlacedIn (g.W.Outside.stands l.world).told l.running.clocked;
}

abbrev pub decreases-clients : goal.decreases-clients
decreases-clients g l = length l.running.clients - l.place
