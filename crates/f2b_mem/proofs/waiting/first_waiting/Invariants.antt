use Rattle.std.proofs.Common.{◌≡◌, drop}
use Rattle.f2b_mem.specs.Plays.{first_waiting}
use Rattle.f2b_mem.proofs.waiting.first_waiting.Given as goal

abbrev pub invariant-loop-plan : goal.invariant-loop-plan
invariant-loop-plan l = record {
  number : l.number ≡ l.plan-index;
  rest : first_waiting l.number (drop l.plan-index l.plans) l.pauses l.accepted ≡ first_waiting 0 l.plans l.pauses l.accepted;
}
