use Rattle.std.proofs.Common.{◌≤◌, All}
use Rattle.ground_rows.proofs.spans.rule.Given as goal

abbrev pub invariant-loop-each : goal.invariant-loop-each
invariant-loop-each l = All (λ m. m ≤ 1000000) l.multipliers
