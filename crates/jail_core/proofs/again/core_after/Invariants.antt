use Rattle.jail_core.proofs.AgainLemmas.{IsOnTheWay}
use Rattle.jail_core.proofs.again.core_after.Given as goal

abbrev pub invariant-loop-input : goal.invariant-loop-input
invariant-loop-input l = IsOnTheWay l.fn.core l.inputs l.after l.input-index
