use Rattle.std.proofs.Common.{◌≡◌, ◌∷◌, take}
use Rattle.tag_subst.proofs.tag_values.with_first.Given as goal

abbrev pub invariant-loop-other : goal.invariant-loop-other
invariant-loop-other l = l.all ≡ l.section ∷ take l.other-index l.scope
