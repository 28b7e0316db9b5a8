use Rattle.f2b_world.proofs.SetLemmas.{set_alike}
use Rattle.f2b_world.proofs.pattern.set.PatternSet.matcher.Goals as goal

pub invariant_of-result : goal.invariant_of-result
invariant_of-result c = rw (c.in_ok-inner.ensures, ← c.self.view_is) (set_alike _ c.self.invariant)
