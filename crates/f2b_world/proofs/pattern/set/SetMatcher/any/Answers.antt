use Rattle.f2b_world.proofs.SetLemmas.{any_found}
use Rattle.f2b_world.proofs.pattern.set.SetMatcher.any.Goals as goal

pub returns-clause-found : goal.returns-clause-found
returns-clause-found c =
    rw (← c.self.view_is) (any_found _ _ c.self.invariant _ (λ k. (c.type_inv.line k).fits) _ c.is_match.ensures.found)
