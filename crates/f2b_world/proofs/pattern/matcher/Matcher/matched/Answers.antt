use Rattle.f2b_world.proofs.MatchLemmas.{found_whole, found_groups, no_whole}
use Rattle.f2b_world.proofs.pattern.matcher.Matcher.matched.Goals as goal
use Rattle.f2b_world.proofs.pattern.matcher.Matcher.matched.Goals.{in-Some, in-None}

pub returns-clause-whole : goal.returns-clause-whole
returns-clause-whole c = elim c.match-captures.branch [
  | in-Some w ↦
      let f = w.in-Some.ensures.found in
      rw (w.result-is, w.whole_at.ensures.value, ← c.self.view_is)
      (found_whole _ _ _ c.self.invariant.read _ (λ k. (c.type_inv.line k).fits) f.0 w.in-Some.captures f.1 f.2)
  | in-None w ↦
      rw (w.result-is, ← c.self.view_is) (no_whole _ _ _ c.self.invariant.read _ (λ k. (c.type_inv.line k).fits) w.in-None.ensures.found)
]

pub returns-clause-groups : goal.returns-clause-groups
returns-clause-groups c = elim c.match-captures.branch [
  | in-Some w ↦
      let f = w.in-Some.ensures.found in
      rw (w.result-is, w.cuts-is, w.write_groups.ensures.value, ← c.self.view_is)
      (found_groups _ _ _ c.self.invariant.read _ (λ k. (c.type_inv.line k).fits) f.0 w.in-Some.captures f.1 f.2 c.args.numbers.now)
  | in-None w ↦ rw w.result-is tt
]
