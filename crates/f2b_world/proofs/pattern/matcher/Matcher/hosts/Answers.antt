use Rattle.f2b_world.proofs.MatchLemmas.{found_hosts, no_hosts}
use Rattle.f2b_world.proofs.pattern.matcher.Matcher.hosts.Goals as goal
use Rattle.f2b_world.proofs.pattern.matcher.Matcher.hosts.Goals.{in-Some, in-None}

pub returns-clause-found : goal.returns-clause-found
returns-clause-found c = elim c.match-captures.branch [
  | in-Some w ↦
      let f = w.in-Some.ensures.found in
      rw (w.result-is, w.hosts_at.ensures.value, ← c.self.view_is)
      (found_hosts _ _ _ c.self.invariant.read _ (λ k. (c.type_inv.line k).fits) f.0 w.in-Some.captures f.1 f.2 _ c.self.invariant.numbered)
  | in-None w ↦
      rw (w.result-is, ← c.self.view_is) (no_hosts _ _ _ c.self.invariant.read _ (λ k. (c.type_inv.line k).fits) w.in-None.ensures.found)
]
