use Rattle.std.proofs.Common.{sym, ap, ◌∙◌}
use Rattle.f2b_world.specs.Captured.{host_numbers}
use Rattle.f2b_world.proofs.ReadingLemmas.{read_as}
use Rattle.f2b_world.proofs.pattern.Pattern.matcher.Goals as goal

pub invariant_of-result : goal.invariant_of-result
invariant_of-result c =
    let inside = c.self.invariant in
    record {
      read = rw (c.in_ok-inner.ensures.pattern, c.in_ok-inner.ensures.names, ← c.self.view_is)
          (read_as _ _ _ (rw inside.0 at inside.1));
      numbered = c.host_numbers.ensures ∙ ap host_numbers (sym c.in_ok-inner.ensures.names);
    }
