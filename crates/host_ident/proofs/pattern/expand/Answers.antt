use Rattle.std.proofs.Common.{◌++◌, ap, sym, ◌∙◌, rules, option_copied}
use Rattle.host_ident.specs.Expanded.{expanded, written_parts, written_after, parts_of}
use Rattle.host_ident.proofs.pattern.expand.Goals as goal

pub parts-init : goal.parts-init
unfolding expanded
parts-init c = (
  search rules,
  ap (λ written. written ++ written_after c.cut.result.0.now (parts_of (option_copied c.cut.result.1))) c.in_ok-written.ensures
      ∙ sym (ap written_parts c.cut.ensures.parts),
)
