use Rattle.std.proofs.Common.{◌++◌, ap, sym, ◌∙◌, rules, option_copied}
use Rattle.f2b_model.specs.Render.{rendered, filled_parts, filled_after}
use Rattle.tag_subst.specs.Parts.{parts_of}
use Rattle.tag_subst.proofs.renders.render.Goals as goal

pub parts-init : goal.parts-init
unfolding rendered
parts-init c = (
  search rules,
  ap (λ out. out ++ filled_after c.args.fill.now c.cut.result.0.now (parts_of (option_copied c.cut.result.1))) c.in_ok-out.ensures
      ∙ sym (ap (filled_parts c.args.fill.now) c.cut.ensures.parts),
)
