use Rattle.std.proofs.Common.{◌≡◌, ◌++◌, drop}
use Rattle.tag_subst.specs.Values.{without_options}
use Rattle.tag_subst.proofs.tag_values.without_options.Given as goal

abbrev pub invariant-loop-section : goal.invariant-loop-section
invariant-loop-section l = l.known ++ without_options (drop l.section-index l.scope) ≡ without_options l.scope
