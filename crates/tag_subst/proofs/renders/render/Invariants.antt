use Rattle.std.proofs.Common.{◌≡◌, ◌++◌, option_copied}
use denote.Text.{Utf8}
use denote.Shadow.{shadow}
use Rattle.f2b_model.specs.Render.{filled_after, rendered}
use Rattle.tag_subst.specs.Parts.{parts_of}
use Rattle.f2b_base.proofs.PartLemmas.{left_of}
use Rattle.tag_subst.proofs.renders.render.Given as goal

abbrev pub invariant-parts : goal.invariant-parts
invariant-parts l =
    shadow (Utf8 l.before) × (l.out ++ filled_after l.fill l.before (parts_of (option_copied l.rest)) ≡ rendered l.fn.template l.fill)

abbrev pub decreases-parts : goal.decreases-parts
decreases-parts l = left_of (option_copied l.rest)
