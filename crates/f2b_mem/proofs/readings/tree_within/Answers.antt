use Rattle.std.proofs.Common.{◌≡◌, ◌∙◌, List, All, true, sym, subst, ap}
use Rattle.f2b_base.specs.declared.outside.Tree.{Tree}
use Rattle.f2b_base.specs.declared.outside.TreeFile.{TreeFile}
use Rattle.f2b_world.specs.Bounds.{FitsFile}
use Rattle.f2b_world.specs.Trees.{IsTree}
use Rattle.f2b_mem.specs.TreeBounds.{is_tree}
use Rattle.f2b_mem.proofs.BoundLemmas.{keeps_bounds}
use Rattle.f2b_mem.proofs.readings.tree_within.Goals as goal

pub returns-clause-bounds : goal.returns-clause-bounds
returns-clause-bounds c =
    let holds : is_tree c.args.tree.now.files ≡ true = cc in
    let P : Tree → Type 0 = λ t. IsTree t in
    subst P (sym c.in_ok-copy.ensures) (keeps_bounds c.args.tree.now holds)

pub returns-clause-texts : goal.returns-clause-texts
returns-clause-texts c =
    let P : List TreeFile → Type 0 = λ xs. All FitsFile xs in
    let same : c.as_slice-files.result.now ≡ c.in_ok-copy.field-0.files = c.as_slice-files.ensures ∙ ap (λ (t : Tree). t.files) (sym c.in_ok-copy.ensures) in
    subst P same c.know_files.ensures
