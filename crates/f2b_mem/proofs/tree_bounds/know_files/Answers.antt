use Rattle.std.proofs.Common.{◌≤◌, length, List, All, take_all, subst, arith}
use Rattle.std.proofs.lemmas.List.Elements.{All-more}
use Rattle.f2b_base.specs.declared.outside.TreeFile.{TreeFile}
use Rattle.f2b_world.specs.Bounds.{FitsFile}
use Rattle.f2b_mem.proofs.tree_bounds.know_files.Goals as goal

pub loop-file-preserved : goal.loop-file-preserved
loop-file-preserved c =
    let P : TreeFile → Type 0 = λ f. FitsFile f in
    All-more P c.args.files.now c.loop-file.file-index c.file-item.result c.loop-file-test.true c.loop-file.invariant (subst P c.file-item.is c.know_file.ensures)

pub returns : goal.returns
returns c =
    let le : length c.args.files.now ≤ c.loop-file.file-index = omega (arith, c.loop-file-test.false) in
    let P : List TreeFile → Type 0 = λ xs. All FitsFile xs in
    subst P (take_all c.loop-file.file-index c.args.files.now le) c.loop-file.invariant
