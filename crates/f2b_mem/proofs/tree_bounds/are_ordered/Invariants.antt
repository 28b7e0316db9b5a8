use Rattle.std.proofs.Common.{◌≡◌, [], drop}
use Rattle.f2b_mem.specs.TreeBounds.{are_ordered}
use Rattle.f2b_mem.proofs.tree_bounds.are_ordered.Given as goal

abbrev pub invariant-loop-file : goal.invariant-loop-file
invariant-loop-file l = are_ordered l.before (drop l.file-index l.files) ≡ are_ordered [] l.files
