use Rattle.std.proofs.Common.{◌≡◌, drop}
use Rattle.f2b_mem.specs.TreeBounds.{are_configured}
use Rattle.f2b_mem.proofs.tree_bounds.are_configured.Given as goal

abbrev pub invariant-loop-file : goal.invariant-loop-file
invariant-loop-file l = are_configured (drop l.file-index l.files) ≡ are_configured l.files
