use Rattle.std.proofs.Common.{◌≡◌, leb, drop}
use Rattle.f2b_world.specs.Trees.{bytes_in}
use Rattle.f2b_mem.proofs.tree_bounds.are_small.Given as goal

abbrev pub invariant-loop-file : goal.invariant-loop-file
invariant-loop-file l = leb (bytes_in (drop l.file-index l.files)) l.room ≡ leb (bytes_in l.files) 16777216
