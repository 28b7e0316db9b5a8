use Rattle.std.proofs.Common.{All, take}
use Rattle.f2b_world.specs.Bounds.{FitsFile}
use Rattle.f2b_mem.proofs.tree_bounds.know_files.Given as goal

abbrev pub invariant-loop-file : goal.invariant-loop-file
invariant-loop-file l = All FitsFile (take l.file-index l.files)
