use Rattle.std.proofs.Common.{◌≡◌, drop}
use Rattle.f2b_mem.specs.Files.{file_in}
use Rattle.f2b_mem.proofs.files.file_in.Given as goal

abbrev pub invariant-loop-file : goal.invariant-loop-file
invariant-loop-file l = file_in (drop l.file-index l.files) l.path ≡ file_in l.files l.path
