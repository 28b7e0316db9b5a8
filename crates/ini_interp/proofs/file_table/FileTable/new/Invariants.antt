use Rattle.std.proofs.Common.{◌≡◌, [], drop}
use Rattle.std.specs.List.{fold}
use Rattle.ini_interp.specs.Merges.{with_file}
use Rattle.ini_interp.proofs.file_table.FileTable.new.Given as goal

abbrev pub invariant-loop-file : goal.invariant-loop-file
invariant-loop-file l = fold with_file [] l.tree.files ≡ fold with_file l.files (drop l.file-index l.tree.files)
