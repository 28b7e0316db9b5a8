use Rattle.std.proofs.Common.{◌≡◌, ◌++◌, map, filter}
use Rattle.ini_interp.specs.Merges.{stands_in, paths_in}
use Rattle.ini_interp.specs.Paths.{contents_of}
use Rattle.ini_interp.proofs.file_table.FileTable.push_paths.Given as goal

abbrev pub invariant-loop-path : goal.invariant-loop-path
invariant-loop-path l =
    l.paths ++ filter (stands_in l.directory l.ending) (map (λ file. file.0) (contents_of l.path-iterator))
    ≡ l.initial.paths ++ paths_in l.self l.directory l.ending
