-- The files of a list.
use Rattle.std.specs.Prelude.{ℕ, if◌then◌else◌, Option, Some, None, List, [], ◌∷◌}
use Rattle.std.specs.Str.{bytes_eq}
use Rattle.f2b_base.specs.declared.outside.TreeFile.{TreeFile}

-- the content of the first file of that path
abbrev pub file_in : List TreeFile → List ℕ → Option (List ℕ)
file_in [] path = None
file_in (file ∷ files) path = if bytes_eq file.path path then Some file.content else file_in files path
