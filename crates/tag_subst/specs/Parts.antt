-- What is left of a template.
use Rattle.std.specs.Prelude.{ℕ, ◌==◌, List, [], Option, None, Some}
use Rattle.std.specs.List.{slice_split}

-- the parts of what is left behind a `<`, if there is one
abbrev pub parts_of : Option (List ℕ) → List (List ℕ)
parts_of None = []
parts_of (Some rest) = slice_split (λ b. b == 60) rest
