-- Lists in which the first element of a kind is changed.
use Rattle.std.specs.Prelude.{Bool, List, [], ◌∷◌, if◌then◌else◌}

-- the list, where the first element that passes is changed, if there is one
abbrev pub at_first : {A : Type 0} → (A → Bool) → (A → A) → List A → List A
at_first test change [] = []
at_first test change (x ∷ xs) = if test x then change x ∷ xs else x ∷ at_first test change xs
