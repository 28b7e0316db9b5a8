-- Results one behind the other, up to the first fault.
use Rattle.std.specs.Prelude.{List, [], ◌∷◌, ◌++◌, Result, Ok, Err}

-- both lists, one behind the other, or the first fault
abbrev pub followed : {A E : Type 0} → Result (List A) E → Result (List A) E → Result (List A) E
followed (Err fault) next = Err fault
followed (Ok xs) (Err fault) = Err fault
followed (Ok xs) (Ok ys) = Ok (xs ++ ys)

-- what each of them gives, one behind the other, or the first fault
abbrev pub in_turn : {X A E : Type 0} → (X → Result (List A) E) → List X → Result (List A) E
in_turn give [] = Ok []
in_turn give (x ∷ xs) = followed (give x) (in_turn give xs)
