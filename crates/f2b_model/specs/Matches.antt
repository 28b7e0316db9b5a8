-- The lines that a ban shows: those of the failures that led to it.
use Rattle.std.specs.Prelude.{ℕ, ◌-◌, nat_lt, nat_le, List, [], ◌∷◌, ◌++◌, length, drop, map, codes, if◌then◌else◌}
use Rattle.std.specs.List.{filter}
use Rattle.f2b_base.specs.declared.ban.Failure.{Failure}
use Rattle.f2b_model.specs.Escapes.{escaped}

-- the most bytes that a ban shows
abbrev pub matches_bytes : ℕ
matches_bytes = 8192

-- the last ones of a list, as many as the number says
abbrev pub last_ones : {A : Type 0} → ℕ → List A → List A
last_ones number xs = drop (length xs - number) xs

-- the lines as one, with ` / ` between them
abbrev pub joined : List (List ℕ) → List ℕ
joined [] = []
joined (line ∷ []) = line
joined (line ∷ next ∷ lines) = line ++ (codes " / " ++ joined (next ∷ lines))

-- of the lines the last ones, as many as fit
abbrev pub fitting : List (List ℕ) → List (List ℕ)
fitting [] = []
fitting (line ∷ lines) = if nat_le (length (joined (line ∷ lines))) matches_bytes then line ∷ lines else fitting lines

-- the lines of failures, as far as they have one
abbrev pub lines_of : List Failure → List (List ℕ)
lines_of fs = filter (λ line. nat_lt 0 (length line)) (map (λ (f : Failure). f.line) fs)

-- what a ban shows of these failures, which stand by time: of their lines the last `maxmatches`, escaped
unfoldable pub matches_of : ℕ → List Failure → List ℕ
matches_of maxmatches fs = joined (fitting (map escaped (last_ones maxmatches (lines_of fs))))
