-- The whole lines among the bytes of a log.
use Rattle.std.specs.Prelude.{ℕ, ◌==◌, nat_lt, if◌then◌else◌, List, [], ◌∷◌, ◌++◌, length, drop, map}
use Rattle.std.specs.List.{slice_split}
use Rattle.std.specs.Str.Lines.{strip_carriage_return}
use Rattle.log_follow.specs.Decoded.{decoded}
use Rattle.log_follow.specs.declared.line.Line.{Line}
use Rattle.log_follow.specs.declared.line.Line.TheVariants.{Whole, Long}

-- all lists but the last
abbrev pub but_last : List (List ℕ) → List (List ℕ)
but_last [] = []
but_last (piece ∷ []) = []
but_last (piece ∷ next ∷ more) = piece ∷ but_last (next ∷ more)

-- the last list
abbrev pub last_of : List (List ℕ) → List ℕ
last_of [] = []
last_of (piece ∷ []) = piece
last_of (piece ∷ next ∷ more) = last_of (next ∷ more)

-- the pieces before, between and behind the LFs: one more than there are LFs
unfoldable pub pieces_of : List ℕ → List (List ℕ)
pieces_of = slice_split (λ byte. byte == 10)

-- the parts that end in LF, each without it
unfoldable pub parts_of : List ℕ → List (List ℕ)
parts_of bytes = but_last (pieces_of bytes)

-- what follows the last LF
unfoldable pub rest_of : List ℕ → List ℕ
rest_of bytes = last_of (pieces_of bytes)

-- the line of a part: more than 65,536 bytes are long, and of others one CR at the end is dropped
unfoldable pub line_of : List ℕ → Line
line_of part = if nat_lt 65536 (length part) then Long else Whole (decoded (strip_carriage_return part))

-- the whole lines
abbrev pub lines_of : List ℕ → List Line
lines_of seen = map line_of (parts_of seen)

-- the lines that become whole where more bytes come behind those that were seen
abbrev pub new_lines : List ℕ → List ℕ → List Line
new_lines seen bytes = drop (length (lines_of seen)) (lines_of (seen ++ bytes))
