-- What a raw value is made of: bytes that stand for themselves, `%%`, and references `%(NAME)s`.
use Rattle.std.specs.Prelude.{ℕ, zero, suc, ◌+◌, ◌==◌, slice_index, List, [], ◌∷◌, length, drop, Option, None, Some, if◌then◌else◌, Bool}
use Rattle.std.specs.List.{before_first, after_first}

-- a piece of a raw value
pub data Piece : Type 0 where
  -- a byte that is no percent sign
  Byte : ℕ → Piece
  -- `%%`
  Percent : Piece
  -- `%(NAME)s`, where NAME is any text without `)`
  Reference : List ℕ → Piece
  -- a percent sign that begins neither, with its offset in the raw value
  Stray : ℕ → Piece

abbrev pub is_percent : ℕ → Bool
is_percent x = x == 37

abbrev pub is_open : ℕ → Bool
is_open x = x == 40

abbrev pub is_close : ℕ → Bool
is_close x = x == 41

-- the NAME, where these bytes begin with `NAME)s`
unfoldable pub referred : List ℕ → Option (List ℕ)
referred bytes = if slice_index (after_first is_close bytes) 0 == 115 then Some (before_first is_close bytes) else None

-- the reference to this NAME, with the length of `(NAME)s`, or else a stray percent sign
abbrev pub reference_or_stray : ℕ → Option (List ℕ) → Piece × ℕ
reference_or_stray at None = (Stray at, 0)
reference_or_stray at (Some name) = (Reference name, length name + 3)

-- the piece that a percent sign at this offset begins, and how many of the bytes behind it are its own
unfoldable pub percent_piece : ℕ → List ℕ → Piece × ℕ
percent_piece at [] = (Stray at, 0)
percent_piece at (x ∷ xs) =
    if is_percent x then (Percent, 1) else if is_open x then reference_or_stray at (referred xs) else (Stray at, 0)

-- the piece that a byte at this offset begins, and how many of the bytes behind it are its own
unfoldable pub piece_at : ℕ → ℕ → List ℕ → Piece × ℕ
piece_at at x xs = if is_percent x then percent_piece at xs else (Byte x, 0)

-- the pieces of the bytes from this offset on, but for the first `skip` bytes, which belong to the piece before them
unfoldable pub pieces_from : ℕ → ℕ → List ℕ → List Piece
pieces_from at skip [] = []
pieces_from at (suc skip) (x ∷ xs) = pieces_from (at + 1) skip xs
pieces_from at zero (x ∷ xs) = (piece_at at x xs).0 ∷ pieces_from (at + 1) (piece_at at x xs).1 xs

-- the pieces of a raw value, from left to right
abbrev pub pieces : List ℕ → List Piece
pieces raw = pieces_from 0 0 raw
