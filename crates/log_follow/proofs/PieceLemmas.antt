-- The pieces between LFs: where bytes are cut, and where bytes come behind others.
use Rattle.std.proofs.Common.{ℕ, ◌≡◌, ◌==◌, ◌<◌, Bool, true, false, List, [], ◌∷◌, ◌++◌, length, refl, sym, ap, ◌∙◌, arith, length-append}
use Rattle.std.specs.List.{All, onto_first}
use Rattle.std.proofs.lemmas.List.Elements.{All-nil, All-cons, All-append}
use Rattle.std.proofs.lemmas.List.Splits.{slice_split-cons_yes, slice_split-cons_no, slice_split_none, slice_split_at, length-slice_split}
use Rattle.log_follow.specs.Lines.{but_last, last_of, pieces_of, parts_of, rest_of}

-- whether a byte is an LF
abbrev pub is_end : ℕ → Bool
is_end byte = byte == 10

-- there is no LF
abbrev pub IsOpen : List ℕ → Type 0
IsOpen bytes = All (λ byte. is_end byte ≡ false) bytes

but_last-cons : (piece : List ℕ) (pieces : List (List ℕ)) → 0 < length pieces → but_last (piece ∷ pieces) ≡ piece ∷ but_last pieces
but_last-cons piece [] some = absurd (omega arith)
but_last-cons piece (next ∷ more) some = refl

last_of-cons : (piece : List ℕ) (pieces : List (List ℕ)) → 0 < length pieces → last_of (piece ∷ pieces) ≡ last_of pieces
last_of-cons piece [] some = absurd (omega arith)
last_of-cons piece (next ∷ more) some = refl

-- behind a list, what stands before the last one stays before it
but_last-append : (front pieces : List (List ℕ)) → 0 < length pieces → but_last (front ++ pieces) ≡ front ++ but_last pieces
but_last-append [] pieces some = refl
but_last-append (piece ∷ front) pieces some =
    but_last-cons piece (front ++ pieces) (omega (arith, length-append front pieces))
    ∙ ap (λ (more : List (List ℕ)). piece ∷ more) (but_last-append front pieces some)

last_of-append : (front pieces : List (List ℕ)) → 0 < length pieces → last_of (front ++ pieces) ≡ last_of pieces
last_of-append [] pieces some = refl
last_of-append (piece ∷ front) pieces some =
    last_of-cons piece (front ++ pieces) (omega (arith, length-append front pieces)) ∙ last_of-append front pieces some

-- there is a piece, however few the bytes
pub pieces_some : (bytes : List ℕ) → 0 < length (pieces_of bytes)
unfolding pieces_of
pieces_some bytes = omega (arith, length-slice_split is_end bytes)

pieces-end : (byte : ℕ) (bytes : List ℕ) → is_end byte ≡ true → pieces_of (byte ∷ bytes) ≡ [] ∷ pieces_of bytes
unfolding pieces_of
pieces-end byte bytes ends = slice_split-cons_yes is_end byte bytes ends

pieces-other : (byte : ℕ) (bytes : List ℕ) → is_end byte ≡ false → pieces_of (byte ∷ bytes) ≡ onto_first byte (pieces_of bytes)
unfolding pieces_of
pieces-other byte bytes other = slice_split-cons_no is_end byte bytes other

-- a byte before the pieces of some bytes: the last piece is still the one that more bytes join
append_other : (byte : ℕ) (pieces all : List (List ℕ)) (more : List ℕ) → is_end byte ≡ false → all ≡ but_last pieces ++ pieces_of (last_of pieces ++ more)
    → onto_first byte all ≡ but_last (onto_first byte pieces) ++ pieces_of (last_of (onto_first byte pieces) ++ more)
append_other byte [] all more other cut = ap (onto_first byte) cut ∙ sym (pieces-other byte more other)
append_other byte (piece ∷ []) all more other cut = ap (onto_first byte) cut ∙ sym (pieces-other byte (piece ++ more) other)
append_other byte (piece ∷ next ∷ rest) all more other cut = ap (onto_first byte) cut

append_end : (pieces all : List (List ℕ)) (more : List ℕ) → 0 < length pieces → all ≡ but_last pieces ++ pieces_of (last_of pieces ++ more)
    → [] ∷ all ≡ but_last ([] ∷ pieces) ++ pieces_of (last_of ([] ∷ pieces) ++ more)
append_end pieces all more some cut =
    rw (but_last-cons [] pieces some, last_of-cons [] pieces some) (ap (λ (r : List (List ℕ)). [] ∷ r) cut)

append_byte : (byte : ℕ) (bytes more : List ℕ) (ends : Bool) → is_end byte ≡ ends
    → pieces_of (bytes ++ more) ≡ but_last (pieces_of bytes) ++ pieces_of (last_of (pieces_of bytes) ++ more)
    → pieces_of (byte ∷ bytes ++ more) ≡ but_last (pieces_of (byte ∷ bytes)) ++ pieces_of (last_of (pieces_of (byte ∷ bytes)) ++ more)
append_byte byte bytes more true is cut =
    rw (pieces-end byte (bytes ++ more) is, pieces-end byte bytes is) (append_end (pieces_of bytes) (pieces_of (bytes ++ more)) more (pieces_some bytes) cut)
append_byte byte bytes more false is cut =
    rw (pieces-other byte (bytes ++ more) is, pieces-other byte bytes is) (append_other byte (pieces_of bytes) (pieces_of (bytes ++ more)) more is cut)

append_none : (more : List ℕ) → pieces_of more ≡ but_last (pieces_of []) ++ pieces_of (last_of (pieces_of []) ++ more)
unfolding pieces_of
append_none more = refl

-- bytes that come behind others join their last piece
pieces-append : (bytes more : List ℕ) → pieces_of (bytes ++ more) ≡ but_last (pieces_of bytes) ++ pieces_of (last_of (pieces_of bytes) ++ more)
pieces-append [] more = append_none more
pieces-append (byte ∷ bytes) more = append_byte byte bytes more (is_end byte) refl (pieces-append bytes more)

-- the parts of bytes behind others are those of the rest with these bytes
pub parts-append : (bytes more : List ℕ) → parts_of (bytes ++ more) ≡ parts_of bytes ++ parts_of (rest_of bytes ++ more)
unfolding parts_of rest_of
parts-append bytes more =
    ap but_last (pieces-append bytes more) ∙ but_last-append (but_last (pieces_of bytes)) _ (pieces_some (last_of (pieces_of bytes) ++ more))

pub rest-append : (bytes more : List ℕ) → rest_of (bytes ++ more) ≡ rest_of (rest_of bytes ++ more)
unfolding rest_of
rest-append bytes more =
    ap last_of (pieces-append bytes more) ∙ last_of-append (but_last (pieces_of bytes)) _ (pieces_some (last_of (pieces_of bytes) ++ more))

open_other : (byte : ℕ) (pieces : List (List ℕ)) → is_end byte ≡ false → IsOpen (last_of pieces) → IsOpen (last_of (onto_first byte pieces))
open_other byte [] other is = All-cons (λ b. is_end b ≡ false) byte [] other is
open_other byte (piece ∷ []) other is = All-cons (λ b. is_end b ≡ false) byte piece other is
open_other byte (piece ∷ next ∷ more) other is = is

open_byte : (byte : ℕ) (bytes : List ℕ) (ends : Bool) → is_end byte ≡ ends → IsOpen (last_of (pieces_of bytes)) → IsOpen (last_of (pieces_of (byte ∷ bytes)))
open_byte byte bytes true is more = rw (pieces-end byte bytes is, last_of-cons [] (pieces_of bytes) (pieces_some bytes)) more
open_byte byte bytes false is more = rw (pieces-other byte bytes is) (open_other byte (pieces_of bytes) is more)

open_none : IsOpen (last_of (pieces_of []))
unfolding pieces_of
open_none = All-nil (λ b. is_end b ≡ false)

last_open : (bytes : List ℕ) → IsOpen (last_of (pieces_of bytes))
last_open [] = open_none
last_open (byte ∷ bytes) = open_byte byte bytes (is_end byte) refl (last_open bytes)

-- no LF follows the last one
pub rest_open : (bytes : List ℕ) → IsOpen (rest_of bytes)
unfolding rest_of
rest_open bytes = last_open bytes

-- where there is no LF, all is rest
pub parts-open : (bytes : List ℕ) → IsOpen bytes → parts_of bytes ≡ []
unfolding parts_of pieces_of
parts-open bytes is = ap but_last (slice_split_none is_end bytes is)

pub rest-open : (bytes : List ℕ) → IsOpen bytes → rest_of bytes ≡ bytes
unfolding rest_of pieces_of
rest-open bytes is = ap last_of (slice_split_none is_end bytes is)

-- the first part ends at the first LF
pub parts-cut : (bytes more : List ℕ) → IsOpen bytes → parts_of (bytes ++ 10 ∷ more) ≡ bytes ∷ parts_of more
unfolding parts_of pieces_of
parts-cut bytes more is = ap but_last (slice_split_at is_end bytes 10 more is refl) ∙ but_last-cons bytes (pieces_of more) (pieces_some more)

rest-cut_open : (bytes more : List ℕ) → IsOpen bytes → rest_of (bytes ++ 10 ∷ more) ≡ rest_of more
unfolding rest_of pieces_of
rest-cut_open bytes more is = ap last_of (slice_split_at is_end bytes 10 more is refl) ∙ last_of-cons bytes (pieces_of more) (pieces_some more)

-- the rest follows any LF
pub rest-cut : (bytes more : List ℕ) → rest_of (bytes ++ 10 ∷ more) ≡ rest_of more
rest-cut bytes more = rest-append bytes (10 ∷ more) ∙ rest-cut_open (rest_of bytes) more (rest_open bytes)

-- bytes without an LF behind others without one
pub open-append : (bytes more : List ℕ) → IsOpen bytes → IsOpen more → IsOpen (bytes ++ more)
open-append bytes more front back = All-append (λ byte. is_end byte ≡ false) bytes more front back
