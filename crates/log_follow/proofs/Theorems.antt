-- What a reader would ask of parts, rests and lines.
use Rattle.std.proofs.Common.{ℕ, ◌≡◌, List, [], ◌∷◌, ◌++◌, length, drop, map, refl, sym, ap, ◌∙◌, append_assoc}
use Rattle.std.specs.List.{flat_map, join_with_byte}
use Rattle.std.proofs.Math.Seq.{drop-append_seam}
use Rattle.std.proofs.lemmas.List.{map-append}
use Rattle.std.proofs.lemmas.List.Splits.{join_with_byte-slice_split}
use Rattle.log_follow.specs.declared.line.Line.{Line}
use Rattle.log_follow.specs.Lines.{but_last, last_of, pieces_of, parts_of, rest_of, line_of, lines_of, new_lines}
use Rattle.log_follow.proofs.PieceLemmas.{parts-append, rest-append}
use Rattle.log_follow.proofs.FollowLemmas.{new_lines-rest}

-- a part with its LF
abbrev pub with_end : List ℕ → List ℕ
with_end part = part ++ 10 ∷ []

joined-pieces : (pieces : List (List ℕ)) → join_with_byte 10 pieces ≡ flat_map with_end (but_last pieces) ++ last_of pieces
joined-pieces [] = refl
joined-pieces (piece ∷ []) = refl
joined-pieces (piece ∷ next ∷ more) =
    let joined = joined-pieces (next ∷ more) in
    let parts = flat_map with_end (but_last (next ∷ more)) in
    ap (λ (bytes : List ℕ). piece ++ 10 ∷ bytes) joined
    ∙ sym (append_assoc (with_end piece) parts (last_of (next ∷ more)) ∙ append_assoc piece (10 ∷ []) (parts ++ last_of (next ∷ more)))

-- the parts, each with its LF, and the rest are the bytes
pub parts_and_rest : (bytes : List ℕ) → flat_map with_end (parts_of bytes) ++ rest_of bytes ≡ bytes
unfolding parts_of rest_of pieces_of
parts_and_rest bytes = sym (joined-pieces (pieces_of bytes)) ∙ join_with_byte-slice_split 10 bytes

-- more bytes take no part back: the parts of all begin with those that were there
pub parts_stay : (bytes more : List ℕ) → parts_of (bytes ++ more) ≡ parts_of bytes ++ parts_of (rest_of bytes ++ more)
parts_stay = parts-append

-- only the rest counts for what more bytes bring
pub rest_counts : (bytes more : List ℕ) → rest_of (bytes ++ more) ≡ rest_of (rest_of bytes ++ more)
rest_counts = rest-append

-- the lines of all bytes are those that were whole, and then the new ones
pub lines_grow : (seen bytes : List ℕ) → lines_of (seen ++ bytes) ≡ lines_of seen ++ new_lines seen bytes
lines_grow seen bytes =
    ap (map line_of) (parts-append seen bytes)
    ∙ map-append line_of (parts_of seen) (parts_of (rest_of seen ++ bytes))
    ∙ ap (λ (lines : List Line). lines_of seen ++ lines) (sym (new_lines-rest seen bytes))

-- it does not matter where bytes are cut
pub cut_anywhere : (seen bytes more : List ℕ) → new_lines seen (bytes ++ more) ≡ new_lines seen bytes ++ new_lines (seen ++ bytes) more
cut_anywhere seen bytes more =
    let all : lines_of (seen ++ (bytes ++ more)) ≡ lines_of seen ++ (new_lines seen bytes ++ new_lines (seen ++ bytes) more) =
    ap lines_of (sym (append_assoc seen bytes more))
    ∙ lines_grow (seen ++ bytes) more
    ∙ ap (λ (lines : List Line). lines ++ new_lines (seen ++ bytes) more) (lines_grow seen bytes)
    ∙ append_assoc (lines_of seen) (new_lines seen bytes) (new_lines (seen ++ bytes) more) in
    ap (drop (length (lines_of seen))) all ∙ drop-append_seam (lines_of seen) (new_lines seen bytes ++ new_lines (seen ++ bytes) more)
