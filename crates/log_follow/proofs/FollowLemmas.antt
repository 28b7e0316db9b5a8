-- What bytes bring behind those that were seen.
use Rattle.std.proofs.Common.{ℕ, ◌≡◌, ◌+◌, ◌-◌, ◌<◌, ◌≤◌, List, [], ◌∷◌, ◌++◌, length, take, drop, map, sym, ap, ◌∙◌, append_assoc, append-nil, false, arith}
use Rattle.std.proofs.lemmas.List.{map-append}
use Rattle.std.proofs.lemmas.List.Elements.{All-nil}
use Rattle.std.proofs.Math.Seq.{drop-append_seam}
use Rattle.memchr.specs.Find.{Nowhere, NoneBefore, Passes, is_byte}
use Rattle.log_follow.specs.Carried.{carry_of, Carries}
use Rattle.log_follow.specs.declared.carry.Carry.{Carry}
use Rattle.log_follow.specs.declared.carry.Carry.TheVariants.{Kept}
use Rattle.log_follow.specs.declared.line.Line.{Line}
use Rattle.log_follow.specs.Lines.{parts_of, rest_of, line_of, lines_of, new_lines}
use Rattle.log_follow.proofs.PieceLemmas.{is_end, IsOpen, rest_open, open-append, parts-open, rest-open, parts-cut, rest-cut, parts-append, rest-append}
use Rattle.log_follow.proofs.CutLemmas.{all_open, front_open, cut_at, parts-first, length-rest}
use Rattle.log_follow.proofs.CarryLemmas.{carry_of-short}

-- the new lines are those of the rest with the bytes
pub new_lines-rest : (seen bytes : List ℕ) → new_lines seen bytes ≡ lines_of (rest_of seen ++ bytes)
new_lines-rest seen bytes =
    ap (λ (lines : List Line). drop (length (lines_of seen)) lines)
    (ap (map line_of) (parts-append seen bytes) ∙ map-append line_of (parts_of seen) (parts_of (rest_of seen ++ bytes)))
    ∙ drop-append_seam (lines_of seen) (lines_of (rest_of seen ++ bytes))

-- without an LF there is no new line, and all bytes join the rest
pub new_lines-none : (seen bytes : List ℕ) → Nowhere (Passes (is_byte 10) bytes) 0 (length bytes) → new_lines seen bytes ≡ []
new_lines-none seen bytes none =
    new_lines-rest seen bytes ∙ ap (map line_of) (parts-open (rest_of seen ++ bytes) (open-append (rest_of seen) bytes (rest_open seen) (all_open bytes none)))

pub rest-none : (seen bytes : List ℕ) → Nowhere (Passes (is_byte 10) bytes) 0 (length bytes) → rest_of (seen ++ bytes) ≡ rest_of seen ++ bytes
rest-none seen bytes none =
    rest-append seen bytes ∙ rest-open (rest_of seen ++ bytes) (open-append (rest_of seen) bytes (rest_open seen) (all_open bytes none))

-- the first new line is the rest with the bytes before the first LF
pub new_lines-some : (seen bytes : List ℕ) (k : ℕ) → NoneBefore (Passes (is_byte 10) bytes) 0 (length bytes) k → Passes (is_byte 10) bytes k
    → new_lines seen bytes ≡ line_of (rest_of seen ++ take k bytes) ∷ lines_of (drop (k + 1) bytes)
new_lines-some seen bytes k before ends =
    let front : IsOpen (take k bytes) = front_open bytes k (omega (arith, before.high)) before.before in
    let cut : rest_of seen ++ bytes ≡ (rest_of seen ++ take k bytes) ++ 10 ∷ drop (k + 1) bytes =
    ap (λ (back : List ℕ). rest_of seen ++ back) (cut_at bytes k before.high ends) ∙ sym (append_assoc (rest_of seen) (take k bytes) (10 ∷ drop (k + 1) bytes)) in
    new_lines-rest seen bytes
    ∙ ap lines_of cut
    ∙ ap (map line_of) (parts-cut (rest_of seen ++ take k bytes) (drop (k + 1) bytes) (open-append (rest_of seen) (take k bytes) (rest_open seen) front))

pub rest-some : (seen bytes : List ℕ) (k : ℕ) → k < length bytes → Passes (is_byte 10) bytes k → rest_of (seen ++ bytes) ≡ rest_of (drop (k + 1) bytes)
rest-some seen bytes k within ends =
    let cut : seen ++ bytes ≡ (seen ++ take k bytes) ++ 10 ∷ drop (k + 1) bytes =
    ap (λ (back : List ℕ). seen ++ back) (cut_at bytes k within ends) ∙ sym (append_assoc seen (take k bytes) (10 ∷ drop (k + 1) bytes)) in
    ap rest_of cut ∙ rest-cut (seen ++ take k bytes) (drop (k + 1) bytes)

-- one line more: what is left begins with it
pub push_line : (lines all : List Line) (line : Line) (rest part next : List ℕ) (k : ℕ) → NoneBefore (Passes (is_byte 10) rest) 0 (length rest) k → Passes (is_byte 10) rest k
    → lines ++ lines_of rest ≡ all → line ≡ line_of part → part ≡ take k rest → next ≡ drop (k + 1) rest → (lines ++ line ∷ []) ++ lines_of next ≡ all
push_line lines all line rest part next k before ends left made front back =
    let first : lines_of rest ≡ line ∷ lines_of next =
    ap (map line_of) (parts-first rest k before ends)
    ∙ ap (λ (bytes : List ℕ). line_of bytes ∷ lines_of (drop (k + 1) rest)) (sym front)
    ∙ ap (λ (bytes : List ℕ). line_of part ∷ lines_of bytes) (sym back)
    ∙ ap (λ (one : Line). one ∷ lines_of next) (sym made) in
    append_assoc lines (line ∷ []) (lines_of next) ∙ ap (λ (more : List Line). lines ++ more) (sym first) ∙ left

-- no line more
pub push_none : (lines all : List Line) (rest : List ℕ) → Nowhere (Passes (is_byte 10) rest) 0 (length rest) → lines ++ lines_of rest ≡ all → lines ≡ all
push_none lines all rest none left =
    sym (append-nil lines) ∙ ap (λ (parts : List (List ℕ)). lines ++ map line_of parts) (sym (parts-open rest (all_open rest none))) ∙ left

-- what is kept behind bytes, the last of which have no LF
pub carries_none : (old new : Carry) (seen bytes : List ℕ) → Nowhere (Passes (is_byte 10) bytes) 0 (length bytes) → Carries old seen
    → ((rest : List ℕ) → old ≡ carry_of rest → new ≡ carry_of (rest ++ bytes)) → Carries new (seen ++ bytes)
carries_none old new seen bytes none carries joined = joined (rest_of seen) carries ∙ ap carry_of (sym (rest-none seen bytes none))

-- what is kept behind bytes with an LF at a place among the last of them
pub carries_some : (new : Carry) (seen bytes more : List ℕ) (k : ℕ) → k < length bytes → Passes (is_byte 10) bytes k
    → more ≡ drop (k + 1) bytes → new ≡ carry_of (rest_of more) → Carries new (seen ++ bytes)
carries_some new seen bytes more k within ends back made =
    made ∙ ap (λ (r : List ℕ). carry_of (rest_of r)) back ∙ ap carry_of (sym (rest-some seen bytes k within ends))

-- the line that was open, and those that follow it, are the new lines
pub new_lines-made : (carry : Carry) (seen bytes part more : List ℕ) (line : Line) (lines : List Line) (k : ℕ) → NoneBefore (Passes (is_byte 10) bytes) 0 (length bytes) k
    → Passes (is_byte 10) bytes k → Carries carry seen → ((rest : List ℕ) → carry ≡ carry_of rest → line ≡ line_of (rest ++ part))
    → part ≡ take k bytes → more ≡ drop (k + 1) bytes → lines ≡ line ∷ lines_of more → lines ≡ new_lines seen bytes
new_lines-made carry seen bytes part more line lines k before ends carries made front back all =
    all
    ∙ ap (λ (one : Line). one ∷ lines_of more) (made (rest_of seen) carries)
    ∙ ap (λ (bytes : List ℕ). line_of (rest_of seen ++ bytes) ∷ lines_of more) front
    ∙ ap (λ (bytes' : List ℕ). line_of (rest_of seen ++ take k bytes) ∷ lines_of bytes') back
    ∙ sym (new_lines-some seen bytes k before ends)

-- nothing was seen yet, and nothing is kept
pub carry_of-none : Kept [] ≡ carry_of (rest_of [])
carry_of-none = sym (ap carry_of (rest-open [] (All-nil (λ byte. is_end byte ≡ false))) ∙ carry_of-short [] (omega arith))

-- the bytes behind a cut are no more than all
pub length-behind : (rest more bytes : List ℕ) (n : ℕ) → length rest ≤ length more → more ≡ take (length bytes - n) (drop n bytes) → length rest ≤ length bytes
length-behind rest more bytes n within is = omega (arith, ap length is, length-rest bytes n)
