-- Bytes, cut at the LF that a search found.
use Rattle.std.proofs.Common.{ℕ, suc, ◌≡◌, ◌<◌, ◌≤◌, ◌+◌, ◌-◌, ◌==◌, false, List, ◌∷◌, ◌++◌, length, take, drop, get_or, sym, ap, subst, ◌∙◌, arith, add-one}
use Rattle.std.proofs.lemmas.Bool.{false_from_ne_true, eqb-true}
use Rattle.std.proofs.lemmas.List.{length-take-le, length-drop, get_or-take, get_or-drop, get_or_default}
use Rattle.std.specs.List.{All}
use Rattle.std.proofs.Math.Seq.{split_at, take-length}
use Rattle.memchr.specs.Find.{Nowhere, NoneBefore, NoneAfter, Passes, is_byte}
use Rattle.log_follow.specs.Lines.{parts_of, rest_of}
use Rattle.log_follow.proofs.PieceLemmas.{is_end, IsOpen, parts-cut, rest-cut, rest-open}

-- Where bytes were searched for any one byte.

-- the byte at a place is another one, whatever stands for bytes past the end
other_by : (end : ℕ) (bytes : List ℕ) (k d : ℕ) → k < length bytes → (Passes (is_byte end) bytes k → ⊥) → (get_or bytes k d == end) ≡ false
other_by end bytes k d within not =
    let P : ℕ → Type 0 = λ byte. (byte == end) ≡ false in
    subst P (get_or_default bytes k 0 d within) (false_from_ne_true (get_or bytes k 0 == end) not)

-- it does not stand behind the last one
pub back_by : (end : ℕ) (bytes : List ℕ) (n : ℕ) → Nowhere (Passes (is_byte end) bytes) n (length bytes) → All (λ byte. (byte == end) ≡ false) (drop n bytes)
back_by end bytes n none k d below =
    let inside : n + k < length bytes = omega (arith, length-drop n bytes) in
    rw (get_or-drop n bytes k d) (other_by end bytes (n + k) d inside (none (n + k) (omega arith) inside))

-- the bytes before it, it, and those behind it
pub cut_by : (end : ℕ) (bytes : List ℕ) (k : ℕ) → k < length bytes → Passes (is_byte end) bytes k → bytes ≡ take k bytes ++ end ∷ drop (k + 1) bytes
cut_by end bytes k within ends =
    let found : get_or bytes k 0 ≡ end = eqb-true (get_or bytes k 0) end ends in
    rw add-one (split_at bytes k 0 within ∙ ap (λ (byte : ℕ). take k bytes ++ byte ∷ drop (suc k) bytes) found)

-- The same for the LF.

other_at : (bytes : List ℕ) (k d : ℕ) → k < length bytes → (Passes (is_byte 10) bytes k → ⊥) → is_end (get_or bytes k d) ≡ false
other_at bytes k d within not = other_by 10 bytes k d within not

-- there is no LF before the first
pub front_open : (bytes : List ℕ) (n : ℕ) → n ≤ length bytes → Nowhere (Passes (is_byte 10) bytes) 0 n → IsOpen (take n bytes)
front_open bytes n within none k d below =
    let front : k < n = omega (arith, length-take-le n bytes within) in
    let inside : k < length bytes = omega arith in
    rw (get_or-take n bytes k d front) (other_at bytes k d inside (none k (omega arith) front))

-- there is none among bytes that were searched to their end
pub all_open : (bytes : List ℕ) → Nowhere (Passes (is_byte 10) bytes) 0 (length bytes) → IsOpen bytes
all_open bytes none k d below = other_at bytes k d below (none k (omega arith) below)

-- there is none behind the last
pub back_open : (bytes : List ℕ) (n : ℕ) → Nowhere (Passes (is_byte 10) bytes) n (length bytes) → IsOpen (drop n bytes)
back_open bytes n none = back_by 10 bytes n none

-- the bytes before an LF, it, and those behind it
pub cut_at : (bytes : List ℕ) (k : ℕ) → k < length bytes → Passes (is_byte 10) bytes k → bytes ≡ take k bytes ++ 10 ∷ drop (k + 1) bytes
cut_at bytes k within ends = cut_by 10 bytes k within ends

-- what follows the last LF that a search found
pub rest-last : (bytes : List ℕ) (k : ℕ) → NoneAfter (Passes (is_byte 10) bytes) 0 (length bytes) k → Passes (is_byte 10) bytes k → rest_of bytes ≡ drop (k + 1) bytes
rest-last bytes k after ends =
    ap rest_of (cut_at bytes k after.high ends) ∙ rest-cut (take k bytes) (drop (k + 1) bytes)
    ∙ rest-open (drop (k + 1) bytes) (back_open bytes (k + 1) after.after)

-- the parts and the rest, the first LF being at a place
pub parts-first : (bytes : List ℕ) (k : ℕ) → NoneBefore (Passes (is_byte 10) bytes) 0 (length bytes) k → Passes (is_byte 10) bytes k
    → parts_of bytes ≡ take k bytes ∷ parts_of (drop (k + 1) bytes)
parts-first bytes k before ends =
    ap parts_of (cut_at bytes k before.high ends)
    ∙ parts-cut (take k bytes) (drop (k + 1) bytes) (front_open bytes k (omega (arith, before.high)) before.before)

pub rest-first : (bytes : List ℕ) (k : ℕ) → k < length bytes → Passes (is_byte 10) bytes k → rest_of bytes ≡ rest_of (drop (k + 1) bytes)
rest-first bytes k within ends = ap rest_of (cut_at bytes k within ends) ∙ rest-cut (take k bytes) (drop (k + 1) bytes)

-- the slice from a place to the end
pub take-rest : (bytes : List ℕ) (n : ℕ) → take (length bytes - n) (drop n bytes) ≡ drop n bytes
take-rest bytes n = ap (λ (count : ℕ). take count (drop n bytes)) (sym (length-drop n bytes)) ∙ take-length (drop n bytes)

-- which is no longer than the slice
pub length-rest : (bytes : List ℕ) (n : ℕ) → length (take (length bytes - n) (drop n bytes)) ≤ length bytes
length-rest bytes n = omega (arith, ap length (take-rest bytes n), length-drop n bytes)
