-- The parts of a text round the bytes that divide it.
use Rattle.std.proofs.Common.{◌≡◌, ℕ, zero, suc, ◌+◌, ◌<◌, ◌≤◌, not, ◌++◌, Bool, true, false, ◌==◌, ◌||◌, ◌&&◌, nat_lt, List, [], ◌∷◌, length, get_or, take, drop, Option, None, Some, ap, ◌∙◌, refl, arith}
use Rattle.std.specs.List.{slice_split, list_all, position_or_len}
use Rattle.std.proofs.lemmas.Bool.Decides.{nat_tests}
use Rattle.std.proofs.lemmas.List.Elements.{All-from_get_or}
use Rattle.std.proofs.lemmas.List.Splits.{slice_split_first, slice_split_none}
use Rattle.std.proofs.lemmas.List.Sums.{position_or_len_is}
use Rattle.jail_conf.specs.Words.{is_among_bytes}

-- the first byte that divides stands at this place
pub parts_at : (p : ℕ → Bool) (text : List ℕ) (place : ℕ) → place < length text → ((k : ℕ) → k < place → p (get_or text k 0) ≡ false) →
    p (get_or text place 0) ≡ true → slice_split p text ≡ take place text ∷ slice_split p (drop (place + 1) text)
parts_at p text place within none here =
    let at : position_or_len p text ≡ place = position_or_len_is p text place 0 (omega arith) none (λ _. here) in
    slice_split_first p text 0 (omega (arith, at)) ∙ ap (λ n. take n text ∷ slice_split p (drop (n + 1) text)) at

-- and none does
pub one_part : (p : ℕ → Bool) (text : List ℕ) → ((k : ℕ) → k < length text → p (get_or text k 0) ≡ false) → slice_split p text ≡ text ∷ []
one_part p text none = slice_split_none p text (All-from_get_or (λ byte. p byte ≡ false) text 0 none)

-- what is among ASCII bytes is one
ascii_step : (one byte : ℕ) (any all : Bool) → (nat_lt one 128 && all) ≡ true → ((one == byte) || any) ≡ true → (all ≡ true → any ≡ true → byte < 128) → byte < 128
ascii_step one byte any true low here more = by (one == byte) refl
  where
    by : (same : Bool) → (one == byte) ≡ same → byte < 128
    by true is = grind (arith, nat_tests)
    by false is = more refl (simp is at here)
ascii_step one byte any false low here more = absurd (grind (arith, nat_tests))

pub ascii_among : (bytes : List ℕ) (byte : ℕ) → list_all (λ one. nat_lt one 128) bytes ≡ true → is_among_bytes bytes byte ≡ true → byte < 128
ascii_among [] byte all here = absurd (cc)
ascii_among (one ∷ bytes) byte all here = ascii_step one byte (is_among_bytes bytes byte) (list_all (λ low. nat_lt low 128) bytes) all here (ascii_among bytes byte)

-- how much of a text is left, counting the byte before it
abbrev pub left_of : Option (List ℕ) → ℕ
left_of None = 0
left_of (Some rest) = length rest + 1

-- ---- a text that is cut at a byte

-- before it none of the bytes passes
pub none_in_front : (p : ℕ → Bool) (text : List ℕ) (place : ℕ) → place ≤ length text → ((k : ℕ) → k < place → p (get_or text k 0) ≡ false) → list_all (λ byte. not (p byte)) (take place text) ≡ true
none_in_front p text zero within none = refl
none_in_front p [] (suc place) within none = absurd (omega arith)
none_in_front p (byte ∷ text) (suc place) within none =
    let first : p byte ≡ false = none 0 (omega arith) in
    rw first (none_in_front p text place (omega arith) (λ k below. none (suc k) (omega arith)))

pub none_at_all : (p : ℕ → Bool) (text : List ℕ) → ((k : ℕ) → k < length text → p (get_or text k 0) ≡ false) → list_all (λ byte. not (p byte)) text ≡ true
none_at_all p [] none = refl
none_at_all p (byte ∷ text) none =
    let first : p byte ≡ false = none 0 (omega arith) in
    rw first (none_at_all p text (λ k below. none (suc k) (omega arith)))

-- what stands before it, it, and what stands behind it
pub whole_at : (text : List ℕ) (place : ℕ) → place < length text → text ≡ take place text ++ get_or text place 0 ∷ drop (place + 1) text
whole_at [] place within = absurd (omega arith)
whole_at (byte ∷ text) zero within = refl
whole_at (byte ∷ text) (suc place) within =
    let next : suc (place + 1) ≡ suc place + 1 = omega arith in
    ap (λ rest. byte ∷ rest) (whole_at text place (omega arith)) ∙ ap (λ n. byte ∷ take place text ++ get_or text place 0 ∷ drop n (byte ∷ text)) next
