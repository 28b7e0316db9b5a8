-- Numbers that are read are those that were written.
use Rattle.std.proofs.Common.{◌≡◌, ℕ, zero, suc, ◌+◌, ◌-◌, ◌*◌, ◌/◌, ◌%◌, ◌^◌, ◌<◌, ◌≤◌, Bool, true, false, cond, nat_lt, nat_le, ◌==◌, ◌&&◌, List, [], ◌∷◌, ◌++◌, length, Option, Some, None, Result, Ok, Err, ℤ, pos, negsuc, refl, sym, ap, ap₂, subst, ◌∙◌, arith, inl, inr, true≢false}
use Rattle.std.proofs.lemmas.Bool.{cases_lt, cond-true, cond-false, lt-ltb, le-ltb, ltb-true, leb-true, le-leb, eqb-true, eqb-false, eq-eqb, ne_eqb}
use Rattle.std.proofs.lemmas.Option.{none-some, option_and_then_some, same_Some}
use Rattle.record_fields.specs.Codec.{IsBytes, IsCodec, made, checked}
use Rattle.record_fields.specs.Numbers.{digits, digits_at, number, number_at, at_most, between, signed, zigzag, unzigzag, IsSigned}
use Rattle.record_fields.proofs.CodecLemmas.{picked, ok_is, IsBytes-tail, made_codec, checked_codec, fit_codec}

-- two tests that hold together
pub both_of : (a b : Bool) → (a && b) ≡ true → (a ≡ true) × (b ≡ true)
both_of true b h = (refl, h)
both_of false b h = absurd (true≢false (sym h))

-- ---- numbers

abbrev Numbered : ℕ → List ℕ → ℕ × List ℕ → Type 0
Numbered k bytes y = (bytes ≡ digits k y.0 ++ y.1) × (y.0 < 2 ^ 64) × IsBytes y.1

-- what the low seven bits and the rest make
low_of : (b high m : ℕ) → 128 ≤ b → b < 256 → m ≡ b - 128 + 128 * high → (128 + m % 128 ≡ b) × (m / 128 ≡ high)
low_of b high m low top e = (omega arith, omega arith)

takes_one : (k b : ℕ) (bytes : List ℕ) → IsBytes (b ∷ bytes) → b < 128 → Numbered (suc k) (b ∷ bytes) (b, bytes)
unfolding digits
takes_one k b bytes ok lt =
    (ap (λ (d : List ℕ). d ++ bytes) (sym (cond-true (nat_lt b 128) (b ∷ []) _ (lt-ltb b 128 lt))), omega arith, IsBytes-tail b bytes ok)

takes_more : (k b : ℕ) (bytes : List ℕ) (x : ℕ × List ℕ) → 128 ≤ b → b < 256 → 0 < x.0 → x.0 < 2 ^ 57 → Numbered k bytes x →
    Numbered (suc k) (b ∷ bytes) (b - 128 + 128 * x.0, x.1)
unfolding digits
takes_more k b bytes x low top some small h =
    let m = b - 128 + 128 * x.0 in
    let large : 128 ≤ m = omega arith in
    let parts = low_of b x.0 m low top refl in
    let spelt : cond (nat_lt m 128) (m ∷ []) ((128 + m % 128) ∷ digits k (m / 128)) ≡ b ∷ digits k x.0 =
    cond-false (nat_lt m 128) (m ∷ []) _ (le-ltb m 128 large) ∙ ap₂ (λ (c d : ℕ). c ∷ digits k d) parts.0 parts.1 in
    (ap (λ (t : List ℕ). b ∷ t) h.0 ∙ ap (λ (d : List ℕ). d ++ x.1) (sym spelt), omega arith, h.2)

takes_digits : (k : ℕ) (bytes : List ℕ) (y : ℕ × List ℕ) → IsBytes bytes → digits_at k bytes ≡ Some y → Numbered k bytes y
unfolding digits_at
takes_digits zero bytes y ok e = absurd (none-some y e)
takes_digits (suc k) [] y ok e = absurd (none-some y e)
takes_digits (suc k) (b ∷ bytes) y ok e = elim (cases_lt b 128) [
  | inl lt ↦ subst (Numbered (suc k) (b ∷ bytes)) (same_Some (b, bytes) y (sym (cond-true (nat_lt b 128) _ _ (lt-ltb b 128 lt)) ∙ e)) (takes_one k b bytes ok lt)
  | inr le ↦ option_and_then_some _ (digits_at k bytes) y (sym (cond-false (nat_lt b 128) _ _ (le-ltb b 128 le)) ∙ e)
      (λ x at made.
      let p = picked _ _ _ made in
      let t = both_of _ _ p.0 in
      subst (Numbered (suc k) (b ∷ bytes)) p.1
      (takes_more k b bytes x le (ok 0) (ltb-true _ _ t.0) (ltb-true _ _ t.1) (takes_digits k bytes x (IsBytes-tail b bytes ok) at)))
]

-- how far so many bytes reach
abbrev room : ℕ → ℕ
room zero = 1
room (suc k) = 128 * room k

again_digits : (k n : ℕ) (rest : List ℕ) → n < room (suc k) → n < 2 ^ 64 → digits_at (suc k) (digits (suc k) n ++ rest) ≡ Some (n, rest)
unfolding digits digits_at
again_digits zero n rest lt small =
    let short : nat_lt n 128 ≡ true = lt-ltb n 128 (omega arith) in
    rw short (rw short refl)
again_digits (suc k) n rest lt small = elim (cases_lt n 128) [
  | inl le ↦ let short : nat_lt n 128 ≡ true = lt-ltb n 128 le in rw short (rw short refl)
  | inr ge ↦
      let long : nat_lt n 128 ≡ false = le-ltb n 128 ge in
      let high : nat_lt (128 + n % 128) 128 ≡ false = le-ltb (128 + n % 128) 128 (omega arith) in
      let some : nat_lt 0 (n / 128) ≡ true = lt-ltb 0 (n / 128) (omega arith) in
      let fits : nat_lt (n / 128) (2 ^ 57) ≡ true = lt-ltb (n / 128) (2 ^ 57) (omega arith) in
      let next = again_digits k (n / 128) rest (omega arith) (omega arith) in
      let value : 128 + n % 128 - 128 + 128 * (n / 128) ≡ n = omega arith in
      rw long (rw (high, next, some, fits) (ap (λ (v : ℕ). Some (v, rest)) value))
]

of_given : (o : Option (ℕ × List ℕ)) (left : ℕ) (y : ℕ × List ℕ) → elim o as (λ _. Result (ℕ × List ℕ) ℕ) [ Some x ↦ Ok x | None ↦ Err left ] ≡ Ok y → o ≡ Some y
of_given None left y e = absurd cc
of_given (Some x) left y e = ap Some (ok_is x y e)

-- a number has a digit
digits_some : (k n : ℕ) → 1 ≤ length (digits (suc k) n)
unfolding digits
digits_some k n = elim (nat_lt n 128) as (λ b. 1 ≤ length (cond b (n ∷ []) ((128 + n % 128) ∷ digits k (n / 128)))) [ true ↦ omega arith | false ↦ omega arith ]

pub number_codec : IsCodec number
unfolding number_at
number_codec = record {
  takes = λ bytes n rest ok e. takes_digits 10 bytes (n, rest) ok (of_given (digits_at 10 bytes) (length bytes) (n, rest) e);
  again = λ n rest small _.
      let roomy : n < room 10 = omega (arith, small) in
      rw (again_digits 9 n rest roomy small, number_at) refl;
  some = λ n. digits_some 9 n;
}

pub at_most_codec : (most : ℕ) → most < 2 ^ 64 → IsCodec (at_most most)
at_most_codec most fits = fit_codec (λ n. n ≤ most) (checked (λ n. nat_le n most) number) (checked_codec (λ n. nat_le n most) number number_codec)
    (λ n h. leb-true n most h.1) (λ n le. (omega arith, le-leb n most le))

pub between_codec : (least most : ℕ) → most < 2 ^ 64 → IsCodec (between least most)
between_codec least most fits = fit_codec (λ n. (least ≤ n) × (n ≤ most)) (checked (λ n. nat_le least n && nat_le n most) number) (checked_codec (λ n. nat_le least n && nat_le n most) number number_codec)
    (λ n h. let t = both_of _ _ h.1 in (leb-true least n t.0, leb-true n most t.1))
    (λ n h. (omega (arith, h.1), rw (le-leb least n h.0, le-leb n most h.1) refl))

-- ---- signed numbers

zig : (n : ℕ) → zigzag (unzigzag n) ≡ n
unfolding unzigzag
zig n = elim (n % 2 == 0) as (λ t. (n % 2 == 0) ≡ t → zigzag (cond t (pos (n / 2)) (negsuc (n / 2))) ≡ n) [
  | true ↦ λ even. let h = eqb-true (n % 2) 0 even in omega (arith, h)
  | false ↦ λ odd. let h = eqb-false (n % 2) 0 odd in omega (arith, h)
] refl

zag : (z : ℤ) → unzigzag (zigzag z) ≡ z
unfolding unzigzag
zag (pos n) =
    let even : ((2 * n) % 2 == 0) ≡ true = eq-eqb ((2 * n) % 2) 0 (omega arith) in
    let half : (2 * n) / 2 ≡ n = omega arith in
    rw (even, half) refl
zag (negsuc n) =
    let odd : ((2 * n + 1) % 2 == 0) ≡ false = ne_eqb ((2 * n + 1) % 2) 0 (λ h. omega (arith, h)) in
    let half : (2 * n + 1) / 2 ≡ n = omega arith in
    rw (odd, half) refl

-- a signed number of 64 bits is spelt as one of 64 bits
zigzag_fits : (z : ℤ) → zigzag z < 2 ^ 64 → IsSigned z
zigzag_fits (pos n) h = omega arith
zigzag_fits (negsuc n) h = omega arith

signed_zigzag : (z : ℤ) → IsSigned z → zigzag z < 2 ^ 64
signed_zigzag (pos n) h = omega arith
signed_zigzag (negsuc n) h = omega arith

pub signed_codec : IsCodec signed
signed_codec = fit_codec IsSigned (made unzigzag zigzag number) (made_codec unzigzag zigzag number (λ n _. zig n) zag number_codec) zigzag_fits signed_zigzag
