-- The number of bits in the text of a mask, and what `parse` gives of it.
use Rattle.std.proofs.Common.{◌≡◌, ◌≢◌, ℕ, ◌^◌, ◌<◌, ◌≤◌, List, get_or, length, Result, Ok, Err, Some, None, decimal, refl, sym, ap, ◌∙◌, inl, inr, arith, lt-ltb, length-drop, nat_lt, ◌&&◌, bytes_eq}
use Rattle.std.proofs.lemmas.Bool.{cases_lt, cond_both, and_parts, ltb-true}
use Rattle.std.proofs.lemmas.Fmt.{decimal_is_IsNumeral, decimal_digit, first_decimal, decimal-digits_value, IsAscii-decimal}
use Rattle.std.proofs.lemmas.Slice.Eq.{bytes_eq-Decides}
use Rattle.std.proofs.lemmas.Str.Parse.{digit_at, numerals_by_value, tells_digits, without_leading_plus_none, without_leading_plus_plus}
use Rattle.std.specs.Str.Parse.{ParsesUnsigned, IsNumeral, AllDigits, digits_value}
use Rattle.std.specs.Result.{result_ok}
use Rattle.std.specs.Str.{IsUtf8}
use Rattle.std.proofs.lemmas.Str.{IsUtf8-from_ascii}
use Rattle.std.proofs.NetLemmas.Options.{cond_some}
use Rattle.f2b_base.specs.Masks.{read_bits}

-- a text that is the decimal of no number below 256 has no bits
read_bits_none : (text : List ℕ) → ((n : ℕ) → n < 256 → text ≢ decimal n) → read_bits text ≡ None
unfolding read_bits
read_bits_none text other =
    let n = digits_value 10 text in
    cond_both _ (Some n) None (λ o. o ≡ None)
    (λ test. let (small, same) = and_parts _ _ test in absurd (other n (ltb-true n 256 small) ((bytes_eq-Decides text (decimal n)).0 same)))
    (λ _. refl)

-- a decimal has no leading zero, and no sign
pub read_bits_not_plain : (text : List ℕ) → 1 < length text → get_or text 0 0 ≤ 48 → read_bits text ≡ None
read_bits_not_plain text long low =
    read_bits_none text λ n fits same.
    elim (cases_lt n 10) [
      | inl one ↦ omega (arith, ap length (same ∙ decimal_digit n one))
      | inr more ↦ omega (arith, first_decimal n (omega arith) (omega arith), ap (λ t. get_or t 0 0) same)
    ]

-- a decimal is text
pub read_bits_not_utf8 : (text : List ℕ) → ¬ (IsUtf8 text) → read_bits text ≡ None
read_bits_not_utf8 text other =
    read_bits_none text λ n fits same. other (rw same (IsUtf8-from_ascii (decimal n) (IsAscii-decimal n (omega arith))))

no_plus : (text : List ℕ) → AllDigits 10 text → 0 < length text → get_or text 0 0 ≢ 43
no_plus text digits some plus = omega (arith, digit_at text 0 digits some)

-- a text with neither a sign nor a leading zero has the bits that it parses as
pub read_bits-parsed : {E : Type 0} (text : List ℕ) (r : Result ℕ E) → (1 < length text → 48 < get_or text 0 0) → ParsesUnsigned 8 10 text r → result_ok r ≡ read_bits text
unfolding read_bits
read_bits-parsed text (Ok number) plain (numeral, value) =
    let unsigned : get_or text 0 0 ≢ 43 = λ plus.
    omega (arith, plain, numeral.0.0, ap length (without_leading_plus_plus text plus), length-drop 1 text) in
    let whole = without_leading_plus_none text unsigned in
    let is_numeral = rw whole at numeral.0 in
    let small = rw whole at numeral.1 in
    let alone : get_or text 0 0 ≡ 48 → length text ≡ 1 = λ zero_first.
    elim (cases_lt 1 (length text)) [
      | inl long ↦ absurd (omega (arith, plain long))
      | inr short ↦ omega (arith, is_numeral.0)
    ] in
    let spelled = decimal-digits_value (numerals_by_value _ tells_digits) text is_numeral.1 is_numeral.0 alone (omega (arith, small)) in
    rw (lt-ltb (digits_value 10 text) 256 small, (bytes_eq-Decides text (decimal (digits_value 10 text))).1 (sym spelled))
    (ap Some (value ∙ ap (digits_value 10) whole))
read_bits-parsed text (Err e) plain other =
    sym (read_bits_none text λ n fits same.
    let (numeral, value) = decimal_is_IsNumeral n (omega arith) in
    let is_numeral : IsNumeral 10 text = rw same numeral in
    let small : digits_value 10 text < 2 ^ 8 = rw (same, value) fits in
    let whole = without_leading_plus_none text (no_plus text is_numeral.1 is_numeral.0) in
    other (rw whole (is_numeral, small)))

-- the decimal of a number below 256 has it as its bits, and no other text has
pub read_bits-decimal : (bits : ℕ) → bits < 256 → read_bits (decimal bits) ≡ Some bits
unfolding read_bits
read_bits-decimal bits fits =
    let (numeral, value) = decimal_is_IsNumeral bits (omega arith) in
    rw (value, lt-ltb bits 256 fits, (bytes_eq-Decides (decimal bits) (decimal bits)).1 refl)

pub decimal-read_bits : (text : List ℕ) (bits : ℕ) → read_bits text ≡ Some bits → text ≡ decimal bits
unfolding read_bits
decimal-read_bits text bits e =
    let n = digits_value 10 text in
    let (test, same) = cond_some (nat_lt n 256 && bytes_eq text (decimal n)) n bits e in
    let (_, equal) = and_parts _ _ test in
    (bytes_eq-Decides text (decimal n)).0 equal ∙ ap decimal same
