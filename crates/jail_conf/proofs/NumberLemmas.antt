-- The number that digits write.
use Rattle.std.proofs.Common.{◌≡◌, ℕ, ◌*◌, ◌-◌, ◌^◌, ◌<◌, min, cond, true, false, List, [], ◌∷◌, length, get_or, Some, None, option_map, Option, sym, ap, refl, ◌∙◌, arith}
use Rattle.std.specs.Char.{is_ascii_digit}
use Rattle.std.specs.List.{list_all, position_or_len, before_first, after_first}
use Rattle.std.specs.Str.Parse.{digits_value}
use Rattle.std.proofs.lemmas.Bool.Decides.{nat_tests}
use Rattle.std.proofs.lemmas.List.Folds.{list_all_at}
use Rattle.ini_interp.proofs.ScopeLemmas.{none_passes}
use Rattle.jail_conf.specs.Numbers.{is_dot, thousandths_of, thousandths}
use Rattle.jail_conf.specs.Words.{number, is_decimal}

pub decimal : (text : List ℕ) → 0 < length text → list_all is_ascii_digit text ≡ true → is_decimal text ≡ true
decimal [] some all = absurd (omega arith)
decimal (byte ∷ text) some all = grind (arith, nat_tests, all)

not_decimal : (text : List ℕ) → list_all is_ascii_digit text ≡ false → is_decimal text ≡ false
not_decimal text all = grind (arith, nat_tests, all)

-- digits write their number
pub number-digits : (text : List ℕ) (value : ℕ) → 0 < length text → list_all is_ascii_digit text ≡ true →
    value ≡ min (digits_value 10 text) (2 ^ 64 - 1) → Some value ≡ option_map (λ n. min n (2 ^ 64 - 1)) (number text)
number-digits text value some all is =
    ap Some is ∙ sym (ap (λ b. option_map (λ n. min n (2 ^ 64 - 1)) (cond b (Some (digits_value 10 text)) None)) (decimal text some all))

-- a text with another byte writes none
pub number-other : (text : List ℕ) (place : ℕ) → place < length text → is_ascii_digit (get_or text place 0) ≡ false →
    None ≡ option_map (λ n. min n (2 ^ 64 - 1)) (number text)
number-other text place within other =
    sym (ap (λ b. option_map (λ n. min n (2 ^ 64 - 1)) (cond b (Some (digits_value 10 text)) None)) (not_decimal text (list_all_at is_ascii_digit text place 0 within other)))

-- ---- thousandths

-- a text without a dot
pub thousandths-whole : (text : List ℕ) (n : Option ℕ) → position_or_len is_dot text ≡ length text → n ≡ option_map (λ n. min n (2 ^ 64 - 1)) (number text) →
    option_map (λ n. min (n * 1_000) (2 ^ 64 - 1)) n ≡ option_map (λ n. min n (2 ^ 64 - 1)) (thousandths text)
thousandths-whole text n none is = ap (option_map (λ n. min (n * 1_000) (2 ^ 64 - 1))) is ∙ (by (number text) ∙ sym (ap (λ b. option_map (λ n. min n (2 ^ 64 - 1)) (cond b (thousandths_of (before_first is_dot text) (after_first is_dot text)) (option_map (λ n. n * 1_000) (number text)))) (none_passes is_dot text none)))
  where
    by : (n : Option ℕ) → option_map (λ n. min (n * 1_000) (2 ^ 64 - 1)) (option_map (λ n. min n (2 ^ 64 - 1)) n) ≡ option_map (λ n. min n (2 ^ 64 - 1)) (option_map (λ n. n * 1_000) n)
    by None = refl
    by (Some n) = ap Some (omega arith)
