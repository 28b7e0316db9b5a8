-- Decimal texts and the numbers that they say.
use Rattle.std.proofs.Common.{ℕ, ◌≡◌, ◌^◌, ◌<◌, List, Some, None, Result, Ok, arith}
use Rattle.std.specs.Fmt.{decimal}
use Rattle.std.specs.Str.Parse.{digits_value}
use Rattle.std.proofs.lemmas.Bool.Decides.{nat_tests}
use Rattle.std.proofs.lemmas.Fmt.{decimal_is_IsNumeral}
use Rattle.std.proofs.lemmas.Slice.Eq.{bytes_eq-Decides}
use Rattle.run_law.specs.Words.{number_of}

-- What is no decimal text of a number below 2^64 says no number.
pub number_of-none : (text : List ℕ) → ((n : ℕ) → n < 2 ^ 64 → text ≡ decimal n → ⊥) → None ≡ number_of text
number_of-none text apart =
    grind (arith, nat_tests, bytes_eq-Decides text (decimal (digits_value 10 text)), apart (digits_value 10 text))

-- A decimal text says its number.
pub number_of-decimal : (text : List ℕ) (n : ℕ) → n < 2 ^ 64 → text ≡ decimal n → Some n ≡ number_of text
number_of-decimal text n small same =
    grind (arith, nat_tests, bytes_eq-Decides text (decimal (digits_value 10 text)), (decimal_is_IsNumeral n small).1)

-- A result has one value.
pub same_Ok : {E : Type 0} (r : Result ℕ E) (m n : ℕ) → r ≡ Ok m → r ≡ Ok n → m ≡ n
same_Ok r m n first second = cc
