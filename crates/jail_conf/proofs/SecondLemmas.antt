-- Numbers of seconds that stay at the greatest of 64 bits.
use Rattle.std.proofs.Common.{◌≡◌, ℕ, ◌-◌, ◌^◌, ◌<◌, ◌≤◌, min, nat_le, true, false, Option, None, Some, refl, sym, ap, ◌∙◌, arith}
use Rattle.std.specs.Prelude.{option_and_then}
use Rattle.std.proofs.lemmas.Bool.Decides.{nat_tests}
use Rattle.jail_conf.specs.Times.{saturated, if_not_too_long, most_seconds}

too_long : (n : ℕ) → most_seconds < n → if_not_too_long n ≡ None
too_long n above = let not : nat_le n most_seconds ≡ false = grind (arith, nat_tests) in rw not refl

short : (n : ℕ) → n ≤ most_seconds → if_not_too_long n ≡ Some n
short n below = let is : nat_le n most_seconds ≡ true = grind (arith, nat_tests) in rw is refl

-- what is kept is too long where the number is
pub kept_too_long : (n : Option ℕ) (kept : ℕ) → Some kept ≡ saturated n → most_seconds < kept → None ≡ option_and_then if_not_too_long n
kept_too_long None kept is above = absurd (cc)
kept_too_long (Some n) kept is above =
    let same : Some kept ≡ Some (min n (2 ^ 64 - 1)) = is in
    let at : kept ≡ min n (2 ^ 64 - 1) = cc in
    sym (too_long n (omega (arith, at, above)))

-- and else it is the number
pub kept_short : (n : Option ℕ) (kept : ℕ) → Some kept ≡ saturated n → kept ≤ most_seconds → Some kept ≡ option_and_then if_not_too_long n
kept_short None kept is below = absurd (cc)
kept_short (Some n) kept is below =
    let same : Some kept ≡ Some (min n (2 ^ 64 - 1)) = is in
    let at : kept ≡ min n (2 ^ 64 - 1) = cc in
    let whole : kept ≡ n = omega (arith, at, below) in
    ap Some whole ∙ sym (short n (omega (arith, whole, below)))

-- no number is kept where there is none
pub kept_none : (n : Option ℕ) → None ≡ saturated n → None ≡ option_and_then if_not_too_long n
kept_none None is = refl
kept_none (Some n) is = absurd (cc)
