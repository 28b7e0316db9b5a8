-- Numbers in seven bits a byte (unsigned LEB128), in their shortest form alone.
use Rattle.std.specs.Prelude.{ℕ, zero, suc, ◌+◌, ◌-◌, ◌*◌, ◌/◌, ◌%◌, ◌^◌, ◌<◌, ◌≤◌, ◌==◌, ◌&&◌, nat_lt, nat_le, List, [], ◌∷◌, length, Option, Some, None, Ok, Err, option_and_then, ℤ, pos, negsuc, if◌then◌else◌}
use Rattle.record_fields.specs.Codec.{Reads, Codec, made, checked, fit}

-- seven bits a byte, low ones first; each byte but the last is 128 or more
unfoldable pub digits : ℕ → ℕ → List ℕ
digits zero n = []
digits (suc k) n = if nat_lt n 128 then n ∷ [] else (128 + n % 128) ∷ digits k (n / 128)

-- the number of the digits, where no digit is superfluous and it is below 2 ^ 64
unfoldable pub digits_at : ℕ → List ℕ → Option (ℕ × List ℕ)
digits_at zero bytes = None
digits_at (suc k) [] = None
digits_at (suc k) (b ∷ bytes) =
    if nat_lt b 128 then Some (b, bytes)
    else option_and_then (λ x. if nat_lt 0 x.0 && nat_lt x.0 (2 ^ 57) then Some (b - 128 + 128 * x.0, x.1) else None) (digits_at k bytes)

unfoldable pub number_at : Reads ℕ
number_at bytes = elim (digits_at 10 bytes) [ Some x ↦ Ok x | None ↦ Err (length bytes) ]

abbrev pub number : Codec ℕ
number = record { spell = digits 10; read = number_at; Fits = λ n. n < 2 ^ 64 }

-- a number that is no greater than another one
abbrev pub at_most : ℕ → Codec ℕ
at_most most = fit (λ n. n ≤ most) (checked (λ n. nat_le n most) number)

-- a number between two others
abbrev pub between : ℕ → ℕ → Codec ℕ
between least most = fit (λ n. (least ≤ n) × (n ≤ most)) (checked (λ n. nat_le least n && nat_le n most) number)

-- a signed number is spelt as an unsigned one: those from 0 on as the even ones
abbrev pub zigzag : ℤ → ℕ
zigzag (pos n) = 2 * n
zigzag (negsuc n) = 2 * n + 1

unfoldable pub unzigzag : ℕ → ℤ
unzigzag n = if n % 2 == 0 then pos (n / 2) else negsuc (n / 2)

-- a signed number of 64 bits
abbrev pub IsSigned : ℤ → Type 0
IsSigned (pos n) = n < 2 ^ 63
IsSigned (negsuc n) = n < 2 ^ 63

abbrev pub signed : Codec ℤ
signed = fit IsSigned (made unzigzag zigzag number)
