-- A number and its bytes, the highest first.
use Rattle.std.proofs.Common.{◌≡◌, ℕ, ◌+◌, ◌/◌, ◌%◌, ◌<◌, ◌∷◌, zero, suc, ◌*◌, ◌^◌, get_or, List, [], length, refl, arith}
use Rattle.std.proofs.Math.Nat.{div-div-eq-div-mul}
use Rattle.std.specs.Int.{byte_at, bytes_high_first, w128, to_be_bytes, from_be_bytes}
use Rattle.std.specs.Net.Addr.{segments_of, octets_of}
use Rattle.std.proofs.NetLemmas.Texts.{AllSegments}

-- a byte is below 256, and a group of two below 2 ^ 16
byte_at-lt : (i n : ℕ) → byte_at i n < 256
byte_at-lt zero n = omega arith
byte_at-lt (suc i) n = omega arith

abbrev pub AllBytes : List ℕ → Type 0
AllBytes bytes = (k : ℕ) → get_or bytes k 0 < 256

pub AllBytes-bytes_high_first : (count n : ℕ) → AllBytes (bytes_high_first count n)
AllBytes-bytes_high_first zero n k = omega arith
AllBytes-bytes_high_first (suc count) n k =
    let later = AllBytes-bytes_high_first count n in
    elim k as (λ j. get_or (byte_at count n ∷ bytes_high_first count n) j 0 < 256) [ zero ↦ byte_at-lt count n | suc j ↦ later j ]

pub AllSegments-segments_of : (bytes : List ℕ) → AllBytes bytes → AllSegments (segments_of bytes)
AllSegments-segments_of [] h k = omega arith
AllSegments-segments_of (a ∷ []) h k = omega arith
AllSegments-segments_of (a ∷ b ∷ bytes) h k =
    let later = AllSegments-segments_of bytes (λ j. h (suc (suc j))) in
    let first : a * 256 + b < 2 ^ 16 = omega (arith, h 0, h 1) in
    elim k as (λ j. get_or ((a * 256 + b) ∷ segments_of bytes) j 0 < 2 ^ 16) [ zero ↦ first | suc j ↦ later j ]

-- two bytes make a group, which gives them back
pub octets_of-segments_of : (bytes : List ℕ) (half : ℕ) → length bytes ≡ half * 2 → AllBytes bytes → octets_of (segments_of bytes) ≡ bytes
octets_of-segments_of [] half even h = refl
octets_of-segments_of (a ∷ []) half even h = absurd (omega arith)
octets_of-segments_of (a ∷ b ∷ bytes) zero even h = absurd (omega arith)
octets_of-segments_of (a ∷ b ∷ bytes) (suc half) even h =
    let low : b < 256 = h 1 in
    let first : (a * 256 + b) / 256 ≡ a = omega arith in
    let second : (a * 256 + b) % 256 ≡ b = omega arith in
    let later = octets_of-segments_of bytes half (omega arith) (λ j. h (suc (suc j))) in
    λ i. first i ∷ second i ∷ later i

-- what is left above a byte is the next byte, and what is left above that
next_byte : (n p : ℕ) → n / p ≡ n / p % 256 + n / (p * 256) * 256
next_byte n p = omega (arith, div-div-eq-div-mul n p 256)

-- eight such steps are eight bytes and what is left above them
eight_bytes : (a b c d e f g h p q r s t u v w x : ℕ) → p ≡ a + q * 256 → q ≡ b + r * 256 → r ≡ c + s * 256 → s ≡ d + t * 256 → t ≡ e + u * 256 → u ≡ f + v * 256 → v ≡ g + w * 256 → w ≡ h + x * 256
    → p ≡ a + b * 256 + c * 65536 + d * 16777216 + e * 4294967296 + f * 1099511627776 + g * 281474976710656 + h * 72057594037927936 + x * 18446744073709551616
eight_bytes a b c d e f g h p q r s t u v w x e₁ e₂ e₃ e₄ e₅ e₆ e₇ e₈ = omega arith

-- and twice eight are the sum of sixteen bytes
sixteen_bytes : (a b c d e f g h i j k l m n o p number middle : ℕ)
    → number ≡ a + b * 256 + c * 65536 + d * 16777216 + e * 4294967296 + f * 1099511627776 + g * 281474976710656 + h * 72057594037927936 + middle * 18446744073709551616
    → middle ≡ i + j * 256 + k * 65536 + l * 16777216 + m * 4294967296 + n * 1099511627776 + o * 281474976710656 + p * 72057594037927936
    → p * 256 ^ 15 + o * 256 ^ 14 + n * 256 ^ 13 + m * 256 ^ 12 + l * 256 ^ 11 + k * 256 ^ 10 + j * 256 ^ 9 + i * 256 ^ 8 + h * 256 ^ 7 + g * 256 ^ 6 + f * 256 ^ 5 + e * 256 ^ 4 + d * 256 ^ 3 + c * 256 ^ 2 + b * 256 ^ 1 + a ≡ number
sixteen_bytes a b c d e f g h i j k l m n o p number middle low high = omega arith

-- an IPv6 address is the number of its sixteen bytes
pub from_be_bytes-to_be_bytes_16 : (n : ℕ) → n < 2 ^ 128 → from_be_bytes w128 (to_be_bytes w128 n) ≡ n
from_be_bytes-to_be_bytes_16 n fits =
    let first : n ≡ n % 256 + n / 256 * 256 = omega arith in
    let step = next_byte n in
    let low = eight_bytes _ _ _ _ _ _ _ _ n _ _ _ _ _ _ _ _ first (step (256 ^ 1)) (step (256 ^ 2)) (step (256 ^ 3)) (step (256 ^ 4)) (step (256 ^ 5)) (step (256 ^ 6)) (step (256 ^ 7)) in
    let last : n / 256 ^ 16 ≡ 0 = omega arith in
    let high = eight_bytes _ _ _ _ _ _ _ _ _ _ _ _ _ _ _ _ _ (step (256 ^ 8)) (step (256 ^ 9)) (step (256 ^ 10)) (step (256 ^ 11)) (step (256 ^ 12)) (step (256 ^ 13)) (step (256 ^ 14)) (step (256 ^ 15)) in
    sixteen_bytes _ _ _ _ _ _ _ _ _ _ _ _ _ _ _ _ n (n / 256 ^ 8) low (omega (arith, high))
