-- Addresses behind a byte for their family, and masks: a base and a number of bits.
use Rattle.std.specs.Prelude.{ℕ, ◌+◌, ◌*◌, ◌/◌, ◌%◌, ◌^◌, Bool, ◌==◌, ◌&&◌, nat_lt, nat_le, List, [], ◌∷◌, ◌++◌, length, take, drop, Option, Some, None, Ok, Err, if◌then◌else◌}
use Rattle.std.specs.Int.{Width, w32, w64, byte_len, to_be_bytes, from_be_bytes}
use Rattle.f2b_base.specs.declared.addr.Addr.{Addr}
use Rattle.f2b_base.specs.declared.addr.Addr.TheVariants.{V4, V6}
use Rattle.f2b_base.specs.declared.addr.Cidr.{Cidr}
use Rattle.f2b_base.specs.Addresses.{is_mapped, IsAddr}
use Rattle.f2b_base.specs.Masks.{cleared, IsMask}
use Rattle.record_fields.specs.Codec.{◌>>=◌, Reads, Codec, and_then, made, coded}

-- the number that so many bytes make, high ones first; `left` is what was left where its field begins
unfoldable pub fixed_at : Width → ℕ → Reads ℕ
fixed_at w left bytes =
    if nat_lt (length bytes) (byte_len w) then Err left else Ok (from_be_bytes w (take (byte_len w) bytes), drop (byte_len w) bytes)

unfoldable pub sixteen_at : ℕ → Reads ℕ
sixteen_at left bytes = fixed_at w64 left bytes >>= λ high. fixed_at w64 left high.1 >>= λ low. Ok (high.0 * 2 ^ 64 + low.0, low.1)

-- eight bytes, high ones first
unfoldable pub eight : ℕ → List ℕ
eight n = to_be_bytes w64 n

-- sixteen bytes, high ones first
unfoldable pub sixteen : ℕ → List ℕ
sixteen n = eight (n / 2 ^ 64) ++ eight (n % 2 ^ 64)

abbrev pub addr_spelling : Addr → List ℕ
addr_spelling (V4 n) = 4 ∷ to_be_bytes w32 n
addr_spelling (V6 n) = 6 ∷ sixteen n

-- the whole address is one field
unfoldable pub addr_at : Reads Addr
addr_at [] = Err 0
addr_at (b ∷ bytes) =
    if b == 4 then (fixed_at w32 (length bytes + 1) bytes >>= λ n. Ok (V4 n.0, n.1))
    else if b == 6 then (sixteen_at (length bytes + 1) bytes >>= λ n. if is_mapped n.0 then Err (length bytes + 1) else Ok (V6 n.0, n.1))
    else Err (length bytes + 1)

abbrev pub addr : Codec Addr
addr = record { spell = addr_spelling; read = addr_at; Fits = IsAddr }

-- whether a mask over the address can have so many bits
abbrev pub is_mask : Addr → ℕ → Bool
is_mask (V4 n) bits = nat_le bits 32 && (cleared 32 bits n == n)
is_mask (V6 n) bits = nat_le bits 128 && (cleared 128 bits n == n)

abbrev pub bits_of : Addr → ℕ → Option ℕ
bits_of base b = if is_mask base b then Some b else None

abbrev pub bits : Addr → Codec ℕ
bits base = coded (λ n. n) (bits_of base) (IsMask base)

unfoldable pub cidr : Codec Cidr
cidr = made (λ x. record { base = x.0; bits = x.1 }) (λ c. (c.base, c.bits)) (and_then addr bits)
