-- Masks over addresses: which addresses a mask holds, and the texts that spell masks.
use Rattle.std.specs.Prelude.{◌≡◌, ℕ, ◌+◌, ◌-◌, ◌*◌, ◌/◌, ◌%◌, ◌^◌, ◌≤◌, Bool, false, ◌==◌, ◌&&◌, nat_lt, nat_le, ◌⊎◌, List, ◌++◌, take, drop, position, codes, decimal, bytes_eq, Option, Some, None, option_map, option_and_then, if◌then◌else◌}
use Rattle.std.specs.Str.Parse.{digits_value}
use Rattle.f2b_base.specs.declared.addr.Addr.{Addr}
use Rattle.f2b_base.specs.declared.addr.Addr.TheVariants.{V4, V6}
use Rattle.f2b_base.specs.declared.addr.Cidr.{Cidr}
use Rattle.f2b_base.specs.Addresses.{is_mapped, written_addr, read_addr, IsAddr, IsForm, Spells}

-- ---- values

-- the first bits of a number of that width
abbrev pub first_bits : ℕ → ℕ → ℕ → ℕ
first_bits width bits number = number / 2 ^ (width - bits)

-- the number with 0 for each bit after the first
abbrev pub cleared : ℕ → ℕ → ℕ → ℕ
cleared width bits number = first_bits width bits number * 2 ^ (width - bits)

-- the bounds of a mask: it has no more bits than its address, and those after the prefix are 0
abbrev pub IsMask : Addr → ℕ → Type 0
IsMask (V4 number) bits = (bits ≤ 32) × (cleared 32 bits number ≡ number)
IsMask (V6 number) bits = (bits ≤ 128) × (cleared 128 bits number ≡ number)

abbrev pub IsCidr : Cidr → Type 0
IsCidr cidr = IsAddr cidr.base × IsMask cidr.base cidr.bits

-- two addresses are of one family, and have the same first bits
abbrev pub same_first : Addr → Addr → ℕ → Bool
same_first (V4 base) (V4 number) bits = first_bits 32 bits base == first_bits 32 bits number
same_first (V4 base) (V6 number) bits = false
same_first (V6 base) (V4 number) bits = false
same_first (V6 base) (V6 number) bits = first_bits 128 bits base == first_bits 128 bits number

-- the mask holds the address
abbrev pub holds : Cidr → Addr → Bool
holds cidr addr = same_first cidr.base addr cidr.bits

-- ---- texts

-- the mask of that many bits over an IPv4 address, if there are so many
abbrev pub masked_v4 : ℕ → ℕ → Option Cidr
masked_v4 number bits =
    if nat_le bits 32 then Some (record { base = V4 (cleared 32 bits number); bits = bits }) else None

abbrev pub masked_v6 : ℕ → ℕ → Option Cidr
masked_v6 number bits =
    if nat_le bits 128 then Some (record { base = V6 (cleared 128 bits number); bits = bits }) else None

-- the mask over an address as it is written: one in ::ffff:0:0/96 has 96 bits at least, and is IPv4 with 96 fewer
abbrev pub masked : Addr → ℕ → Option Cidr
masked (V4 number) bits = masked_v4 number bits
masked (V6 number) bits =
    if is_mapped number then (if nat_le 96 bits then masked_v4 (number % 2 ^ 32) (bits - 96) else None)
    else masked_v6 number bits

-- the mask that holds one address alone
abbrev pub alone : Addr → Cidr
alone (V4 number) = record { base = V4 number; bits = 32 }
alone (V6 number) = record { base = V6 number; bits = 128 }

-- the text is a form of an address, `/` and the decimal of a number of bits, and spells the mask of those
pub record IsMaskedForm (text : List ℕ) (cidr : Cidr) : Type 0 where
  pub address : List ℕ
  pub written : Addr
  pub bits : ℕ
  pub spelled : text ≡ address ++ codes "/" ++ decimal bits
  pub form : IsForm address written
  pub over : masked written bits ≡ Some cidr

-- the text spells the mask: an address alone, or an address and its bits
abbrev pub SpellsMask : List ℕ → Cidr → Type 0
SpellsMask text cidr = ((addr : Addr) × Spells text addr × (cidr ≡ alone addr)) ⊎ IsMaskedForm text cidr

-- the number below 256 whose decimal the text is
unfoldable pub read_bits : List ℕ → Option ℕ
read_bits text =
    let number = digits_value 10 text in
    if nat_lt number 256 && bytes_eq text (decimal number) then Some number else None

-- a text with a slash at that place
abbrev pub read_masked : List ℕ → ℕ → Option Cidr
read_masked text place =
    option_and_then (λ addr. option_and_then (masked addr) (read_bits (drop (place + 1) text))) (written_addr (take place text))

-- a text with its first slash there, or with none: an address alone
abbrev pub read_split : List ℕ → Option ℕ → Option Cidr
read_split text None = option_map alone (read_addr text)
read_split text (Some place) = read_masked text place

-- the mask that a text reads as
unfoldable pub read_cidr : List ℕ → Option Cidr
read_cidr text = read_split text (position (λ byte. byte == 47) text)
