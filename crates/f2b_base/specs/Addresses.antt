-- Addresses, and the texts that spell them (RFC 4291, section 2.2; RFC 5952, section 4).
use Rattle.std.specs.Prelude.{◌≡◌, ◌≢◌, ℕ, ◌/◌, ◌%◌, ◌^◌, ◌<◌, Bool, false, ◌==◌, List, Option, option_map, if◌then◌else◌}
use Rattle.std.specs.Option.{option_or}
use Rattle.std.specs.Int.{w32, w128, to_be_bytes, from_be_bytes}
use Rattle.std.specs.Net.Addr.{segments_of, octets_of}
use Rattle.std.specs.Net.Grammar.{IsDotted, IsColonHex}
use Rattle.std.specs.Net.Reader.{whole_value, read_ipv4, read_ipv6}
use Rattle.std.specs.Net.Text.{ipv4_text, hex_groups_text}
use Rattle.f2b_base.specs.declared.addr.Addr.{Addr}
use Rattle.f2b_base.specs.declared.addr.Addr.TheVariants.{V4, V6}

-- ---- values

-- whether two addresses are one
abbrev pub same_addr : Addr → Addr → Bool
same_addr (V4 a) (V4 b) = a == b
same_addr (V6 a) (V6 b) = a == b
same_addr (V4 a) (V6 b) = false
same_addr (V6 a) (V4 b) = false

-- the number is in ::ffff:0:0/96, whose addresses stand for IPv4 ones
abbrev pub is_mapped : ℕ → Bool
is_mapped number = number / 2 ^ 32 == 0xffff

-- one host is one value: of an address in ::ffff:0:0/96 it is the IPv4 address in the last 32 bits
abbrev pub canonical : Addr → Addr
canonical (V4 number) = V4 number
canonical (V6 number) = if is_mapped number then V4 (number % 2 ^ 32) else V6 number

-- the bounds of an address: the number fits its family, and is not in ::ffff:0:0/96
abbrev pub IsAddr : Addr → Type 0
IsAddr (V4 number) = number < 2 ^ 32
IsAddr (V6 number) = (number < 2 ^ 128) × (number / 2 ^ 32 ≢ 0xffff)

-- the four octets of an IPv4 address, the highest first, and the number of such octets
unfoldable pub octets : ℕ → List ℕ
octets number = to_be_bytes w32 number

unfoldable pub octets_number : List ℕ → ℕ
octets_number octets = from_be_bytes w32 octets

-- the eight groups of 16 bits of an IPv6 address, the highest first, and the number of such groups
unfoldable pub groups : ℕ → List ℕ
groups number = segments_of (to_be_bytes w128 number)

unfoldable pub groups_number : List ℕ → ℕ
groups_number groups = from_be_bytes w128 (octets_of groups)

-- ---- texts

-- the text has the form of an IPv4 address: four decimals below 256 with no leading zeros, and dots between them
abbrev pub IsForm4 : List ℕ → ℕ → Type 0
IsForm4 text number = (octets : List ℕ) × IsDotted text octets × (number ≡ octets_number octets)

-- The text has one of the forms of an IPv6 address: eight groups of one to four hex digits with colons between them, of which the
-- last two may be written as an IPv4 address, and `::` may stand for one zero group or more.
abbrev pub IsForm6 : List ℕ → ℕ → Type 0
IsForm6 text number = (groups : List ℕ) × IsColonHex text groups × (number ≡ groups_number groups)

-- the text is a form of the address as it is written
abbrev pub IsForm : List ℕ → Addr → Type 0
IsForm text (V4 number) = IsForm4 text number
IsForm text (V6 number) = IsForm6 text number

-- the text spells the address of the host
abbrev pub Spells : List ℕ → Addr → Type 0
Spells text addr = (written : Addr) × IsForm text written × (addr ≡ canonical written)

-- the address that a text is a form of, as it is written
unfoldable pub written_addr : List ℕ → Option Addr
written_addr text =
    option_or
    (option_map (λ octets. V4 (octets_number octets)) (whole_value (read_ipv4 text)))
    (option_map (λ groups. V6 (groups_number groups)) (whole_value (read_ipv6 text)))

-- the address that a text reads as
unfoldable pub read_addr : List ℕ → Option Addr
read_addr text = option_map canonical (written_addr text)

-- the text of an address: dotted decimals, or groups in lower case with no leading zeros, of which the longest run of two zero
-- groups or more, and the first of such runs, is written `::`
unfoldable pub printed : Addr → List ℕ
printed (V4 number) = ipv4_text (octets number)
printed (V6 number) = hex_groups_text (groups number)
