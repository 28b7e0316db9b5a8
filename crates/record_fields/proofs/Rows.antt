-- Worked rows of fields, computed both ways.
use Rattle.std.proofs.Common.{◌≡◌, ℕ, true, false, List, [], ◌∷◌, ◌++◌, Option, Some, None, Result, Ok, Err, ℤ, pos, negsuc, refl, codes}
use Rattle.f2b_base.specs.declared.addr.Addr.TheVariants.{V4, V6}
use Rattle.record_fields.specs.Addresses.{addr_at, fixed_at, sixteen_at, cidr}
use Rattle.record_fields.specs.Numbers.{digits, digits_at, number, number_at, signed, unzigzag}
use Rattle.record_fields.specs.Small.{flag}
use Rattle.record_fields.specs.Texts.{string_at, string_spelling, text}

-- 300 is ac 02
number_is : number.spell 300 ≡ 0xac ∷ 2 ∷ []
unfolding digits
number_is = refl

number_reads : number.read (0xac ∷ 2 ∷ 0xff ∷ []) ≡ Ok (300, 0xff ∷ [])
unfolding number_at digits_at
number_reads = refl

-- the greatest number has ten bytes, and one more than it is none
greatest_reads : number_at (0xff ∷ 0xff ∷ 0xff ∷ 0xff ∷ 0xff ∷ 0xff ∷ 0xff ∷ 0xff ∷ 0xff ∷ 1 ∷ []) ≡ Ok (18446744073709551615, [])
unfolding number_at digits_at
greatest_reads = refl

too_great : number_at (0x80 ∷ 0x80 ∷ 0x80 ∷ 0x80 ∷ 0x80 ∷ 0x80 ∷ 0x80 ∷ 0x80 ∷ 0x80 ∷ 2 ∷ []) ≡ Err 10
unfolding number_at digits_at
too_great = refl

-- 80 00 is no spelling of 0, and its place is its first byte
superfluous : number_at (0x80 ∷ 0 ∷ []) ≡ Err 2
unfolding number_at digits_at
superfluous = refl

-- the signed numbers 0, -1, 1, -2 are 0, 1, 2, 3
signed_are : (signed.spell (pos 0) ++ signed.spell (negsuc 0)) ++ (signed.spell (pos 1) ++ signed.spell (negsuc 1)) ≡ 0 ∷ 1 ∷ 2 ∷ 3 ∷ []
unfolding digits
signed_are = refl

signed_reads : signed.read (3 ∷ []) ≡ Ok (negsuc 1, [])
unfolding number_at digits_at unzigzag
signed_reads = refl

-- a flag is 0 or 1, and nothing else
no_flag : flag.read (2 ∷ 0 ∷ []) ≡ Err 2
no_flag = refl

-- a text of fewer bytes than it says is at fault as a whole
cut_text : text.read (3 ∷ 0x61 ∷ 0x62 ∷ []) ≡ Err 3
unfolding string_at number_at digits_at
cut_text = refl

-- 192.0.2.7 is 04 c0 00 02 07
addr_reads : addr_at (4 ∷ 0xc0 ∷ 0 ∷ 2 ∷ 7 ∷ []) ≡ Ok (V4 0xc0000207, [])
unfolding addr_at fixed_at
addr_reads = refl

-- an address that is mapped is bad at its first byte
mapped : addr_at (6 ∷ 0 ∷ 0 ∷ 0 ∷ 0 ∷ 0 ∷ 0 ∷ 0 ∷ 0 ∷ 0 ∷ 0 ∷ 0xff ∷ 0xff ∷ 192 ∷ 0 ∷ 2 ∷ 7 ∷ []) ≡ Err 17
unfolding addr_at sixteen_at fixed_at
mapped = refl

-- a mask with bits after its prefix is bad at its bits: 10.1.0.0/8
loose_mask : cidr.read (4 ∷ 10 ∷ 1 ∷ 0 ∷ 0 ∷ 8 ∷ []) ≡ Err 1
unfolding cidr addr_at fixed_at
loose_mask = refl
