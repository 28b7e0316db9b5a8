-- What is printed of an address, and that it reads as the address.
use Rattle.std.proofs.Common.{◌≡◌, ℕ, ◌+◌, ◌/◌, ◌%◌, ◌<◌, ◌≤◌, ◌∷◌, ◌^◌, ◌-◌, take, drop, decimal, inl, inr, [], Some, refl, sym, ap, ◌∙◌, arith, ne_eqb}
use Rattle.std.proofs.lemmas.Bool.{cases_lt}
use Rattle.std.proofs.lemmas.Fmt.{decimal_digit, decimal_step}
use Rattle.std.proofs.lemmas.Nat.{from_be_bytes-to_be_bytes_4}
use Rattle.std.specs.Int.{w128, to_be_bytes, from_be_bytes}
use Rattle.std.specs.Net.Addr.{segments_of, octets_of}
use Rattle.std.proofs.NetLemmas.Texts.{IsDotted-ipv4_text, IsColonHex-hex_groups_text}
use Rattle.f2b_base.specs.declared.addr.Addr.{Addr}
use Rattle.f2b_base.specs.declared.addr.Addr.TheVariants.{V4, V6}
use Rattle.f2b_base.specs.Addresses.{canonical, octets, groups, octets_number, groups_number, read_addr, printed, IsAddr, IsForm}
use Rattle.f2b_base.proofs.FormLemmas.{written_addr-IsForm}
use Rattle.f2b_base.proofs.ByteLemmas.{AllBytes-bytes_high_first, AllSegments-segments_of, octets_of-segments_of, from_be_bytes-to_be_bytes_16}

-- the decimal of an octet is its three digits without the leading zeros
pub decimal-octet : (n skipped : ℕ) → n < 256 → (100 ≤ n → skipped ≡ 0) → (10 ≤ n → n < 100 → skipped ≡ 1) → (n < 10 → skipped ≡ 2) → take (3 - skipped) (drop skipped ((48 + n / 100) ∷ (48 + n / 10 % 10) ∷ (48 + n % 10) ∷ [])) ≡ decimal n
decimal-octet n skipped fits high middle low =
    elim (cases_lt n 10) [
      | inl one ↦ rw (low one, decimal_digit n one) (ap (λ d. (48 + d) ∷ []) (omega arith))
      | inr more ↦ elim (cases_lt n 100) [
        | inl two ↦ rw (middle more two, decimal_step n more (omega arith), decimal_digit (n / 10) (omega arith)) (ap (λ d. (48 + d) ∷ (48 + n % 10) ∷ []) (omega arith))
        | inr three ↦
            let tens : 10 ≤ n / 10 = omega arith in
            let hundreds : n / 10 / 10 ≡ n / 100 = omega arith in
            rw (high three, decimal_step n more (omega arith), decimal_step (n / 10) tens (omega arith), decimal_digit (n / 10 / 10) (omega arith), hundreds)
      ]
    ]

-- an address prints as a form of it
IsForm-printed : (addr : Addr) → IsAddr addr → IsForm (printed addr) addr
unfolding printed octets groups octets_number groups_number
IsForm-printed (V4 number) h =
    (octets number, IsDotted-ipv4_text (octets number) refl (AllBytes-bytes_high_first 4 number), sym (from_be_bytes-to_be_bytes_4 number h))
IsForm-printed (V6 number) h =
    let bytes = to_be_bytes w128 number in
    let all = AllBytes-bytes_high_first 16 number in
    let value : number ≡ from_be_bytes w128 (octets_of (segments_of bytes)) =
    sym (ap (from_be_bytes w128) (octets_of-segments_of bytes 8 refl all) ∙ from_be_bytes-to_be_bytes_16 number h.0) in
    (groups number, IsColonHex-hex_groups_text (groups number) refl (AllSegments-segments_of bytes all), value)

-- an address within its bounds is the one of its host
canonical-IsAddr : (addr : Addr) → IsAddr addr → canonical addr ≡ addr
canonical-IsAddr (V4 number) h = refl
canonical-IsAddr (V6 number) h = rw (ne_eqb (number / 2 ^ 32) 0xffff h.1)

-- the text that an address prints as reads as the address
pub read_addr-printed : (addr : Addr) → IsAddr addr → read_addr (printed addr) ≡ Some addr
unfolding read_addr
read_addr-printed addr h = rw (written_addr-IsForm (printed addr) addr (IsForm-printed addr h), canonical-IsAddr addr h)
