-- Addresses and masks that are read are within their bounds.
use Rattle.std.proofs.Common.{◌≡◌, ◌≢◌, ℕ, zero, suc, ◌+◌, ◌-◌, ◌/◌, ◌%◌, ◌^◌, ◌<◌, ◌≤◌, ◌==◌, Bool, true, false, cond, nat_le, List, [], ◌∷◌, ◌++◌, length, take, drop, position, Option, None, Some, Ok, refl, sym, subst, inl, inr, arith}
use Rattle.std.specs.Prelude.{codes, replicate}
use Rattle.std.specs.Str.Parse.{AllDigits, digits_value}
use Rattle.std.specs.Net.Addr.{segments_of}
use Rattle.std.specs.Net.Grammar.{IsDotted, IsGroup, IsGroupsAfter, IsColonHex}
use Rattle.std.proofs.NetLemmas.Options.{cond_some, and_then_some, map_some}
use Rattle.std.proofs.lemmas.Bool.{leb-true}
use Rattle.std.proofs.lemmas.Bool.Decides.{nat_tests}
use Rattle.std.proofs.lemmas.List.{length-append, length-replicate}
use Rattle.std.proofs.lemmas.Nat.{shr_split}
use Rattle.std.proofs.lemmas.Option.{none-some}
use Rattle.f2b_base.specs.declared.addr.Addr.{Addr}
use Rattle.f2b_base.specs.declared.addr.Addr.TheVariants.{V4, V6}
use Rattle.f2b_base.specs.declared.addr.Cidr.{Cidr}
use Rattle.f2b_base.specs.Addresses.{canonical, groups_number, is_mapped, octets_number, read_addr, written_addr, IsAddr, IsForm}
use Rattle.f2b_base.specs.Masks.{alone, cleared, masked, masked_v4, masked_v6, read_bits, read_cidr, read_split, IsCidr}
use Rattle.f2b_base.proofs.FormLemmas.{IsForm-from_written}
use Rattle.f2b_base.proofs.MaskLemmas.{cleared_twice, unmapped-cleared}
use Rattle.f2b_model.specs.Lists.{AllOf}
use Rattle.jail_conf.specs.declared.conf_error.ConfKind.TheVariants.{BadAddress}
use Rattle.jail_conf.specs.declared.source.Source.{Source}
use Rattle.jail_conf.specs.Addresses.{address, address_dividers, addresses}
use Rattle.jail_conf.specs.Jails.{ignored_of, loopback, never_banned}
use Rattle.jail_conf.specs.Sources.{own}
use Rattle.jail_conf.specs.Table as table
use Rattle.jail_conf.specs.Words.{words_by}
use Rattle.jail_conf.proofs.BoundLemmas.{each_good, was_there}
use Rattle.jail_conf.proofs.DistinctLemmas.{all_append}
use Rattle.jail_conf.proofs.GoodLemmas.{bind_ok, own_good}

-- ---- IPv4

four_bytes : (a b c d : ℕ) → a < 256 → b < 256 → c < 256 → d < 256 → octets_number (a ∷ b ∷ c ∷ d ∷ []) < 2 ^ 32
unfolding octets_number
four_bytes a b c d fit_a fit_b fit_c fit_d = omega (arith, fit_a, fit_b, fit_c, fit_d)

dotted_fits : (text octets : List ℕ) → IsDotted text octets → octets_number octets < 2 ^ 32
dotted_fits text octets dotted =
    subst (λ octets. octets_number octets < 2 ^ 32) (sym dotted.value)
    (four_bytes dotted.a dotted.b dotted.c dotted.d dotted.fit.0 dotted.fit.1 dotted.fit.2 dotted.fit.3)

-- ---- IPv6

abbrev IsSegment : ℕ → Type 0
IsSegment n = n < 65_536

-- four hex digits at most
hex_fits : (text : List ℕ) → AllDigits 16 text → length text ≤ 4 → IsSegment (digits_value 16 text)
hex_fits [] digits few = omega arith
hex_fits (a ∷ []) digits few = (let first = digits.0 in omega (arith, first))
hex_fits (a ∷ b ∷ []) digits few = (let first = digits.0 in let second = digits.1.0 in omega (arith, first, second))
hex_fits (a ∷ b ∷ c ∷ []) digits few =
    (let first = digits.0 in let second = digits.1.0 in let third = digits.1.1.0 in omega (arith, first, second, third))
hex_fits (a ∷ b ∷ c ∷ d ∷ []) digits few =
    (let first = digits.0 in
    let second = digits.1.0 in
    let third = digits.1.1.0 in
    let fourth = digits.1.1.1.0 in
    omega (arith, first, second, third, fourth))
hex_fits (a ∷ b ∷ c ∷ d ∷ e ∷ text) digits few = absurd (omega (arith, few))

group_fits : (text : List ℕ) (n : ℕ) → IsGroup text n → IsSegment n
group_fits text n group = subst IsSegment group.0.1 (hex_fits text group.0.0.1 group.1)

dotted_segments : (text octets : List ℕ) → IsDotted text octets → AllOf IsSegment (segments_of octets)
dotted_segments text octets dotted =
    subst (λ octets. AllOf IsSegment (segments_of octets)) (sym dotted.value)
    (let fit = dotted.fit in
    let a = fit.0 in
    let b = fit.1 in
    let c = fit.2 in
    let d = fit.3 in
    (omega (arith, a, b), (omega (arith, c, d), tt)))

groups_fit : (ipv4 : Bool) (lead text groups : List ℕ) → IsGroupsAfter ipv4 lead text groups → AllOf IsSegment groups
groups_fit ipv4 lead text [] are = tt
groups_fit ipv4 lead text (n ∷ groups) (inl (group, rest, split, is, more)) = (group_fits group n is, groups_fit ipv4 _ rest groups more)
groups_fit ipv4 lead text (n ∷ groups) (inr (last, octets, allowed, split, dotted, same)) =
    subst (AllOf IsSegment) (sym same) (dotted_segments last octets dotted)

zeros_fit : (count : ℕ) → AllOf IsSegment (replicate count 0)
zeros_fit zero = tt
zeros_fit (suc n) = (omega arith, zeros_fit n)

-- all eight groups
record AreEight (groups : List ℕ) : Type 0 where
  long : length groups ≡ 8
  fit : AllOf IsSegment groups

colon_hex_fits : (text groups : List ℕ) → IsColonHex text groups → AreEight groups
colon_hex_fits text groups (inl full) = record { long = full.1; fit = groups_fit true [] text groups full.0 }
colon_hex_fits text groups (inr elided) =
    let zeros : List ℕ = replicate (8 - length elided.head - length elided.tail) 0 in
    let room = elided.room in
    let front = length-append elided.head zeros in
    let all = length-append (elided.head ++ zeros) elided.tail in
    let many : length zeros ≡ 8 - length elided.head - length elided.tail = length-replicate (8 - length elided.head - length elided.tail) 0 in
    subst AreEight (sym elided.value) (record {
      long = omega (arith, room, front, all, many);
      fit =
          all_append IsSegment (elided.head ++ zeros) elided.tail
          (all_append IsSegment elided.head zeros (groups_fit false [] elided.head_text elided.head elided.head_groups) (zeros_fit (8 - length elided.head - length elided.tail)))
          (groups_fit true [] elided.tail_text elided.tail elided.tail_groups);
    })

-- their number
eight_fit : (groups : List ℕ) → AreEight groups → groups_number groups < 2 ^ 128
unfolding groups_number
eight_fit (a ∷ b ∷ c ∷ d ∷ e ∷ f ∷ g ∷ h ∷ []) are =
    let all = are.fit in
    let a_fits = all.0 in
    let b_fits = all.1.0 in
    let c_fits = all.1.1.0 in
    let d_fits = all.1.1.1.0 in
    let e_fits = all.1.1.1.1.0 in
    let f_fits = all.1.1.1.1.1.0 in
    let g_fits = all.1.1.1.1.1.1.0 in
    let h_fits = all.1.1.1.1.1.1.1.0 in
    omega (arith, a_fits, b_fits, c_fits, d_fits, e_fits, f_fits, g_fits, h_fits)
eight_fit groups are = absurd (let long = are.long in omega (arith, long))

-- ---- addresses

-- the number of an address as it is written fits its family
abbrev IsWide : Addr → Type 0
IsWide (V4 number) = number < 2 ^ 32
IsWide (V6 number) = number < 2 ^ 128

form_is_wide : (text : List ℕ) (addr : Addr) → IsForm text addr → IsWide addr
form_is_wide text (V4 number) (octets, dotted, value) = subst (λ n. n < 2 ^ 32) (sym value) (dotted_fits text octets dotted)
form_is_wide text (V6 number) (groups, hex, value) = subst (λ n. n < 2 ^ 128) (sym value) (eight_fit groups (colon_hex_fits text groups hex))

not_mapped : (number : ℕ) → is_mapped number ≡ false → number / 2 ^ 32 ≢ 0xffff
not_mapped number is = λ same. grind (arith, nat_tests, is, same)

canonical_is : (written : Addr) → IsWide written → IsAddr (canonical written)
canonical_is (V4 number) wide = wide
canonical_is (V6 number) wide = by (is_mapped number) refl
  where
    by : (mapped : Bool) → is_mapped number ≡ mapped → IsAddr (cond mapped (V4 (number % 2 ^ 32)) (V6 number))
    by true is = omega arith
    by false is = (wide, not_mapped number is)

read_addr_is : (text : List ℕ) (addr : Addr) → read_addr text ≡ Some addr → IsAddr addr
unfolding read_addr
read_addr_is text addr is =
    map_some canonical (written_addr text) addr is
    (λ written read same. subst IsAddr same (canonical_is written (form_is_wide text written (IsForm-from_written text written read))))

-- ---- masks

alone_is : (addr : Addr) → IsAddr addr → IsCidr (alone addr)
alone_is (V4 number) fits = (fits, (omega arith, omega arith))
alone_is (V6 number) fits = (fits, (omega arith, omega arith))

masked_v4_is : (number bits : ℕ) (cidr : Cidr) → number < 2 ^ 32 → masked_v4 number bits ≡ Some cidr → IsCidr cidr
masked_v4_is number bits cidr wide is =
    let found = cond_some (nat_le bits 32) (record { base = V4 (cleared 32 bits number); bits = bits }) cidr is in
    let split = shr_split number (32 - bits) in
    let below : cleared 32 bits number ≤ number = omega (arith, split) in
    subst IsCidr found.1 (omega (arith, below, wide), (leb-true bits 32 found.0, cleared_twice number (32 - bits)))

masked_v6_is : (number bits : ℕ) (cidr : Cidr) → number < 2 ^ 128 → number / 2 ^ 32 ≢ 0xffff → masked_v6 number bits ≡ Some cidr → IsCidr cidr
masked_v6_is number bits cidr wide other is =
    let found = cond_some (nat_le bits 128) (record { base = V6 (cleared 128 bits number); bits = bits }) cidr is in
    let split = shr_split number (128 - bits) in
    let below : cleared 128 bits number ≤ number = omega (arith, split) in
    subst IsCidr found.1 ((omega (arith, below, wide), unmapped-cleared number (128 - bits) other), (leb-true bits 128 found.0, cleared_twice number (128 - bits)))

masked_is : (written : Addr) (bits : ℕ) (cidr : Cidr) → IsWide written → masked written bits ≡ Some cidr → IsCidr cidr
masked_is (V4 number) bits cidr wide is = masked_v4_is number bits cidr wide is
masked_is (V6 number) bits cidr wide is = by (is_mapped number) (nat_le 96 bits) refl is
  where
    by : (mapped enough : Bool) → is_mapped number ≡ mapped →
        cond mapped (cond enough (masked_v4 (number % 2 ^ 32) (bits - 96)) None) (masked_v6 number bits) ≡ Some cidr → IsCidr cidr
    by true true mapped is = masked_v4_is (number % 2 ^ 32) (bits - 96) cidr (omega arith) is
    by true false mapped is = absurd (none-some cidr is)
    by false enough mapped is = masked_v6_is number bits cidr wide (not_mapped number mapped) is

split_is : (text : List ℕ) (place : Option ℕ) (cidr : Cidr) → read_split text place ≡ Some cidr → IsCidr cidr
split_is text None cidr is =
    map_some alone (read_addr text) cidr is (λ addr read same. subst IsCidr same (alone_is addr (read_addr_is text addr read)))
split_is text (Some place) cidr is =
    and_then_some _ (written_addr (take place text)) cidr is
    (λ written read more.
    and_then_some (masked written) (read_bits (drop (place + 1) text)) cidr more
    (λ bits read_bits over. masked_is written bits cidr (form_is_wide (take place text) written (IsForm-from_written (take place text) written read)) over))

read_cidr_is : (text : List ℕ) (cidr : Cidr) → read_cidr text ≡ Some cidr → IsCidr cidr
unfolding read_cidr
read_cidr_is text cidr is = split_is text (position (λ byte. byte == 47) text) cidr is

-- ---- those that a jail lists

address_is : (word : List ℕ) (cidr : Cidr) → address word ≡ Ok cidr → IsCidr cidr
address_is word cidr is = read_cidr_is word cidr (was_there BadAddress (read_cidr word) cidr is)

addresses_are : (text : List ℕ) (all : List Cidr) → addresses text ≡ Ok all → AllOf IsCidr all
addresses_are text all is = each_good IsCidr address address_is (words_by address_dividers text) all is

loopback_is : AllOf IsCidr loopback
loopback_is = ((omega arith, (omega arith, refl)), (((omega arith, λ same. omega (arith, same)), (omega arith, refl)), tt))

never_banned_are : (listed own_addresses : List Cidr) (self : Bool) → AllOf IsCidr listed → AllOf IsCidr own_addresses → AllOf IsCidr (never_banned listed self own_addresses)
never_banned_are listed own_addresses true first second =
    all_append IsCidr listed (loopback ++ own_addresses) first (all_append IsCidr loopback own_addresses loopback_is second)
never_banned_are listed own_addresses false first second = all_append IsCidr listed [] first tt

pub ignored_are : (jail : Source) (all : List Cidr) → ignored_of jail ≡ Ok all → AllOf IsCidr all
unfolding ignored_of
ignored_are jail all is =
    let self = bind_ok (own jail table.ignoreself) _ all is in
    let listed = bind_ok (own jail table.ignoreip) _ all self.2 in
    let addresses_of = bind_ok (own jail table.selfaddresses) _ all listed.2 in
    let same : never_banned listed.0 self.0 addresses_of.0 ≡ all = cc addresses_of.2 in
    let first : AllOf IsCidr listed.0 = own_good (AllOf IsCidr) addresses addresses_are jail (codes "ignoreip") [] listed.0 tt listed.1 in
    let second : AllOf IsCidr addresses_of.0 = own_good (AllOf IsCidr) addresses addresses_are jail (codes "selfaddresses") [] addresses_of.0 tt addresses_of.1 in
    subst (AllOf IsCidr) same (never_banned_are listed.0 addresses_of.0 self.0 first second)
