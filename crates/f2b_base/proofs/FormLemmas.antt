-- The forms of addresses, and what they read as.
use Rattle.std.proofs.Common.{◌≡◌, ℕ, ◌∷◌, List, [], Option, Some, None, length, refl, sym, ap, ◌∙◌, arith, lit≤, ne_eqb, append-nil, subst, option_map}
use Rattle.std.proofs.lemmas.Option.{none-some, same_Some}
use Rattle.std.specs.Option.{option_or}
use Rattle.std.specs.declared.net.ipv4_addr.Ipv4Addr.{Ipv4Addr}
use Rattle.std.specs.declared.net.ipv6_addr.Ipv6Addr.{Ipv6Addr}
use Rattle.std.specs.declared.net.ip_addr.IpAddr.{IpAddr}
use Rattle.std.specs.declared.net.ip_addr.IpAddr.TheVariants as Ip
use Rattle.std.specs.Net.Addr.{ipv4_octets, ipv6_segments, ipv4_bits, ipv6_bits}
use Rattle.std.specs.Net.Grammar.{IsDotted, IsColonHex, IsIpText}
use Rattle.std.specs.Net.Reader.{Read, whole_value, read_ipv4, read_ipv6}
use Rattle.std.proofs.NetLemmas.Options.{map_some}
use Rattle.std.proofs.NetLemmas.Ipv4.{read_ipv4_complete, read_ipv4_sound}
use Rattle.std.proofs.NetLemmas.Ipv6.{read_ipv6_complete, read_ipv6_sound, EndsGroups-nil, IsDotted-not_colon_hex}
use Rattle.f2b_base.specs.declared.addr.Addr.{Addr}
use Rattle.f2b_base.specs.declared.addr.Addr.TheVariants.{V4, V6}
use Rattle.f2b_base.specs.Addresses.{canonical, octets, groups, octets_number, groups_number, written_addr, read_addr, Spells, IsForm, IsForm4, IsForm6}

-- ---- readers of a whole text

at_end : {A : Type 0} (value : A) (rest : List ℕ) (x : A) → whole_value (Some (value, rest)) ≡ Some x → ◌≡◌ {A = Read A} (Some (value, rest)) (Some (x, []))
at_end value [] x e = ap (λ y. Some (y, [])) (same_Some _ _ e)
at_end value (c ∷ rest) x e = absurd (none-some x (rw (ne_eqb (length (c ∷ rest)) 0 (omega arith)) at e))

-- a whole value is what was read, with no text left
whole_some : {A : Type 0} (read : Read A) (x : A) → whole_value read ≡ Some x → read ≡ Some (x, [])
whole_some None x e = absurd (none-some x e)
whole_some (Some p) x e = at_end p.0 p.1 x e

-- the reader of IPv4 addresses gives the octets of dotted decimals, and of nothing else
whole-IsDotted : (text octets : List ℕ) → IsDotted text octets → whole_value (read_ipv4 text) ≡ Some octets
whole-IsDotted text octets h =
    let read = read_ipv4_complete text octets [] h (lit≤ tt) in
    rw (sym (append-nil text), read)

IsDotted-from_whole : (text octets : List ℕ) → whole_value (read_ipv4 text) ≡ Some octets → IsDotted text octets
IsDotted-from_whole text octets e =
    let (front, split, h) = read_ipv4_sound text octets [] (whole_some (read_ipv4 text) octets e) in
    subst (λ t. IsDotted t octets) (sym (split ∙ append-nil front)) h

-- the reader of IPv6 addresses gives the groups of a form of them, and of nothing else
whole-IsColonHex : (text groups : List ℕ) → IsColonHex text groups → whole_value (read_ipv6 text) ≡ Some groups
whole-IsColonHex text groups h =
    let read = read_ipv6_complete text groups [] h EndsGroups-nil in
    rw (sym (append-nil text), read)

IsColonHex-from_whole : (text groups : List ℕ) → whole_value (read_ipv6 text) ≡ Some groups → IsColonHex text groups
IsColonHex-from_whole text groups e =
    let (front, split, h) = read_ipv6_sound text groups [] (whole_some (read_ipv6 text) groups e) in
    subst (λ t. IsColonHex t groups) (sym (split ∙ append-nil front)) h

-- ---- the written address

no_octets : (text groups : List ℕ) → IsColonHex text groups → (o : Option (List ℕ)) → whole_value (read_ipv4 text) ≡ o → o ≡ None
no_octets text groups h None e = refl
no_octets text groups h (Some octets) e = absurd (IsDotted-not_colon_hex text octets groups (IsDotted-from_whole text octets e) h)

-- a text reads as the address that it is a form of
pub written_addr-IsForm : (text : List ℕ) (addr : Addr) → IsForm text addr → written_addr text ≡ Some addr
unfolding written_addr
written_addr-IsForm text (V4 number) (octets, h, value) = rw (whole-IsDotted text octets h, value)
written_addr-IsForm text (V6 number) (groups, h, value) =
    rw (no_octets text groups h _ refl, whole-IsColonHex text groups h, value)

form_of_either : (text : List ℕ) (four six : Option (List ℕ)) (addr : Addr) → whole_value (read_ipv4 text) ≡ four → whole_value (read_ipv6 text) ≡ six → option_or (option_map (λ octets. V4 (octets_number octets)) four) (option_map (λ groups. V6 (groups_number groups)) six) ≡ Some addr → IsForm text addr
form_of_either text (Some octets) six addr e₄ e₆ e =
    subst (IsForm text) (same_Some _ _ e) (octets, IsDotted-from_whole text octets e₄, refl)
form_of_either text None (Some groups) addr e₄ e₆ e =
    subst (IsForm text) (same_Some _ _ e) (groups, IsColonHex-from_whole text groups e₆, refl)
form_of_either text None None addr e₄ e₆ e = absurd (none-some addr e)

-- and is a form of the address that it reads as
pub IsForm-from_written : (text : List ℕ) (addr : Addr) → written_addr text ≡ Some addr → IsForm text addr
unfolding written_addr
IsForm-from_written text addr e = form_of_either text _ _ addr refl refl e

-- a text that is a form of no address reads as none
pub written_addr_none : (text : List ℕ) → ((addr : Addr) → ¬ (IsForm text addr)) → written_addr text ≡ None
written_addr_none text h = by_cases (written_addr text) refl
  where
    by_cases : (o : Option Addr) → written_addr text ≡ o → written_addr text ≡ None
    by_cases None e = e
    by_cases (Some addr) e = absurd (h addr (IsForm-from_written text addr e))

-- a text reads as the address that it spells, and spells the address that it reads as
pub read_addr-Spells : (text : List ℕ) (addr : Addr) → Spells text addr → read_addr text ≡ Some addr
unfolding read_addr
read_addr-Spells text addr (written, form, same) = rw (written_addr-IsForm text written form) (ap Some (sym same))

pub Spells-from_read : (text : List ℕ) (addr : Addr) → read_addr text ≡ Some addr → Spells text addr
unfolding read_addr
Spells-from_read text addr e =
    map_some canonical (written_addr text) addr e λ written read same.
    (written, IsForm-from_written text written read, sym same)

-- ---- the forms, as std's parser knows them

pub IsForm4-IsIpText : (text : List ℕ) (ip : IpAddr) (ip4 : Ipv4Addr) (bits : ℕ) → ip ≡ Ip.V4 ip4 → bits ≡ ipv4_bits ip4 → IsIpText text ip → IsForm4 text bits
unfolding octets_number ipv4_bits
IsForm4-IsIpText text ip ip4 bits is value h = (ipv4_octets ip4, subst (IsIpText text) is h, value)

pub IsForm6-IsIpText : (text : List ℕ) (ip : IpAddr) (ip6 : Ipv6Addr) (bits : ℕ) → ip ≡ Ip.V6 ip6 → bits ≡ ipv6_bits ip6 → IsIpText text ip → IsForm6 text bits
unfolding groups_number ipv6_bits
IsForm6-IsIpText text ip ip6 bits is value h = (ipv6_segments ip6, subst (IsIpText text) is h, value)

-- where the parser finds nothing there is no form
pub no_form : (text : List ℕ) → ((ip : IpAddr) → ¬ (IsIpText text ip)) → (addr : Addr) → ¬ (IsForm text addr)
no_form text h (V4 number) form = h (Ip.V4 (record { octets = form.0 })) form.1
no_form text h (V6 number) form = h (Ip.V6 (record { segments = form.0 })) form.1
