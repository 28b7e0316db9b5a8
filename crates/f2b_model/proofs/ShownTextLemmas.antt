-- What a command shows of a ban is text.
use Rattle.std.proofs.Common.{◌≡◌, ℕ, ◌-◌, ◌^◌, ◌<◌, true, Option, Some, None, List, [], ◌∷◌, inl, inr, decimal, refl, pos, negsuc, arith}
use Rattle.std.specs.Prelude.{codes}
use Rattle.std.specs.List.{list_all}
use Rattle.std.specs.Str.{IsUtf8, IsAscii}
use Rattle.std.specs.Fmt.{signed_decimal}
use Rattle.std.specs.Int.{w32, w128, to_be_bytes}
use Rattle.std.specs.Net.Addr.{segments_of}
use Rattle.std.specs.Net.Text.{ipv4_text, hex_groups_text}
use Rattle.std.proofs.lemmas.Bool.{and_parts}
use Rattle.std.proofs.lemmas.Bool.Decides.{nat_tests}
use Rattle.std.proofs.lemmas.Fmt.{IsAscii-decimal, IsAscii-signed}
use Rattle.std.proofs.lemmas.List.Elements.{All-weaker}
use Rattle.std.proofs.lemmas.Str.{IsUtf8-from_ascii, IsUtf8-nil}
use Rattle.std.proofs.lemmas.Str.Ascii.{IsAscii-cons, IsAscii-nil, IsAscii-from_all}
use Rattle.std.proofs.NetLemmas.Alphabet.{IsDigitOrDot, IsHexOrColon, All-ipv4_text, All-hex_groups_text}
use Rattle.f2b_base.proofs.ByteLemmas.{AllBytes-bytes_high_first, AllSegments-segments_of}
use Rattle.f2b_base.specs.Addresses.{printed, octets, groups}
use Rattle.f2b_base.specs.declared.addr.Addr.{Addr}
use Rattle.f2b_base.specs.declared.addr.Addr.TheVariants.{V4, V6}
use Rattle.f2b_base.specs.declared.addr.Family.{Family}
use Rattle.f2b_base.specs.declared.addr.Family.TheVariants.{Both, Inet4, Inet6}
use Rattle.f2b_base.specs.declared.ban.Failure.{Failure}
use Rattle.f2b_base.specs.declared.ban.Until.{Until}
use Rattle.f2b_base.specs.declared.ban.Until.TheVariants.{Never, At}
use Rattle.f2b_model.specs.declared.fill.Fill.{Fill}
use Rattle.f2b_model.specs.Escapes.{is_safe}
use Rattle.f2b_model.specs.Lists.{AllOf}
use Rattle.f2b_model.specs.Matches.{matches_of}
use Rattle.f2b_model.specs.Orders.{Held, family_of, fill_of, lasting, shown_family}
use Rattle.f2b_model.specs.Render.{ip_text, family_text, values}
use Rattle.f2b_model.specs.Storable.{IsStorableBan, IsStorableUntil}
use Rattle.f2b_model.proofs.MatchLemmas.{matches_safe}

-- ---- addresses

digit_small : (c : ℕ) → IsDigitOrDot c → c < 128
digit_small c h = elim h [ inl r ↦ omega (arith, r) | inr e ↦ omega (arith, e) ]

hex_small : (c : ℕ) → IsHexOrColon c → c < 128
hex_small c h = elim h [ inl r ↦ omega (arith, r) | inr r ↦ omega (arith, r) ]

-- an address prints as a text
pub printed_utf8 : (addr : Addr) → IsUtf8 (printed addr)
unfolding printed octets groups
printed_utf8 (V4 number) =
    let bytes = to_be_bytes w32 number in
    let text = ipv4_text bytes in
    IsUtf8-from_ascii text (IsAscii-from_all text (All-weaker IsDigitOrDot (λ b. b < 128) digit_small text (All-ipv4_text bytes (AllBytes-bytes_high_first 4 number))))
printed_utf8 (V6 number) =
    let bytes = to_be_bytes w128 number in
    let groups = segments_of bytes in
    let text = hex_groups_text groups in
    IsUtf8-from_ascii text
    (IsAscii-from_all text (All-weaker IsHexOrColon (λ b. b < 128) hex_small text (All-hex_groups_text groups (AllSegments-segments_of bytes (AllBytes-bytes_high_first 16 number)))))

-- ---- lines

safe_small : (c : ℕ) → is_safe c ≡ true → c < 128
safe_small c h = grind (arith, nat_tests)

safe_ascii : (text : List ℕ) → list_all is_safe text ≡ true → IsAscii text
safe_ascii [] h = IsAscii-nil
safe_ascii (c ∷ text) h = let parts = and_parts (is_safe c) (list_all is_safe text) h in IsAscii-cons c text (safe_small c parts.0) (safe_ascii text parts.1)

-- the lines that a ban shows are a text
pub matches_utf8 : (maxmatches : ℕ) (fs : List Failure) → IsUtf8 (matches_of maxmatches fs)
matches_utf8 maxmatches fs = IsUtf8-from_ascii (matches_of maxmatches fs) (safe_ascii (matches_of maxmatches fs) (matches_safe maxmatches fs))

-- ---- values
number_utf8 : (n : ℕ) → n < 2 ^ 64 → IsUtf8 (decimal n)
number_utf8 n h = IsUtf8-from_ascii (decimal n) (IsAscii-decimal n h)

ip_utf8 : (o : Option Addr) → IsUtf8 (ip_text o)
ip_utf8 None = IsUtf8-nil
ip_utf8 (Some addr) = printed_utf8 addr

family_utf8 : (family : Family) → IsUtf8 (family_text family)
family_utf8 Both = IsUtf8-from_ascii (codes "inet4") (safe_ascii (codes "inet4") refl)
family_utf8 Inet4 = IsUtf8-from_ascii (codes "inet4") (safe_ascii (codes "inet4") refl)
family_utf8 Inet6 = IsUtf8-from_ascii (codes "inet6") (safe_ascii (codes "inet6") refl)

lasting_utf8 : (begin : ℕ) (u : Until) → IsStorableUntil u → IsUtf8 (signed_decimal (lasting begin u))
lasting_utf8 begin Never h = IsUtf8-from_ascii (signed_decimal (negsuc 0)) (IsAscii-signed (negsuc 0) (omega arith))
lasting_utf8 begin (At end) h = IsUtf8-from_ascii (signed_decimal (pos (end - begin))) (IsAscii-signed (pos (end - begin)) (omega (arith, h)))

br_utf8 : IsUtf8 (10 ∷ [])
br_utf8 = IsUtf8-from_ascii (10 ∷ []) (IsAscii-cons 10 [] (omega arith) IsAscii-nil)

-- a ban that can be stored, where there is one
abbrev pub IsStorableOf : Option Held → Type 0
IsStorableOf None = Unit {0}
IsStorableOf (Some h) = IsStorableBan h.ban

-- the values of tags are texts where these eight are
eight_utf8 : (f : Fill) → IsUtf8 (ip_text f.ip) → IsUtf8 (family_text f.family) → IsUtf8 (decimal f.failures) → IsUtf8 (decimal f.time) → IsUtf8 (signed_decimal f.bantime) → IsUtf8 (decimal f.bancount)
    → IsUtf8 f.matches → AllOf (λ (e : List ℕ × List ℕ). IsUtf8 e.1) (values f)
eight_utf8 f ip family failures time bantime bancount matches = (ip, (family, (failures, (time, (bantime, (bancount, (matches, (br_utf8, tt))))))))

-- what each tag stands for is a text
pub values_utf8 : (lines : List ℕ) (family : Family) (of : Option Held) → IsUtf8 lines → IsStorableOf of
    → AllOf (λ (e : List ℕ × List ℕ). IsUtf8 e.1) (values (record (fill_of family of) { matches = lines }))
values_utf8 lines family None shown s =
    let zero = number_utf8 0 (omega arith) in
    let none = IsUtf8-from_ascii (signed_decimal (pos 0)) (IsAscii-signed (pos 0) (omega arith)) in
    eight_utf8 (record (fill_of family None) { matches = lines }) IsUtf8-nil (family_utf8 (shown_family family)) zero zero none zero shown
values_utf8 lines family (Some h) shown s =
    let few = s.failures in
    let begin = s.begin in
    let count = s.count in
    eight_utf8 (record (fill_of family (Some h)) { matches = lines }) (printed_utf8 h.ban.addr) (family_utf8 (family_of h.ban.addr)) (number_utf8 h.ban.failures (omega (arith, few)))
    (number_utf8 h.ban.begin (omega (arith, begin))) (lasting_utf8 h.ban.begin h.ban.until s.until) (number_utf8 h.ban.count (omega (arith, count))) shown
