-- The slash in the text of a mask: no form of an address has one.
use Rattle.std.proofs.Common.{◌≡◌, ◌≢◌, ℕ, zero, suc, ◌^◌, ◌<◌, List, get_or, length, Some, None, inl, inr, arith, lt-ltb, Bool, position, true, false, ◌==◌, All, le_refl, le-ltb, ne_eqb, eq-eqb, length-append, [], ◌∷◌, ◌++◌}
use Rattle.std.specs.Str.Parse.{AllDigits}
use Rattle.std.proofs.lemmas.List.Elements.{All-nil, All-cons, All-append, All-weaker}
use Rattle.std.specs.Net.Grammar.{IsDotted, IsGroupsAfter}
use Rattle.std.proofs.NetLemmas.Alphabet.{IsDigitOrDot, All-ipv4_text}
use Rattle.std.proofs.lemmas.List.{get_or_append_left}
use Rattle.std.proofs.lemmas.List.Sums.{position_or_len_is}
use Rattle.std.proofs.Math.Seq.{get_or-append_seam}
use Rattle.std.specs.Char.{digit_value}
use Rattle.std.specs.Net.Text.{dotted_text}
use Rattle.f2b_base.specs.declared.addr.Addr.{Addr}
use Rattle.f2b_base.specs.declared.addr.Addr.TheVariants.{V4, V6}
use Rattle.f2b_base.specs.Addresses.{IsForm}

-- no byte of the text is a slash
abbrev pub NoSlash : List ℕ → Type 0
NoSlash = All (λ byte. byte ≢ 47)

no_slash_in_digits : (digits : List ℕ) → AllDigits 16 digits → NoSlash digits
no_slash_in_digits [] h = All-nil (λ byte. byte ≢ 47)
no_slash_in_digits (d ∷ digits) h =
    All-cons (λ byte. byte ≢ 47) d digits (λ slash. let big : digit_value 47 < 16 = rw slash at h.0 in omega arith) (no_slash_in_digits digits h.1)

four_below : (a b c d : ℕ) → (a < 256) × (b < 256) × (c < 256) × (d < 256) → (k : ℕ) → get_or (a ∷ b ∷ c ∷ d ∷ []) k 0 < 2 ^ 8
four_below a b c d fit zero = fit.0
four_below a b c d fit (suc zero) = fit.1
four_below a b c d fit (suc (suc zero)) = fit.2
four_below a b c d fit (suc (suc (suc zero))) = fit.3
four_below a b c d fit (suc (suc (suc (suc k)))) = omega arith

no_slash_in_dotted : (text octets : List ℕ) → IsDotted text octets → NoSlash text
no_slash_in_dotted text octets h =
    let other : (byte : ℕ) → IsDigitOrDot byte → byte ≢ 47 = λ byte is slash. elim is [ inl digit ↦ omega arith | inr dot ↦ omega arith ] in
    rw h.spelled (All-weaker IsDigitOrDot (λ byte. byte ≢ 47) other (dotted_text h.a h.b h.c h.d) (All-ipv4_text (h.a ∷ h.b ∷ h.c ∷ h.d ∷ []) (four_below h.a h.b h.c h.d h.fit)))

one_colon : NoSlash (58 ∷ [])
one_colon = All-cons (λ byte. byte ≢ 47) 58 [] (omega arith) (All-nil (λ byte. byte ≢ 47))

two_colons : NoSlash (58 ∷ 58 ∷ [])
two_colons = All-cons (λ byte. byte ≢ 47) 58 (58 ∷ []) (omega arith) one_colon

no_slash_in_groups : (ipv4 : Bool) (lead text groups : List ℕ) → NoSlash lead → IsGroupsAfter ipv4 lead text groups → NoSlash text
no_slash_in_groups ipv4 lead text [] clean h = rw h (All-nil (λ byte. byte ≢ 47))
no_slash_in_groups ipv4 lead text (g ∷ groups) clean (inl (group, rest, split, is_group, more)) =
    let front = All-append (λ byte. byte ≢ 47) lead group clean (no_slash_in_digits group is_group.0.0.1) in
    rw split (All-append (λ byte. byte ≢ 47) (lead ++ group) rest front (no_slash_in_groups ipv4 (58 ∷ []) rest groups one_colon more))
no_slash_in_groups ipv4 lead text (g ∷ groups) clean (inr (last, octets, allowed, split, dotted, value)) =
    rw split (All-append (λ byte. byte ≢ 47) lead last clean (no_slash_in_dotted last octets dotted))

-- no form of an address has a slash
pub no_slash_in_form : (text : List ℕ) (addr : Addr) → IsForm text addr → NoSlash text
no_slash_in_form text (V4 number) (octets, dotted, _) = no_slash_in_dotted text octets dotted
no_slash_in_form text (V6 number) (groups, inl (full, _), _) = no_slash_in_groups true [] text groups (All-nil (λ byte. byte ≢ 47)) full
no_slash_in_form text (V6 number) (groups, inr elided, _) =
    let nothing = All-nil (λ byte. byte ≢ 47) in
    let head = no_slash_in_groups false [] elided.head_text elided.head nothing elided.head_groups in
    let tail = no_slash_in_groups true [] elided.tail_text elided.tail nothing elided.tail_groups in
    rw elided.spelled (All-append (λ byte. byte ≢ 47) (elided.head_text ++ 58 ∷ 58 ∷ []) elided.tail_text (All-append (λ byte. byte ≢ 47) elided.head_text (58 ∷ 58 ∷ []) head two_colons) tail)

-- the test that `position` makes
abbrev pub is_slash : ℕ → Bool
is_slash byte = byte == 47

-- a text without a slash has no place of one, and its first place is where one follows such a text
pub position_none : (text : List ℕ) → NoSlash text → position is_slash text ≡ None
position_none text clean =
    let len = length text in
    let place = position_or_len_is is_slash text len 0 (le_refl len) (λ k lt. ne_eqb (get_or text k 0) 47 (clean k 0 lt)) (λ lt. absurd (omega arith)) in
    rw (place, le-ltb len len (le_refl len))

pub position_first : (front rest : List ℕ) → NoSlash front → position is_slash (front ++ 47 ∷ rest) ≡ Some (length front)
position_first front rest clean =
    let text = front ++ 47 ∷ rest in
    let len = length-append front (47 ∷ rest) in
    let within : length front < length text = omega arith in
    let before : (k : ℕ) → k < length front → is_slash (get_or text k 0) ≡ false = λ k lt. rw (get_or_append_left front (47 ∷ rest) 0 k lt) (ne_eqb (get_or front k 0) 47 (clean k 0 lt)) in
    let place = position_or_len_is is_slash text (length front) 0 (omega arith) before (λ _. eq-eqb (get_or text (length front) 0) 47 (get_or-append_seam front 47 rest 0)) in
    rw (place, lt-ltb (length front) (length text) within)
