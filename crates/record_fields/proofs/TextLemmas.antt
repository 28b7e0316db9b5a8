-- Bytes and texts that are read are those that were written.
use Rattle.std.proofs.Common.{◌≡◌, ℕ, ◌≤◌, false, nat_lt, nat_le, List, ◌++◌, length, take, drop, Ok, refl, sym, ap₂, subst, ◌∙◌, append_assoc, arith}
use Rattle.std.proofs.lemmas.Bool.{le-ltb, ltb-false, leb-true, le-leb}
use Rattle.std.proofs.lemmas.List.{length-append, take-append-drop, length-take}
use Rattle.std.proofs.lemmas.Str.{IsUtf8-from_is_utf8, is_utf8-from_IsUtf8}
use Rattle.std.proofs.Math.Seq.{take-append_seam, drop-append_seam}
use Rattle.std.specs.Str.{is_utf8, IsUtf8}
use Rattle.record_fields.specs.Codec.{IsBytes, IsHeld, IsCodec, checked}
use Rattle.record_fields.specs.Numbers.{digits, number_at}
use Rattle.record_fields.specs.Texts.{string, string_spelling, string_at, text, short}
use Rattle.record_fields.proofs.CodecLemmas.{bind_ok, refused, IsBytes-drop, Spelt, checked_codec, fit_codec}
use Rattle.record_fields.proofs.NumberLemmas.{number_codec}

takes_string : (bytes : List ℕ) (y : List ℕ × List ℕ) → IsBytes bytes → string_at bytes ≡ Ok y → Spelt string bytes y
unfolding string_at string_spelling
takes_string bytes y ok e =
    let a = bind_ok (number_at bytes) _ y e in
    let n = a.0.0 in
    let after = a.0.1 in
    let p = number_codec.takes bytes n after ok a.1 in
    let g = refused (nat_lt (length after) n) (take n after, drop n after) (length bytes) y a.2 in
    let long : n ≤ length after = ltb-false _ _ g.0 in
    let len : length (take n after) ≡ n = omega (arith, length-take n after) in
    let parts : bytes ≡ string.spell (take n after) ++ drop n after =
    p.0 ∙ ap₂ (λ (k : ℕ) (t : List ℕ). digits 10 k ++ t) (sym len) (sym (take-append-drop n after))
    ∙ sym (append_assoc (digits 10 (length (take n after))) (take n after) (drop n after)) in
    subst (Spelt string bytes) g.1 (parts, tt, IsBytes-drop n after p.2)

again_string : (x rest : List ℕ) → IsHeld (string_spelling x ++ rest) → string_at (string.spell x ++ rest) ≡ Ok (x, rest)
unfolding string_at string_spelling
again_string x rest held =
    let grouped : string.spell x ++ rest ≡ digits 10 (length x) ++ (x ++ rest) = append_assoc (digits 10 (length x)) x rest in
    let number_is = number_codec.again (length x) (x ++ rest) (omega (arith, subst IsHeld grouped held, length-append (digits 10 (length x)) (x ++ rest), length-append x rest)) (subst IsHeld grouped held) in
    let fits : nat_lt (length (x ++ rest)) (length x) ≡ false = le-ltb _ _ (omega (arith, length-append x rest)) in
    rw (grouped, number_is, fits, take-append_seam x rest, drop-append_seam x rest) refl

string_some : (s : List ℕ) → 1 ≤ length (string_spelling s)
unfolding string_spelling
string_some s = omega (arith, number_codec.some (length s), length-append (digits 10 (length s)) s)

pub string_codec : IsCodec string
string_codec = record { takes = λ bytes x rest ok e. takes_string bytes (x, rest) ok e; again = λ x rest _ held. again_string x rest held; some = string_some }

pub text_codec : IsCodec text
text_codec = fit_codec IsUtf8 (checked is_utf8 string) (checked_codec is_utf8 string string_codec)
    (λ s h. IsUtf8-from_is_utf8 s h.1) (λ s h. (tt, is_utf8-from_IsUtf8 s h))

pub short_codec : (most : ℕ) → IsCodec (short most)
short_codec most = fit_codec (λ s. IsUtf8 s × (length s ≤ most)) (checked (λ s. nat_le (length s) most) text) (checked_codec (λ s. nat_le (length s) most) text text_codec)
    (λ s h. (h.0, leb-true (length s) most h.1)) (λ s h. (h.0, le-leb (length s) most h.1))
