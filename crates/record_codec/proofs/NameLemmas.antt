-- The name of a jail is UTF-8, since its bytes are ASCII.
use Rattle.std.proofs.Common.{◌≡◌, ℕ, zero, suc, ◌<◌, ◌≤◌, Bool, true, false, nat_le, ◌==◌, ◌&&◌, ◌||◌, List, [], ◌∷◌, length, slice_index, refl, sym, arith, ◌⊎◌, inl, inr, true≢false}
use Rattle.std.proofs.lemmas.Bool.{leb-true, le-leb, eqb-true}
use Rattle.std.proofs.lemmas.Str.{IsUtf8-from_ascii}
use Rattle.std.specs.List.{list_all}
use Rattle.std.specs.Str.{IsUtf8, IsAscii}
use Rattle.f2b_model.specs.Storable.{is_name_byte, IsJailName}
use Rattle.record_fields.specs.Codec.{IsCodec, checked}
use Rattle.record_fields.specs.Texts.{text}
use Rattle.record_fields.proofs.CodecLemmas.{checked_codec, fit_codec}
use Rattle.record_fields.proofs.NumberLemmas.{both_of}
use Rattle.record_fields.proofs.TextLemmas.{text_codec}
use Rattle.record_codec.specs.Definitions.{is_name, name}
use Rattle.record_codec.proofs.AllowedLemmas.{FitsAre}

either_of : (a b : Bool) → (a || b) ≡ true → (a ≡ true) ⊎ (b ≡ true)
either_of true b e = inl refl
either_of false b e = inr e

abbrev from_to : ℕ → ℕ → ℕ → Bool
from_to least most b = nat_le least b && nat_le b most

-- a byte of a name is ASCII
name_byte_ascii : (b : ℕ) → is_name_byte b ≡ true → b < 128
name_byte_ascii b e =
    let signs : Bool = b == 95 || (b == 46 || b == 45) in
    let digits : Bool = from_to 48 57 b || signs in
    let small : Bool = from_to 97 122 b || digits in
    elim (either_of (from_to 65 90 b) small e) [
      | inl upper ↦ let le = leb-true b 90 (both_of (nat_le 65 b) (nat_le b 90) upper).1 in omega (arith, le)
      | inr rest ↦ elim (either_of (from_to 97 122 b) digits rest) [
        | inl lower ↦ let le = leb-true b 122 (both_of (nat_le 97 b) (nat_le b 122) lower).1 in omega (arith, le)
        | inr more ↦ elim (either_of (from_to 48 57 b) signs more) [
          | inl digit ↦ let le = leb-true b 57 (both_of (nat_le 48 b) (nat_le b 57) digit).1 in omega (arith, le)
          | inr sign ↦ elim (either_of (b == 95) (b == 46 || b == 45) sign) [
            | inl line ↦ let is = eqb-true b 95 line in omega (arith, is)
            | inr last ↦ elim (either_of (b == 46) (b == 45) last) [
              | inl dot ↦ let is = eqb-true b 46 dot in omega (arith, is)
              | inr dash ↦ let is = eqb-true b 45 dash in omega (arith, is)
            ]
          ]
        ]
      ]
    ]

bytes_ascii : (bytes : List ℕ) → list_all is_name_byte bytes ≡ true → IsAscii bytes
bytes_ascii [] h i = omega arith
bytes_ascii (b ∷ bytes) h zero = name_byte_ascii b (both_of (is_name_byte b) (list_all is_name_byte bytes) h).0
bytes_ascii (b ∷ bytes) h (suc i) = bytes_ascii bytes (both_of (is_name_byte b) (list_all is_name_byte bytes) h).1 i

name_utf8 : (s : List ℕ) → IsJailName s → IsUtf8 s
name_utf8 s h = IsUtf8-from_ascii s (bytes_ascii s h.bytes)

name_is : (s : List ℕ) → is_name s ≡ true → IsJailName s
name_is s h =
    let t = both_of _ _ h in
    let u = both_of _ _ t.1 in
    record { long = (leb-true 1 (length s) t.0, leb-true (length s) 64 u.0); bytes = u.1 }

is_name_of : (s : List ℕ) → IsJailName s → is_name s ≡ true
is_name_of s h = rw (le-leb 1 (length s) h.long.0, le-leb (length s) 64 h.long.1, h.bytes) refl

pub name_codec : IsCodec name
unfolding name
name_codec = fit_codec IsJailName (checked is_name text) (checked_codec is_name text text_codec) (λ s h. name_is s h.1) (λ s h. (name_utf8 s h, is_name_of s h))

pub name_word : FitsAre name IsJailName
unfolding name
name_word = record { are = λ s h. h; fit = λ s h. h }
