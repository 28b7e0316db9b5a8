-- What `escape` leaves.
use Rattle.std.proofs.Common.{◌≡◌, ℕ, ◌<◌, inl, inr, true, List, [], ◌∷◌, map, refl, ap, ◌∙◌, arith}
use Rattle.std.specs.List.{list_all}
use Rattle.std.specs.Str.{IsAscii}
use Rattle.std.proofs.Math.Utf8.{encodes}
use Rattle.std.proofs.lemmas.Bool.{cases_Bool, and_parts}
use Rattle.std.proofs.lemmas.Bool.Decides.{nat_tests}
use Rattle.std.proofs.lemmas.Str.{chars-IsAscii, encodes-IsAscii}
use Rattle.std.proofs.lemmas.Str.Ascii.{IsAscii-nil, IsAscii-cons}
use Rattle.f2b_model.specs.Escapes.{is_safe, safe_character, escaped}

-- a safe character is ASCII
small : (c : ℕ) → is_safe c ≡ true → c < 128
small c safe = grind (arith, nat_tests)

-- what stands for a character is safe
becomes_safe : (c : ℕ) → is_safe (safe_character c) ≡ true
becomes_safe c = elim (cases_Bool (is_safe c)) [
  | inl y ↦ rw y y
  | inr n ↦ rw n refl
]

safe_ascii : (cs : List ℕ) → list_all is_safe cs ≡ true → IsAscii cs
safe_ascii [] safe = IsAscii-nil
safe_ascii (c ∷ cs) safe =
    let here = and_parts (is_safe c) (list_all is_safe cs) safe in
    IsAscii-cons c cs (small c here.0) (safe_ascii cs here.1)

pub all_safe : (cs : List ℕ) → list_all is_safe (map safe_character cs) ≡ true
all_safe [] = refl
all_safe (c ∷ cs) = rw (becomes_safe c) (all_safe cs)

-- so each is one byte
pub encodes-safe : (cs : List ℕ) → encodes (map safe_character cs) ≡ map safe_character cs
encodes-safe cs = encodes-IsAscii (map safe_character cs) (safe_ascii (map safe_character cs) (all_safe cs))

map_same : (cs : List ℕ) → list_all is_safe cs ≡ true → map safe_character cs ≡ cs
map_same [] safe = refl
map_same (c ∷ cs) safe =
    let here = and_parts (is_safe c) (list_all is_safe cs) safe in
    let head : is_safe c ≡ true = here.0 in
    rw head (ap (λ (t : List ℕ). c ∷ t) (map_same cs here.1))

-- a safe text stays
pub escaped-safe : (text : List ℕ) → list_all is_safe text ≡ true → escaped text ≡ text
escaped-safe text safe = ap (map safe_character) (chars-IsAscii text (safe_ascii text safe)) ∙ map_same text safe
