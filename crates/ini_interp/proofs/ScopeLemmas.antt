-- Where a name is looked for.
use Rattle.std.proofs.Common.{◌≡◌, ℕ, suc, ◌+◌, Bool, true, false, cond, not, ◌||◌, List, [], ◌∷◌, length, Option, Some, None, refl, sym, ap, ap₂, option_and_then, arith}
use Rattle.std.specs.List.{position_or_len, list_any, before_first, after_first}
use Rattle.ini_interp.specs.Sections.{Sections, raw, value_of}
use Rattle.std.specs.Str.{str_to_ascii_lowercase}
use Rattle.ini_interp.proofs.CaseLemmas.{lowercase-again}
use Rattle.ini_interp.specs.Values.{raw_in, first_of, is_slash, name_of, scope_of, section_called}

-- nothing passes where the first place that passes is the end
pub none_passes : {X : Type 0} (p : X → Bool) (xs : List X) → position_or_len p xs ≡ length xs → list_any p xs ≡ false
none_passes p [] e = refl
none_passes p (x ∷ xs) e = by (p x) e (none_passes p xs)
  where
    by : (b : Bool) → cond (not b) (1 + position_or_len p xs) 0 ≡ suc (length xs) →
        (position_or_len p xs ≡ length xs → list_any p xs ≡ false) → (b || list_any p xs) ≡ false
    by true h rest = absurd (omega (arith, h))
    by false h rest = rest (omega (arith, h))

-- a reference without a slash
pub name_of-plain : (reference : List ℕ) → position_or_len is_slash reference ≡ length reference → reference ≡ name_of reference
name_of-plain reference e = ap (λ (b : Bool). cond b (after_first is_slash reference) reference) (sym (none_passes is_slash reference e))

pub raw_in-plain : (sections : Sections) (scope : List (List ℕ)) (reference : List ℕ) → position_or_len is_slash reference ≡ length reference →
    raw_in sections scope reference ≡ raw_in sections (scope_of scope reference) (name_of reference)
raw_in-plain sections scope reference e =
    ap (λ (b : Bool). raw_in sections (cond b (section_called (before_first is_slash reference) ∷ []) scope) (cond b (after_first is_slash reference) reference))
    (sym (none_passes is_slash reference e))

pub first_of-none : {A : Type 0} (o : Option A) → first_of o None ≡ o
first_of-none None = refl
first_of-none (Some x) = refl

-- a name in lower case is the same name
pub raw-lower : (sections : Sections) (section name : List ℕ) → raw sections section (str_to_ascii_lowercase name) ≡ raw sections section name
unfolding raw
raw-lower sections section name = ap (λ (n : List ℕ). option_and_then (value_of n) (value_of section sections)) (lowercase-again name)

pub raw_in-lower : (sections : Sections) (scope : List (List ℕ)) (name : List ℕ) → raw_in sections scope (str_to_ascii_lowercase name) ≡ raw_in sections scope name
raw_in-lower sections [] name = refl
raw_in-lower sections (section ∷ scope) name = ap₂ first_of (raw-lower sections section name) (raw_in-lower sections scope name)
