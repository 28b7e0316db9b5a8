-- Patterns and names, character by character.
use Rattle.std.proofs.Common.{ℕ, zero, suc, ◌≡◌, ◌==◌, ◌<◌, ◌≤◌, Bool, true, false, ◌||◌, List, [], ◌∷◌, length, drop, refl, sym, ap, subst, ◌∙◌, arith, eq-eqb, add-one, inl, inr}
use Rattle.std.proofs.lemmas.Bool.{or_cases, or_right, and_parts, and_left, ne_eqb}
use Rattle.std.proofs.lemmas.List.{drop-drop}
use Rattle.log_follow.specs.Globs.{globs, any_end, one_and}
use Rattle.log_follow.specs.Walked.{IsStar, ComesToStar}
use Rattle.std.specs.Str.{IsUtf8, chars}

-- Ends of a list.

pub any_end-whole : (passes : List ℕ → Bool) (xs : List ℕ) → passes xs ≡ true → any_end passes xs ≡ true
any_end-whole passes [] is = is
any_end-whole passes (x ∷ xs) is = rw is refl

any_end-more : (passes : List ℕ → Bool) (x : ℕ) (xs : List ℕ) → any_end passes xs ≡ true → any_end passes (x ∷ xs) ≡ true
any_end-more passes x xs is = or_right (passes (x ∷ xs)) (any_end passes xs) is

-- an end of an end is an end
pub any_end-drop : (passes : List ℕ → Bool) (k : ℕ) (xs : List ℕ) → any_end passes (drop k xs) ≡ true → any_end passes xs ≡ true
any_end-drop passes zero xs is = is
any_end-drop passes (suc k) [] is = is
any_end-drop passes (suc k) (x ∷ xs) is = any_end-more passes x xs (any_end-drop passes k xs is)

-- the end that passes
pub any_end-found : (passes : List ℕ → Bool) (xs : List ℕ) → any_end passes xs ≡ true → (k : ℕ) × (passes (drop k xs) ≡ true)
any_end-found passes [] is = (0, is)
any_end-found passes (x ∷ xs) is =
    elim (or_cases (passes (x ∷ xs)) (any_end passes xs) is) [
      | inl whole ↦ (0, whole)
      | inr more ↦ let found = any_end-found passes xs more in (suc found.0, found.1)
    ]

-- A walk along a pattern and a name.

-- The pattern stands for the name, or for an end of it, only where what follows does for what is left, or for the like end of that.
pub record IsAlong (pattern name behind left : List ℕ) : Type 0 where
  pub now : globs pattern name ≡ globs behind left
  pub later : (k : ℕ) → globs pattern (drop k name) ≡ true → globs behind (drop k left) ≡ true

pub along_start : (pattern name : List ℕ) → IsAlong pattern name pattern name
along_start pattern name = record { now = refl; later = λ k is. is }

globs-one : (c : ℕ) (pattern name : List ℕ) → (c == 42) ≡ false → globs (c ∷ pattern) name ≡ one_and c (globs pattern) name
globs-one c pattern name other = rw other refl

globs-star : (c : ℕ) (pattern name : List ℕ) → (c == 42) ≡ true → globs (c ∷ pattern) name ≡ any_end (globs pattern) name
globs-star c pattern name star = rw star refl

one_and-later : (c : ℕ) (passes : List ℕ → Bool) (name : List ℕ) → one_and c passes name ≡ true → passes (drop 1 name) ≡ true
one_and-later c passes [] is = absurd (cc)
one_and-later c passes (x ∷ name) is = (and_parts (c == 63 || c == x) (passes name) is).1

drop-suc : (k : ℕ) (xs : List ℕ) → drop 1 (drop k xs) ≡ drop (suc k) xs
drop-suc k xs = drop-drop 1 k xs ∙ ap (λ (n : ℕ). drop n xs) (add-one k)

later_step : (c x k : ℕ) (behind left : List ℕ) → one_and c (globs behind) (drop k (x ∷ left)) ≡ true → globs behind (drop k left) ≡ true
later_step c x zero behind left is = (and_parts (c == 63 || c == x) (globs behind left) is).1
later_step c x (suc k) behind left is = ap (globs behind) (sym (drop-suc k left)) ∙ one_and-later c (globs behind) (drop k left) is

-- one character that fits
pub along_step : (pattern name behind left : List ℕ) (c x : ℕ) → (c == 42) ≡ false → (c == 63 || c == x) ≡ true → IsAlong pattern name (c ∷ behind) (x ∷ left) → IsAlong pattern name behind left
along_step pattern name behind left c x other fits along = record {
  now = along.now ∙ globs-one c behind (x ∷ left) other ∙ rw fits refl;
  later = λ k is. later_step c x k behind left (sym (globs-one c behind (drop k (x ∷ left)) other) ∙ along.later k is);
}

-- one that does not, or none
pub along_differs : (pattern name behind left : List ℕ) (c x : ℕ) → (c == 42) ≡ false → (c == 63 || c == x) ≡ false → IsAlong pattern name (c ∷ behind) (x ∷ left) → globs pattern name ≡ false
along_differs pattern name behind left c x other not along = along.now ∙ globs-one c behind (x ∷ left) other ∙ and_left (c == 63 || c == x) (globs behind left) not

pub along_short : (pattern name behind : List ℕ) (c : ℕ) → (c == 42) ≡ false → IsAlong pattern name (c ∷ behind) [] → globs pattern name ≡ false
along_short pattern name behind c other along = along.now ∙ globs-one c behind [] other

-- at a star
pub along_star : (pattern name behind left : List ℕ) (c : ℕ) → (c == 42) ≡ true → IsAlong pattern name (c ∷ behind) left → IsStar pattern name behind left
along_star pattern name behind left c star along = record {
  now = along.now ∙ globs-star c behind left star;
  later = λ k is. any_end-drop (globs behind) k left (sym (globs-star c behind (drop k left) star) ∙ along.later k is);
}

-- Which ends of the name a pattern stands for.

same_tests : (a b : Bool) → (a ≡ true → b ≡ true) → (b ≡ true → a ≡ true) → a ≡ b
same_tests true b to from = sym (to refl)
same_tests false true to from = from refl
same_tests false false to from = refl

-- behind the next star it is the same question
pub ends_at_star : (pattern name behind left : List ℕ) → IsStar pattern name behind left → any_end (globs pattern) name ≡ any_end (globs behind) left
ends_at_star pattern name behind left star =
    same_tests (any_end (globs pattern) name) (any_end (globs behind) left)
    (λ some. let found = any_end-found (globs pattern) name some in star.later found.0 found.1)
    (λ some. any_end-whole (globs pattern) name (star.now ∙ some))

-- one character of the name is passed over
pub ends_after : (pattern left : List ℕ) (x : ℕ) → globs pattern (x ∷ left) ≡ false → any_end (globs pattern) (x ∷ left) ≡ any_end (globs pattern) left
ends_after pattern left x not = rw not refl

-- The same of texts, the first characters of which were cut off.

module _ (pattern name p n behind : List ℕ) (wanted : ℕ) (along : IsAlong (chars pattern) (chars name) (chars p) (chars n)) (first : chars p ≡ wanted ∷ chars behind) where
  begins : IsAlong (chars pattern) (chars name) (wanted ∷ chars behind) (chars n)
  begins = let P : List ℕ → Type 0 = λ cs. IsAlong (chars pattern) (chars name) cs (chars n) in subst P first along

  pub comes_to_star : wanted ≡ 42 → length behind < length p → length p ≤ length pattern → length n ≤ length name → IsUtf8 behind → IsUtf8 n → ComesToStar pattern name behind n
  comes_to_star is shorter within name_within behind_text left_text = record {
    star = along_star (chars pattern) (chars name) (chars behind) (chars n) wanted (eq-eqb wanted 42 is) begins;
    shorter = omega arith;
    behind_text = behind_text;
    left_text = left_text;
  }

  pub steps_on : (left : List ℕ) (found : ℕ) → (wanted ≡ 42 → ⊥) → chars n ≡ found ∷ chars left → (wanted == 63 || wanted == found) ≡ true
      → IsAlong (chars pattern) (chars name) (chars behind) (chars left)
  steps_on left found other second fits =
      let P : List ℕ → Type 0 = λ cs. IsAlong (chars pattern) (chars name) (wanted ∷ chars behind) cs in
      along_step (chars pattern) (chars name) (chars behind) (chars left) wanted found (ne_eqb wanted 42 other) fits (subst P second begins)

  pub differs : (left : List ℕ) (found : ℕ) → (wanted ≡ 42 → ⊥) → chars n ≡ found ∷ chars left → (wanted == 63 || wanted == found) ≡ false → globs (chars pattern) (chars name) ≡ false
  differs left found other second not =
      let P : List ℕ → Type 0 = λ cs. IsAlong (chars pattern) (chars name) (wanted ∷ chars behind) cs in
      along_differs (chars pattern) (chars name) (chars behind) (chars left) wanted found (ne_eqb wanted 42 other) not (subst P second begins)

  pub falls_short : (wanted ≡ 42 → ⊥) → chars n ≡ [] → globs (chars pattern) (chars name) ≡ false
  falls_short other none =
      let P : List ℕ → Type 0 = λ cs. IsAlong (chars pattern) (chars name) (wanted ∷ chars behind) cs in
      along_short (chars pattern) (chars name) (chars behind) wanted (ne_eqb wanted 42 other) (subst P none begins)

module _ (pattern name p n : List ℕ) (along : IsAlong (chars pattern) (chars name) (chars p) (chars n)) (none : chars p ≡ []) where
  pub both_end : chars n ≡ [] → globs (chars pattern) (chars name) ≡ true
  both_end end = along.now ∙ ap (λ (cs : List ℕ). globs cs (chars n)) none ∙ ap (globs []) end

  pub name_goes_on : (left : List ℕ) (found : ℕ) → chars n ≡ found ∷ chars left → globs (chars pattern) (chars name) ≡ false
  name_goes_on left found more = along.now ∙ ap (λ (cs : List ℕ). globs cs (chars n)) none ∙ ap (globs []) more
