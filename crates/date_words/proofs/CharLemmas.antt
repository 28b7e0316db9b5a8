-- Going over the characters of a text.
use Rattle.std.proofs.Common.{◌≡◌, ℕ, suc, ◌+◌, ◌<◌, ◌≤◌, ◌&&◌, ◌||◌, ◌==◌, not, min, Bool, List, [], ◌∷◌, ◌++◌, length, get_or, drop, is_some, refl, sym, ap, arith, drop-cons, if◌then◌else◌, nat_le}
use Rattle.std.proofs.lemmas.List.{length_push, drop_all}
use Rattle.std.proofs.lemmas.Bool.Decides.{nat_tests}
use Rattle.date_words.specs.Directives.{directive_of, opens, are_known, times_in, piece, written}

-- the character behind those that were gone over
abbrev pub IsNext : List ℕ → List ℕ → ℕ → Type 0
IsNext text before c = (length before < length text) × (c ≡ get_or text (length before) c)

-- what is left from that character on
pub left_from : (text before : List ℕ) (c : ℕ) → IsNext text before c →
    drop (length before) text ≡ c ∷ drop (length (before ++ c ∷ [])) text
left_from text before c h =
    let more : length (before ++ c ∷ []) ≡ suc (length before) = omega (arith, length_push before c) in
    let within : length before < length text = h.0 in
    rw (more, drop-cons text (length before) c) (ap (λ d. d ∷ drop (suc (length before)) text) (sym h.1))

-- and nothing behind the last
pub left_none : (text before : List ℕ) → length text ≤ length before → drop (length before) text ≡ []
left_none text before h = drop_all (length before) text h

module _ (text before : List ℕ) (c : ℕ) (h : IsNext text before c) where
  pub known_more : (after : Bool) → are_known after (drop (length before) text)
      ≡ ((not after || is_some (directive_of c)) && are_known (opens after c) (drop (length (before ++ c ∷ [])) text))
  known_more after = rw (left_from text before c h) refl

  pub times_more : (letter : ℕ) (after : Bool) → times_in letter after (drop (length before) text)
      ≡ (if after && c == letter then 1 else 0) + times_in letter (opens after c) (drop (length (before ++ c ∷ [])) text)
  times_more letter after = rw (left_from text before c h) refl

  pub written_more : (after : Bool) → written after (drop (length before) text)
      ≡ piece after c ++ written (opens after c) (drop (length (before ++ c ∷ [])) text)
  written_more after = rw (left_from text before c h) refl

-- a count that stays at 255 is as good as the count below it
pub capped-le : (n : ℕ) → nat_le (min n 255) 1 ≡ nat_le n 1
capped-le n = grind (arith, nat_tests)

pub capped-eq : (n : ℕ) → (min n 255 == 1) ≡ (n == 1)
capped-eq n = grind (arith, nat_tests)

pub ruleset capped_tests = (capped-le, capped-eq)
