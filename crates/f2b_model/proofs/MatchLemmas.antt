-- What a ban shows is short, and means nothing to a shell.
use Rattle.std.proofs.Common.{◌≡◌, ℕ, ◌≤◌, true, nat_le, List, [], ◌∷◌, ◌++◌, length, map, refl, arith}
use Rattle.std.specs.Prelude.{codes}
use Rattle.std.specs.List.{list_all}
use Rattle.std.specs.Str.{chars}
use Rattle.std.proofs.lemmas.Bool.{and_parts}
use Rattle.f2b_base.specs.declared.ban.Failure.{Failure}
use Rattle.f2b_model.specs.Escapes.{is_safe, safe_character, escaped}
use Rattle.f2b_model.specs.Matches.{matches_bytes, joined, fitting, last_ones, lines_of, matches_of}
use Rattle.f2b_model.proofs.FullLemmas.{le_true}
use Rattle.f2b_model.proofs.ListLemmas.{by_test}

short_fit : (lines : List (List ℕ)) → length (joined (fitting lines)) ≤ matches_bytes
short_fit [] = omega arith
short_fit (line ∷ lines) =
    by_test (nat_le (length (joined (line ∷ lines))) matches_bytes) _
    (λ t. rw t (le_true (length (joined (line ∷ lines))) matches_bytes t))
    (λ t. rw t (short_fit lines))

pub matches_short : (maxmatches : ℕ) (fs : List Failure) → length (matches_of maxmatches fs) ≤ matches_bytes
unfolding matches_of
matches_short maxmatches fs = short_fit (map escaped (last_ones maxmatches (lines_of fs)))

-- ---- safe bytes

becomes_safe : (c : ℕ) → is_safe (safe_character c) ≡ true
becomes_safe c = by_test (is_safe c) _ (λ t. rw t t) (λ t. rw t refl)

all_safe : (cs : List ℕ) → list_all is_safe (map safe_character cs) ≡ true
all_safe [] = refl
all_safe (c ∷ cs) = rw (becomes_safe c) (all_safe cs)

safe_both : (xs ys : List ℕ) → list_all is_safe xs ≡ true → list_all is_safe ys ≡ true → list_all is_safe (xs ++ ys) ≡ true
safe_both [] ys a b = b
safe_both (x ∷ xs) ys a b =
    let parts = and_parts (is_safe x) (list_all is_safe xs) a in
    let one : is_safe x ≡ true = parts.0 in
    rw one (safe_both xs ys parts.1 b)

-- each of these lines is safe
abbrev AreSafe : List (List ℕ) → Type 0
AreSafe [] = Unit {0}
AreSafe (line ∷ lines) = (list_all is_safe line ≡ true) × AreSafe lines

safe_escaped : (lines : List (List ℕ)) → AreSafe (map escaped lines)
safe_escaped [] = tt
safe_escaped (line ∷ lines) = (all_safe (chars line), safe_escaped lines)

safe_fitting : (lines : List (List ℕ)) → AreSafe lines → AreSafe (fitting lines)
safe_fitting [] all = tt
safe_fitting (line ∷ lines) all = by_test (nat_le (length (joined (line ∷ lines))) matches_bytes) _ (λ t. rw t all) (λ t. rw t (safe_fitting lines all.1))

safe_joined : (lines : List (List ℕ)) → AreSafe lines → list_all is_safe (joined lines) ≡ true
safe_joined [] all = refl
safe_joined (line ∷ []) all = all.0
safe_joined (line ∷ next ∷ lines) all = safe_both line (codes " / " ++ joined (next ∷ lines)) all.0 (safe_both (codes " / ") (joined (next ∷ lines)) refl (safe_joined (next ∷ lines) all.1))

pub matches_safe : (maxmatches : ℕ) (fs : List Failure) → list_all is_safe (matches_of maxmatches fs) ≡ true
unfolding matches_of
matches_safe maxmatches fs =
    let lines = map escaped (last_ones maxmatches (lines_of fs)) in
    safe_joined (fitting lines) (safe_fitting lines (safe_escaped (last_ones maxmatches (lines_of fs))))
