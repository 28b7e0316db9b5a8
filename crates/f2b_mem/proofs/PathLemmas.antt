-- Paths below a directory.
use Rattle.std.proofs.Common.{ℕ, ◌≡◌, ◌≢◌, ◌==◌, Bool, true, false, if◌then◌else◌, Option, Some, None, MatchOption, List, [], ◌∷◌, ◌++◌, refl, sym, ◌∙◌, ap, subst, append_assoc, eqb-true, Bor}
use Rattle.std.proofs.lemmas.List.{append_cancel_left}
use Rattle.f2b_world.specs.Trees.{with_slash}

-- a directory's path begins its path with a slash
slash_rest : (dir : List ℕ) → (rest : List ℕ) × (with_slash dir ≡ dir ++ rest)
slash_rest [] = (47 ∷ [], refl)
slash_rest (byte ∷ []) = one (byte == 47)
  where
    one : (b : Bool) → (rest : List ℕ) × ((if b then byte ∷ [] else byte ∷ 47 ∷ []) ≡ byte ∷ rest)
    one true = ([], refl)
    one false = (47 ∷ [], refl)
slash_rest (byte ∷ next ∷ bytes) =
    let behind : (rest : List ℕ) × (with_slash (next ∷ bytes) ≡ (next ∷ bytes) ++ rest) = slash_rest (next ∷ bytes) in
    (behind.0, ap (λ (xs : List ℕ). byte ∷ xs) behind.1)

slash_ends : (front : List ℕ) → with_slash (front ++ 47 ∷ []) ≡ front ++ 47 ∷ []
slash_ends [] = refl
slash_ends (byte ∷ []) = refl
slash_ends (byte ∷ next ∷ front) = ap (λ (xs : List ℕ). byte ∷ xs) (slash_ends (next ∷ front))

slash_one : (byte : ℕ) (b : Bool) → (byte == 47) ≡ b → (byte ≡ 47 → ⊥) → (if b then byte ∷ [] else byte ∷ 47 ∷ []) ≡ byte ∷ 47 ∷ []
slash_one byte true e not = absurd (not (eqb-true byte 47 e))
slash_one byte false e not = refl

slash_added : (dir : List ℕ) → ((front : List ℕ) → dir ≢ front ++ 47 ∷ []) → with_slash dir ≡ dir ++ 47 ∷ []
slash_added [] none = refl
slash_added (byte ∷ []) none = slash_one byte (byte == 47) refl (λ e. none [] (ap (λ (n : ℕ). n ∷ []) e))
slash_added (byte ∷ next ∷ bytes) none = ap (λ (xs : List ℕ). byte ∷ xs) (slash_added (next ∷ bytes) (λ front e. none (byte ∷ front) (ap (λ (xs : List ℕ). byte ∷ xs) e)))

-- a path that does not begin with the directory's is not below it
pub none_below : (dir path : List ℕ) → ((rest : List ℕ) → path ≢ dir ++ rest) → (below : List ℕ) → path ≢ with_slash dir ++ below
none_below dir path none below e =
    let begins = slash_rest dir in
    none (begins.0 ++ below) (e ∙ ap (λ (xs : List ℕ). xs ++ below) begins.1 ∙ append_assoc dir begins.0 below)

-- what follows a directory's path that ends in a slash
pub below_slash : (dir path below front : List ℕ) → dir ≡ front ++ 47 ∷ [] → path ≡ dir ++ below → path ≡ with_slash dir ++ below
below_slash dir path below front ends e = e ∙ ap (λ (xs : List ℕ). xs ++ below) (ends ∙ sym (slash_ends front) ∙ ap with_slash (sym ends))

-- what follows a slash behind a directory's path that ends in none
pub below_added : (dir path behind : List ℕ) (result : Option (Bor (List ℕ))) → ((front : List ℕ) → dir ≢ front ++ 47 ∷ []) → path ≡ dir ++ behind
    → MatchOption result ((rest : List ℕ) → behind ≢ 47 ∷ rest) (λ x. behind ≡ 47 ∷ x.now)
    → MatchOption result ((below : List ℕ) → path ≢ with_slash dir ++ below) (λ x. path ≡ with_slash dir ++ x.now)
below_added dir path behind None none e strips = λ below other.
    strips below (append_cancel_left dir behind (47 ∷ below) (sym e ∙ other ∙ ap (λ (xs : List ℕ). xs ++ below) (slash_added dir none) ∙ append_assoc dir (47 ∷ []) below))
below_added dir path behind (Some x) none e strips =
    e ∙ ap (λ (xs : List ℕ). dir ++ xs) strips ∙ sym (append_assoc dir (47 ∷ []) x.now) ∙ ap (λ (xs : List ℕ). xs ++ x.now) (sym (slash_added dir none))

-- a path has one name below a directory
pub one_below : (dir path below other : List ℕ) → path ≡ with_slash dir ++ below → path ≡ with_slash dir ++ other → below ≡ other
one_below dir path below other e f = append_cancel_left (with_slash dir) below other (sym e ∙ f)

-- where that name is none of some, no other name of the path is
pub no_other_below : (P : List ℕ → Type 0) (dir path below : List ℕ) → path ≡ with_slash dir ++ below → (P below → ⊥) → (other : List ℕ) → P other → path ≢ with_slash dir ++ other
no_other_below P dir path below e not other is f = not (subst P (sym (one_below dir path below other e f)) is)
