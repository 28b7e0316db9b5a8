-- Lists of numbers of jobs: which are there, and tries of one job behind one another.
use Rattle.std.proofs.Common.{ℕ, ◌≡◌, inl, inr, Bool, true, false, ◌||◌, List, [], ◌∷◌, ◌++◌, filter, refl, ap, ◌∙◌, subst}
use Rattle.std.specs.Prelude.{◌==◌}
use Rattle.std.proofs.lemmas.Bool.{cases_Bool, eq-eqb, ne_eqb, or_parts, both_ways, or_right, or_left}
use Rattle.std.proofs.lemmas.List.Folds.{list_any-append}
use Rattle.child_table.specs.Children.{has}
use Rattle.run_jobs.specs.Tried.{is_next, each_once}

-- ---- which are there

pub has_here : (x : ℕ) (xs : List ℕ) → has x (x ∷ xs) ≡ true
has_here x xs = or_left (x == x) (has x xs) (eq-eqb x x refl)

pub has_last : (x : ℕ) (xs : List ℕ) → has x (xs ++ x ∷ []) ≡ true
has_last x [] = has_here x []
has_last x (y ∷ ys) = or_right (y == x) (has x (ys ++ x ∷ [])) (has_last x ys)

pub has_append : (x : ℕ) (xs ys : List ℕ) → has x (xs ++ ys) ≡ (has x xs || has x ys)
has_append x xs ys = list_any-append (λ other. other == x) xs ys

pub or_none : (b : Bool) → (b || false) ≡ b
or_none true = refl
or_none false = refl

pub or_apart : (x q : ℕ) (b : Bool) → (q ≡ x → ⊥) → (b || ((q == x) || false)) ≡ b
or_apart x q b apart = rw (ne_eqb q x apart) (or_none b)

-- one more, which is another one
pub has_more : (x q : ℕ) (xs : List ℕ) → (q ≡ x → ⊥) → has x (xs ++ q ∷ []) ≡ has x xs
has_more x q xs apart = has_append x xs (q ∷ []) ∙ or_apart x q (has x xs) apart

-- what is there and what is not are two
pub apart_of : (x y : ℕ) (xs : List ℕ) → has x xs ≡ true → has y xs ≡ false → x ≡ y → ⊥
apart_of x y xs is none same = both_ways (has y xs) none (subst (λ (z : ℕ). has z xs ≡ true) same is)

pub has_part : (x : ℕ) (p : ℕ → Bool) (xs : List ℕ) → has x xs ≡ false → has x (filter p xs) ≡ false
has_part x p [] absent = refl
has_part x p (y ∷ ys) absent =
    let parts = or_parts (y == x) (has x ys) absent in
    elim (cases_Bool (p y)) [
      | inl h ↦ rw (h, parts.0) (has_part x p ys parts.1)
      | inr h ↦ rw h (has_part x p ys parts.1)
    ]

-- ---- tries

next_same : (a q : ℕ) (xs ys : List ℕ) → is_next a ((xs ++ q ∷ []) ++ ys) ≡ is_next a (xs ++ q ∷ [])
next_same a q [] ys = refl
next_same a q (x ∷ xs) ys = refl

-- a further try of the last job is none more
pub again : (xs : List ℕ) (q : ℕ) → each_once ((xs ++ q ∷ []) ++ q ∷ []) ≡ each_once (xs ++ q ∷ [])
again [] q = rw (eq-eqb q q refl) refl
again (a ∷ more) q = rw (next_same a q more (q ∷ []), again more q) refl

-- the first try of a job is one more
pub first_try : (xs : List ℕ) (q : ℕ) → has q xs ≡ false → each_once (xs ++ q ∷ []) ≡ each_once xs ++ q ∷ []
first_try [] q absent = refl
first_try (a ∷ []) q absent = let apart : (a == q) ≡ false = (or_parts (a == q) false absent).0 in rw apart refl
first_try (a ∷ b ∷ bs) q absent =
    let rest = first_try (b ∷ bs) q (or_parts (a == q) (has q (b ∷ bs)) absent).1 in
    elim (cases_Bool (a == b)) [
      | inl h ↦ rw h rest
      | inr h ↦ rw h (ap (λ xs. a ∷ xs) rest)
    ]

pub once_part : (x : ℕ) (xs : List ℕ) → has x xs ≡ false → has x (each_once xs) ≡ false
once_part x [] absent = refl
once_part x (y ∷ ys) absent =
    let parts = or_parts (y == x) (has x ys) absent in
    elim (cases_Bool (is_next y ys)) [
      | inl h ↦ rw h (once_part x ys parts.1)
      | inr h ↦ rw (h, parts.0) (once_part x ys parts.1)
    ]
