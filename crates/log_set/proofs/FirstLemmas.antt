-- The first element of a list that passes a test: where it is, and the list where it is changed.
use Rattle.std.proofs.Common.{ℕ, zero, suc, ◌≡◌, ◌+◌, ◌<◌, inl, inr, Bool, true, false, cond, Option, Some, None, List, [], ◌∷◌, length, get_or, map, refl, sym, ap, ◌∙◌, arith}
use Rattle.std.specs.Prelude.{position, find, slice_set, option_map}
use Rattle.std.specs.List.{position_from}
use Rattle.std.proofs.lemmas.Bool.{cases_Bool}
use Rattle.std.proofs.lemmas.List.Quantifiers.{position-Some}
use Rattle.std.proofs.lemmas.Iterator.Adapters.{position_from-zero}
use Rattle.log_set.specs.Firsts.{at_first}

changed_here : {A : Type 0} (p : A → Bool) (change : A → A) (xs : List A) (i : ℕ) (x : A) → i < length xs → p (get_or xs i x) ≡ true
    → ((k : ℕ) → k < i → p (get_or xs k x) ≡ false) → slice_set xs i (change (get_or xs i x)) ≡ at_first p change xs
changed_here p change [] i x less passes before = absurd (omega arith)
changed_here p change (y ∷ ys) zero x less passes before = rw passes refl
changed_here p change (y ∷ ys) (suc i) x less passes before =
    let fails : p y ≡ false = before 0 (omega arith) in
    rw fails (ap (λ zs. y ∷ zs) (changed_here p change ys i x (omega arith) passes (λ k more. before (suc k) (omega arith))))

found_here : {A : Type 0} (p : A → Bool) (xs : List A) (i : ℕ) (x : A) → i < length xs → p (get_or xs i x) ≡ true
    → ((k : ℕ) → k < i → p (get_or xs k x) ≡ false) → find p xs ≡ Some (get_or xs i x)
found_here p [] i x less passes before = absurd (omega arith)
found_here p (y ∷ ys) zero x less passes before = rw passes refl
found_here p (y ∷ ys) (suc i) x less passes before =
    let fails : p y ≡ false = before 0 (omega arith) in
    rw fails (found_here p ys i x (omega arith) passes (λ k more. before (suc k) (omega arith)))

-- the element at the first place that passes is changed
pub changed_at : {A : Type 0} (p : A → Bool) (change : A → A) (xs : List A) (i : ℕ) (x y : A) → position p xs ≡ Some i → x ≡ get_or xs i x → y ≡ change x
    → slice_set xs i y ≡ at_first p change xs
changed_at p change xs i x y is x_is y_is =
    let at = position-Some p xs i x is in
    ap (slice_set xs i) (y_is ∙ ap change x_is) ∙ changed_here p change xs i x at.0 at.1 at.2

pub found_at : {A : Type 0} (p : A → Bool) (xs : List A) (i : ℕ) (x : A) → position p xs ≡ Some i → x ≡ get_or xs i x → find p xs ≡ Some x
found_at p xs i x is x_is =
    let at = position-Some p xs i x is in
    found_here p xs i x at.0 at.1 at.2 ∙ ap Some (sym x_is)

unchanged_from : {A : Type 0} (p : A → Bool) (change : A → A) (i : ℕ) (xs : List A) → position_from p i xs ≡ None → xs ≡ at_first p change xs
unchanged_from p change i [] none = refl
unchanged_from p change i (x ∷ xs) none = elim (cases_Bool (p x)) [
  | inl passes ↦ let e : Some i ≡ None = rw passes at none in cc
  | inr fails ↦ rw fails (ap (λ ys. x ∷ ys) (unchanged_from p change (i + 1) xs (rw fails at none)))
]

-- and where none passes, nothing is changed
pub unchanged : {A : Type 0} (p : A → Bool) (change : A → A) (xs : List A) → position p xs ≡ None → xs ≡ at_first p change xs
unchanged p change xs none = unchanged_from p change 0 xs (sym (position_from-zero p xs) ∙ none)

none_from : {A : Type 0} (p : A → Bool) (i : ℕ) (xs : List A) → position_from p i xs ≡ None → find p xs ≡ None
none_from p i [] none = refl
none_from p i (x ∷ xs) none = elim (cases_Bool (p x)) [
  | inl passes ↦ let e : Some i ≡ None = rw passes at none in cc
  | inr fails ↦ rw fails (none_from p (i + 1) xs (rw fails at none))
]

pub none_found : {A : Type 0} (p : A → Bool) (xs : List A) → position p xs ≡ None → find p xs ≡ None
none_found p xs none = none_from p 0 xs (sym (position_from-zero p xs) ∙ none)
