-- The place of a child in the list.
use Rattle.std.proofs.Common.{ℕ, suc, ◌≡◌, ◌+◌, ◌<◌, ◌≤◌, Bool, nat_lt, List, [], ◌∷◌, ◌++◌, length, take, get_or, refl, sym, ap, ◌∙◌, Some, None, arith}
use Rattle.std.proofs.lemmas.Bool.{ltb-false}
use Rattle.std.proofs.lemmas.List.{take_more, map-append}
use Rattle.std.specs.List.{insert, list_any, position, position_or_len}
use Rattle.std.specs.Prelude.{◌==◌}
use Rattle.f2b_model.proofs.ListLemmas.{by_test}
use Rattle.f2b_model.specs.Lists.{placed}
use Rattle.child_table.specs.declared.child.Child.{Child}
use Rattle.child_table.specs.Children.{comes_before, has, jobs_of}
use Rattle.child_table.specs.Places.{place_for}

insert-cons : {A : Type 0} (x y : A) (ys : List A) (k n : ℕ) → n ≡ suc k → insert (y ∷ ys) n x ≡ y ∷ insert ys k x
insert-cons x y ys k n is = rw is refl

-- what is put before the first that comes after it is placed
insert_first : {A : Type 0} (less : A → A → Bool) (x : A) (xs : List A) → insert xs (position_or_len (less x) xs) x ≡ placed less x xs
insert_first less x [] = refl
insert_first less x (y ∷ ys) =
    by_test (less x y) _
    (λ before. rw before refl)
    (λ behind. rw behind (insert-cons x y ys (position_or_len (less x) ys) _ (omega arith) ∙ ap (λ zs. y ∷ zs) (insert_first less x ys)))

-- the place that was found, or the end, is one of the list or its end
pub place_within : {A : Type 0} (p : A → Bool) (xs : List A) → position_or_len p xs ≤ length xs
place_within p [] = omega arith
place_within p (x ∷ xs) = by_test (p x) _ (λ here. rw here (omega arith)) (λ later. rw later (omega (arith, place_within p xs)))

-- where none was found it is the end
pub place_none : {A : Type 0} (p : A → Bool) (xs : List A) → position p xs ≡ None → length xs ≡ position_or_len p xs
place_none p xs none =
    by_test (nat_lt (position_or_len p xs) (length xs)) _
    (λ found. absurd (let some : Some (position_or_len p xs) ≡ None = rw found at none in cc))
    (λ end. omega (arith, ltb-false _ _ end, place_within p xs))

-- a child that is put at its place stands by the number of its job
pub placed_there : (cs : List Child) (place : ℕ) (c : Child) → place ≡ place_for c.job cs → insert cs place c ≡ placed comes_before c cs
placed_there cs place c is = rw is (insert_first comes_before c cs)

list_any-jobs_of : (job : ℕ) (cs : List Child) → list_any (λ (c : Child). c.job == job) cs ≡ has job (jobs_of cs)
list_any-jobs_of job [] = refl
list_any-jobs_of job (c ∷ cs) = by_test (c.job == job) _ (λ same. rw same refl) (λ other. rw other (list_any-jobs_of job cs))

-- a child for a job is one whose job has that number
pub has_job : (job : ℕ) (cs : List Child) (b : Bool) → b ≡ list_any (λ (c : Child). c.job == job) cs → b ≡ has job (jobs_of cs)
has_job job cs b is = is ∙ list_any-jobs_of job cs

-- one number more
pub jobs_more : (cs : List Child) (i : ℕ) (c : Child) → i < length cs → c ≡ get_or cs i c → jobs_of (take (i + 1) cs) ≡ jobs_of (take i cs) ++ c.job ∷ []
jobs_more cs i c within is =
    ap jobs_of (take_more cs i c within ∙ ap (λ other. take i cs ++ other ∷ []) (sym is)) ∙ map-append (λ (other : Child). other.job) (take i cs) (c ∷ [])
