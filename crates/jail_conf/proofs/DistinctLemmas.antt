-- Lists in which no two elements are the same.
use Rattle.std.proofs.Common.{◌≡◌, ◌∙◌, Bool, true, false, cond, ◌||◌, List, [], ◌∷◌, ◌++◌, filter, refl, sym}
use Rattle.std.proofs.lemmas.List.Folds.{list_any-append}
use Rattle.std.proofs.lemmas.Map.Keys.{IsDistinct-head, IsDistinct-tail}
use Rattle.std.specs.List.{IsDistinct, AllByRecursion, list_any}
use Rattle.f2b_model.specs.Lists.{AllOf, AreDistinct}

pub neither : (x y : Bool) → (x || y) ≡ false → (x ≡ false) × (y ≡ false)
neither true y is = (is, absurd (cc))
neither false y is = (refl, is)

pub none_of_both : (x y : Bool) → x ≡ false → y ≡ false → (x || y) ≡ false
none_of_both true y first second = first
none_of_both false y first second = second

module _ {A : Type 0} where
  pub all_weaker : (P Q : A → Type 0) → ((x : A) → P x → Q x) → (xs : List A) → AllOf P xs → AllOf Q xs
  all_weaker P Q weaker [] all = tt
  all_weaker P Q weaker (x ∷ xs) all = (weaker x all.0, all_weaker P Q weaker xs all.1)

  pub all_append : (P : A → Type 0) (xs ys : List A) → AllOf P xs → AllOf P ys → AllOf P (xs ++ ys)
  all_append P [] ys first second = second
  all_append P (x ∷ xs) ys first second = (first.0, all_append P xs ys first.1 second)

  -- none passes in either part
  pub none_in_first : (test : A → Bool) (xs ys : List A) → list_any test (xs ++ ys) ≡ false → list_any test xs ≡ false
  none_in_first test xs ys none = (neither (list_any test xs) (list_any test ys) (sym (list_any-append test xs ys) ∙ none)).0

  pub none_in_second : (test : A → Bool) (xs ys : List A) → list_any test (xs ++ ys) ≡ false → list_any test ys ≡ false
  none_in_second test xs ys none = (neither (list_any test xs) (list_any test ys) (sym (list_any-append test xs ys) ∙ none)).1

  pub none_in_both : (test : A → Bool) (xs ys : List A) → list_any test xs ≡ false → list_any test ys ≡ false → list_any test (xs ++ ys) ≡ false
  none_in_both test xs ys first second = list_any-append test xs ys ∙ none_of_both (list_any test xs) (list_any test ys) first second

  pub none_passes_all : (test : A → Bool) (xs : List A) → AllOf (λ x. test x ≡ false) xs → list_any test xs ≡ false
  none_passes_all test [] all = refl
  none_passes_all test (x ∷ xs) all = none_of_both (test x) (list_any test xs) all.0 (none_passes_all test xs all.1)

  -- two lists, where none of the one is one of the other
  pub distinct_append : (same : A → A → Bool) (xs ys : List A) → AreDistinct same xs → AreDistinct same ys →
      AllOf (λ x. list_any (same x) ys ≡ false) xs →
      AreDistinct same (xs ++ ys)
  distinct_append same [] ys first second apart = second
  distinct_append same (x ∷ xs) ys first second apart =
      (none_in_both (same x) xs ys first.0 apart.0, distinct_append same xs ys first.1 second apart.1)

  -- an element fewer
  pub distinct_without : (same : A → A → Bool) (xs : List A) (y : A) (ys : List A) → AreDistinct same (xs ++ y ∷ ys) → AreDistinct same (xs ++ ys)
  distinct_without same [] y ys all = all.1
  distinct_without same (x ∷ xs) y ys all =
      let rest : list_any (same x) ys ≡ false = none_in_second (same x) (y ∷ []) ys (none_in_second (same x) xs (y ∷ ys) all.0) in
      (none_in_both (same x) xs ys (none_in_first (same x) xs (y ∷ ys) all.0) rest, distinct_without same xs y ys all.1)

  none_in_filter : (test keep : A → Bool) (xs : List A) → list_any test xs ≡ false → list_any test (filter keep xs) ≡ false
  none_in_filter test keep [] none = refl
  none_in_filter test keep (x ∷ xs) none = by (keep x) (none_in_filter test keep xs parts.1)
    where
      parts : (test x ≡ false) × (list_any test xs ≡ false)
      parts = neither (test x) (list_any test xs) none

      by : (b : Bool) → list_any test (filter keep xs) ≡ false → list_any test (cond b (x ∷ filter keep xs) (filter keep xs)) ≡ false
      by true rest = none_of_both (test x) (list_any test (filter keep xs)) parts.0 rest
      by false rest = rest

  -- those that pass
  pub distinct_filter : (same : A → A → Bool) (keep : A → Bool) (xs : List A) → AreDistinct same xs → AreDistinct same (filter keep xs)
  distinct_filter same keep [] all = tt
  distinct_filter same keep (x ∷ xs) all = by (keep x) (distinct_filter same keep xs all.1)
    where
      by : (b : Bool) → AreDistinct same (filter keep xs) → AreDistinct same (cond b (x ∷ filter keep xs) (filter keep xs))
      by true rest = (none_in_filter (same x) keep xs all.0, rest)
      by false rest = rest

  none_of_each : (test : A → Bool) (xs : List A) → AllByRecursion (λ x. test x ≡ false) xs → list_any test xs ≡ false
  none_of_each test [] each = refl
  none_of_each test (x ∷ xs) each = none_of_both (test x) (list_any test xs) each.0 (none_of_each test xs each.1)

  -- in std's words
  pub distinct_from : (same : A → A → Bool) (xs : List A) → IsDistinct same xs → AreDistinct same xs
  distinct_from same [] all = tt
  distinct_from same (x ∷ xs) all = (none_of_each (same x) xs (IsDistinct-head same x xs all), distinct_from same xs (IsDistinct-tail same x xs all))
