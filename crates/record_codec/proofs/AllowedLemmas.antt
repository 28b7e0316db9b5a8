-- Items that are allowed one after the other, as facts on the whole list.
use Rattle.std.proofs.Common.{◌≡◌, ℕ, zero, suc, ◌+◌, ◌≤◌, Bool, true, false, not, ◌||◌, ◌&&◌, nat_le, List, [], ◌∷◌, ◌++◌, map, sum, refl, sym, ap, subst, ◌∙◌, arith, true≢false}
use Rattle.std.proofs.lemmas.Bool.{leb-true, le-leb}
use Rattle.std.proofs.lemmas.Grind.{common_steps}
use Rattle.std.proofs.lemmas.List.Sums.{sum_by-cons}
use Rattle.std.specs.List.{list_any}
use Rattle.f2b_model.specs.Lists.{AllOf, AreDistinct}
use Rattle.record_fields.specs.Codec.{Codec}
use Rattle.record_fields.specs.Lists.{AreAllowed, Each, any, is_new}
use Rattle.record_fields.proofs.NumberLemmas.{both_of}

-- a codec's values are just those of a word
pub record FitsAre {A : Type 0} (c : Codec A) (Word : A → Type 0) : Type 0 where
  pub are : (x : A) → c.Fits x → Word x
  pub fit : (x : A) → Word x → c.Fits x

-- each item has what follows from what each has
pub all_each : {A : Type 0} (P Q : A → Type 0) → ((x : A) → P x → Q x) → (xs : List A) → Each P xs → AllOf Q xs
all_each P Q given [] h = tt
all_each P Q given (x ∷ xs) h = (given x h.0, all_each P Q given xs h.1)

pub each_all : {A : Type 0} (P Q : A → Type 0) → ((x : A) → P x → Q x) → (xs : List A) → AllOf P xs → Each Q xs
each_all P Q given [] h = tt
each_all P Q given (x ∷ xs) h = (given x h.0, each_all P Q given xs h.1)

-- any item is allowed
pub any_allowed : {A : Type 0} (before xs : List A) → AreAllowed any before xs
any_allowed before [] = tt
any_allowed before (x ∷ xs) = (refl, any_allowed (before ++ x ∷ []) xs)

-- what two tests allow
pub both_allow : {A : Type 0} (p q : List A → A → Bool) (before xs : List A) → AreAllowed (λ b x. p b x && q b x) before xs → AreAllowed p before xs × AreAllowed q before xs
both_allow p q before [] h = (tt, tt)
both_allow p q before (x ∷ xs) h =
    let t = both_of (p before x) (q before x) h.0 in
    let others = both_allow p q (before ++ x ∷ []) xs h.1 in
    ((t.0, others.0), (t.1, others.1))

pub allow_both : {A : Type 0} (p q : List A → A → Bool) (before xs : List A) → AreAllowed p before xs → AreAllowed q before xs → AreAllowed (λ b x. p b x && q b x) before xs
allow_both p q before [] g h = tt
allow_both p q before (x ∷ xs) g h = (rw (g.0, h.0) refl, allow_both p q (before ++ x ∷ []) xs g.1 h.1)

-- ---- distinct items

all_of-append : {A : Type 0} (P : A → Type 0) (xs : List A) (x : A) → AllOf P (xs ++ x ∷ []) → AllOf P xs × P x
all_of-append P [] x h = (tt, h.0)
all_of-append P (y ∷ ys) x h = let others = all_of-append P ys x h.1 in ((h.0, others.0), others.1)

all_of-push : {A : Type 0} (P : A → Type 0) (xs : List A) (x : A) → AllOf P xs → P x → AllOf P (xs ++ x ∷ [])
all_of-push P [] x h one = (one, tt)
all_of-push P (y ∷ ys) x h one = (h.0, all_of-push P ys x h.1 one)

neither : (a b : Bool) → (a || b) ≡ false → (a ≡ false) × (b ≡ false)
neither true b e = absurd (true≢false e)
neither false b e = (refl, e)

no_either : (a b : Bool) → a ≡ false → b ≡ false → (a || b) ≡ false
no_either a b one two = rw (one, two) refl

not_true : (b : Bool) → not b ≡ true → b ≡ false
not_true true e = absurd (true≢false (sym e))
not_true false e = refl

module _ {A : Type 0} (same : A → A → Bool) where
  -- none of the items is the same as one of those before
  abbrev AreClear : List A → List A → Type 0
  AreClear before xs = AllOf (λ y. list_any (same y) xs ≡ false) before

  clear_nil : (before : List A) → AreClear before []
  clear_nil [] = tt
  clear_nil (y ∷ ys) = (refl, clear_nil ys)

  clear_more : (x : A) (xs before : List A) → list_any (λ y. same y x) before ≡ false → AreClear before xs → AreClear before (x ∷ xs)
  clear_more x xs [] none clear = tt
  clear_more x xs (y ∷ ys) none clear =
      let parts = neither (same y x) (list_any (λ z. same z x) ys) none in
      (no_either (same y x) (list_any (same y) xs) parts.0 clear.0, clear_more x xs ys parts.1 clear.1)

  clear_first : (x : A) (xs before : List A) → AreClear before (x ∷ xs) → (list_any (λ y. same y x) before ≡ false) × AreClear before xs
  clear_first x xs [] clear = (refl, tt)
  clear_first x xs (y ∷ ys) clear =
      let parts = neither (same y x) (list_any (same y) xs) clear.0 in
      let others = clear_first x xs ys clear.1 in
      (no_either (same y x) (list_any (λ z. same z x) ys) parts.0 others.0, (parts.1, others.1))

  distinct_behind : (before xs : List A) → AreAllowed (is_new same) before xs → AreClear before xs × AreDistinct same xs
  distinct_behind before [] h = (clear_nil before, tt)
  distinct_behind before (x ∷ xs) h =
      let others = distinct_behind (before ++ x ∷ []) xs h.1 in
      let parts = all_of-append (λ y. list_any (same y) xs ≡ false) before x others.0 in
      (clear_more x xs before (not_true _ h.0) parts.0, (parts.1, others.1))

  new_behind : (before xs : List A) → AreClear before xs → AreDistinct same xs → AreAllowed (is_new same) before xs
  new_behind before [] clear h = tt
  new_behind before (x ∷ xs) clear h =
      let parts = clear_first x xs before clear in
      (rw parts.0 refl, new_behind (before ++ x ∷ []) xs (all_of-push (λ y. list_any (same y) xs ≡ false) before x parts.1 h.0) h.1)

  -- items are new one after the other exactly where they are distinct
  pub distinct_of_new : (xs : List A) → AreAllowed (is_new same) [] xs → AreDistinct same xs
  distinct_of_new xs h = (distinct_behind [] xs h).1

  pub new_of_distinct : (xs : List A) → AreDistinct same xs → AreAllowed (is_new same) [] xs
  new_of_distinct xs h = new_behind [] xs tt h

-- items are distinct by what is seen of them
module _ {A B : Type 0} (same : B → B → Bool) (see : A → B) where
  any_seen : (y : B) (xs : List A) → list_any (same y) (map see xs) ≡ list_any (λ (x : A). same y (see x)) xs
  any_seen y [] = refl
  any_seen y (x ∷ xs) = ap (λ (b : Bool). same y (see x) || b) (any_seen y xs)

  pub distinct-map : (xs : List A) → AreDistinct (λ (x y : A). same (see x) (see y)) xs → AreDistinct same (map see xs)
  distinct-map [] h = tt
  distinct-map (x ∷ xs) h = (any_seen (see x) xs ∙ h.0, distinct-map xs h.1)

  pub distinct_by : (xs : List A) → AreDistinct same (map see xs) → AreDistinct (λ (x y : A). same (see x) (see y)) xs
  distinct_by [] h = tt
  distinct_by (x ∷ xs) h = (sym (any_seen (see x) xs) ∙ h.0, distinct_by xs h.1)

-- ---- few enough in all

module _ {A : Type 0} (many : A → ℕ) (most : ℕ) where
  -- whether there is room for what one item has
  abbrev pub fits_in : List A → A → Bool
  fits_in before x = nat_le (sum (map many before) + many x) most

  sum_cons : (x : A) (xs : List A) → sum (map many (x ∷ xs)) ≡ many x + sum (map many xs)
  sum_cons x xs = sum_by-cons (λ (n : ℕ). n) (many x) (map many xs)

  sum_push : (before : List A) (x : A) → sum (map many (before ++ x ∷ [])) ≡ sum (map many before) + many x
  sum_push [] x = omega (arith, sum_cons x [])
  sum_push (y ∷ ys) x = omega (arith, sum_push ys x, sum_cons y ys, sum_cons y (ys ++ x ∷ []))

  few_behind : (before xs : List A) → sum (map many before) ≤ most → AreAllowed fits_in before xs → sum (map many before) + sum (map many xs) ≤ most
  few_behind before [] le h = omega (arith, le)
  few_behind before (x ∷ xs) le h =
      let here : sum (map many before) + many x ≤ most = leb-true _ _ h.0 in
      let all = few_behind (before ++ x ∷ []) xs (omega (arith, sum_push before x, here)) h.1 in
      omega (arith, all, sum_push before x, sum_cons x xs)

  room_behind : (before xs : List A) → sum (map many before) + sum (map many xs) ≤ most → AreAllowed fits_in before xs
  room_behind before [] le = tt
  room_behind before (x ∷ xs) le = (le-leb _ _ (omega (arith, le, sum_cons x xs)), room_behind (before ++ x ∷ []) xs (omega (arith, le, sum_push before x, sum_cons x xs)))

  -- there is room for each item exactly where all have few enough
  pub few_of_room : (xs : List A) → AreAllowed fits_in [] xs → sum (map many xs) ≤ most
  few_of_room xs h = omega (arith, few_behind [] xs (omega arith) h)

  pub room_of_few : (xs : List A) → sum (map many xs) ≤ most → AreAllowed fits_in [] xs
  room_of_few xs le = room_behind [] xs (omega (arith, le))
