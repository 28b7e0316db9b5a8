-- Addresses are distinct where their keys, in order, rise; and a list is read with that asked as it is read without.
use Rattle.std.proofs.Common.{◌≡◌, ℕ, zero, suc, ◌<◌, Bool, true, false, ◌==◌, ◌||◌, ◌&&◌, List, [], ◌∷◌, ◌++◌, length, map, Option, Result, Ok, Err, refl, sym, ap, subst, ◌∙◌, true≢false}
use Rattle.std.proofs.lemmas.Bool.{eq-eqb, eqb-true}
use Rattle.std.proofs.lemmas.List.Sorted.{IsPermutation-sym}
use Rattle.std.proofs.lemmas.Map.Keys.{IsDistinct-IsPermutation, IsDistinct-from_sorted, IsDistinct-head, IsDistinct-tail, sorted_from_strictly_increasing}
use Rattle.std.specs.Bool.{OnTrue}
use Rattle.std.specs.Cmp.{unsigned_tied}
use Rattle.std.specs.List.{list_any, IsDistinct, AllByRecursion}
use Rattle.std.specs.List.Sorted.{IsPermutation, IsStrictlyIncreasing}
use Rattle.std.specs.Ordering.{nat_cmp, eq_by_cmp}
use Rattle.f2b_base.specs.Addresses.{same_addr}
use Rattle.f2b_base.specs.declared.addr.Addr.{Addr}
use Rattle.f2b_model.specs.Lists.{AreDistinct}
use Rattle.f2b_model.proofs.SameLemmas.{same_addr-true}
use Rattle.record_fields.specs.Codec.{◌>>=◌, Reads}
use Rattle.record_fields.specs.Lists.{AreAllowed, is_few, items_at, list_at}
use Rattle.record_fields.specs.Numbers.{number_at}
use Rattle.record_fields.proofs.CodecLemmas.{bind_ok, passed, ok_is}
use Rattle.record_codec.specs.Distinct.{addr_key}

decided : (b : Bool) → (b ≡ true → ⊥) → b ≡ false
decided true never = absurd (never refl)
decided false never = refl

same_both : (x y : Bool) → (x ≡ true → y ≡ true) → (y ≡ true → x ≡ true) → x ≡ y
same_both true true p q = refl
same_both true false p q = sym (p refl)
same_both false true p q = q refl
same_both false false p q = refl

flips : (x y : ℕ) → eq_by_cmp nat_cmp x y ≡ eq_by_cmp nat_cmp y x
flips x y = unsigned_tied x y ∙ same_both (x == y) (y == x) (λ e. eq-eqb y x (sym (eqb-true x y e))) (λ e. eq-eqb x y (sym (eqb-true y x e))) ∙ sym (unsigned_tied y x)

-- what follows where a test holds
pub if_true : (b : Bool) (P Q : Type 0) → (P → Q) → OnTrue b P → OnTrue b Q
if_true true P Q given h = given h
if_true false P Q given h = h

-- what holds where a test holds, and it does
pub when_true : (b : Bool) (P : Type 0) → b ≡ true → OnTrue b P → P
when_true true P e h = h
when_true false P e h = absurd (true≢false (sym e))

-- keys are distinct where they rise once they are in order
pub distinct_of_rising : (keys sorted : List ℕ) → IsPermutation keys sorted → IsStrictlyIncreasing sorted → IsDistinct (eq_by_cmp nat_cmp) keys
distinct_of_rising keys sorted moved rising =
    IsDistinct-IsPermutation (eq_by_cmp nat_cmp) flips sorted keys (IsPermutation-sym keys sorted moved) (IsDistinct-from_sorted nat_cmp sorted (sorted_from_strictly_increasing sorted rising))

module _ {A : Type 0} (same : A → A → Bool) (key : A → ℕ) (alike : (x y : A) → same x y ≡ true → key x ≡ key y) where
  none_same : (x : A) (xs : List A) → AllByRecursion (λ k. eq_by_cmp nat_cmp (key x) k ≡ false) (map key xs) → list_any (same x) xs ≡ false
  none_same x [] h = refl
  none_same x (y ∷ ys) h =
      let other : same x y ≡ false = decided (same x y) (λ e. true≢false (sym (unsigned_tied (key x) (key y) ∙ eq-eqb (key x) (key y) (alike x y e)) ∙ h.0)) in
      rw other (none_same x ys h.1)

  -- what has distinct keys is distinct
  pub distinct_by_key : (xs : List A) → IsDistinct (eq_by_cmp nat_cmp) (map key xs) → AreDistinct same xs
  distinct_by_key [] h = tt
  distinct_by_key (x ∷ xs) h =
      (none_same x xs (IsDistinct-head (eq_by_cmp nat_cmp) (key x) (map key xs) h), distinct_by_key xs (IsDistinct-tail (eq_by_cmp nat_cmp) (key x) (map key xs) h))

pub same_key : (a b : Addr) → same_addr a b ≡ true → addr_key a ≡ addr_key b
same_key a b e = ap addr_key (same_addr-true a b e)

-- ---- the same list with more asked

module _ {A : Type 0} (p q : List A → A → Bool) (read : Reads A) where
  more_items : (before : List A) (n : ℕ) (bytes : List ℕ) (y : List A × List ℕ) → items_at p read before n bytes ≡ Ok y → AreAllowed q before y.0 → items_at (λ b x. p b x && q b x) read before n bytes ≡ Ok y
  unfolding items_at
  more_items before zero bytes y e more = e
  more_items before (suc n) bytes y e more =
      let a = bind_ok (read bytes) _ y e in
      let t = passed (p before a.0.0) _ _ y a.2 in
      let b = bind_ok (items_at p read (before ++ a.0.0 ∷ []) n a.0.1) (λ b. Ok (a.0.0 ∷ b.0, b.1)) y t.1 in
      let whole : (a.0.0 ∷ b.0.0, b.0.1) ≡ y = ok_is (a.0.0 ∷ b.0.0, b.0.1) y b.2 in
      let asked : AreAllowed q before (a.0.0 ∷ b.0.0) = subst (λ (z : List A × List ℕ). AreAllowed q before z.0) (sym whole) more in
      let others = more_items (before ++ a.0.0 ∷ []) n a.0.1 b.0 b.1 asked.1 in
      rw (a.1, t.0, asked.0, others) (ap (λ (z : List A × List ℕ). Ok z) whole)

  -- a list that is read, and in which each item is allowed by one more test, is read so with that test too
  pub more_asked : (most : Option ℕ) (bytes : List ℕ) (y : List A × List ℕ) → list_at most p read bytes ≡ Ok y → AreAllowed q [] y.0 → list_at most (λ b x. p b x && q b x) read bytes ≡ Ok y
  unfolding list_at
  more_asked most bytes y e more =
      let a = bind_ok (number_at bytes) _ y e in
      let t = passed (is_few most a.0.0) _ (length bytes) y a.2 in
      rw (a.1, t.0) (more_items [] a.0.0 a.0.1 y t.1 more)
