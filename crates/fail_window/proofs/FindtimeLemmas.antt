-- The last failure tells whether some failure is recent.
use Rattle.std.proofs.Common.{◌≡◌, ℕ, zero, suc, ◌+◌, ◌-◌, true, false, nat_lt, Option, Some, None, List, [], ◌∷◌, length, get_or, refl, sym, ◌∙◌, ap, arith}
use Rattle.std.specs.List.{list_any, slice_get}
use Rattle.std.proofs.lemmas.Bool.Decides.{nat_tests}
use Rattle.std.proofs.lemmas.Option.{get_or_from_slice_get}
use Rattle.f2b_base.specs.declared.ban.Failure.{Failure}
use Rattle.f2b_model.specs.Lists.{IsInOrder}
use Rattle.f2b_model.proofs.ListLemmas.{by_test}
use Rattle.fail_window.specs.Times.{by_time, is_within_findtime}
use Rattle.fail_window.proofs.PlaceLemmas.{in_order_at}

-- a failure that is no earlier than a recent one is recent
later_too : (now findtime : ℕ) (f g : Failure) → by_time g f ≡ false → is_within_findtime now findtime f ≡ true → is_within_findtime now findtime g ≡ true
later_too now findtime f g le recent = later now findtime f.time g.time le recent
  where
    later : (now findtime a b : ℕ) → nat_lt b a ≡ false → nat_lt now (a + findtime) ≡ true → nat_lt now (b + findtime) ≡ true
    later now findtime a b le recent = grind (arith, nat_tests)

-- the failure at the last place tells it of all
recent_by_last : (now findtime k : ℕ) (fs : List Failure) (last : Failure) → IsInOrder by_time fs → suc k ≡ length fs → last ≡ get_or fs k last
    → list_any (is_within_findtime now findtime) fs ≡ is_within_findtime now findtime last
recent_by_last now findtime k [] last order at is = absurd (omega arith)
recent_by_last now findtime zero (f ∷ []) last order at is =
    let same : is_within_findtime now findtime last ≡ is_within_findtime now findtime f = ap (is_within_findtime now findtime) is in
    by_test (is_within_findtime now findtime f) _ (λ e. rw e (sym (same ∙ e))) (λ e. rw e (sym (same ∙ e)))
recent_by_last now findtime (suc k) (f ∷ []) last order at is = absurd (omega arith)
recent_by_last now findtime zero (f ∷ (g ∷ gs)) last order at is = absurd (omega arith)
recent_by_last now findtime (suc k) (f ∷ (g ∷ gs)) last order at is =
    let rest = recent_by_last now findtime k (g ∷ gs) last order.1 (omega arith) is in
    let behind : by_time last f ≡ false = ap (λ (h : Failure). by_time h f) is ∙ in_order_at by_time (f ∷ (g ∷ gs)) 0 (suc k) last order (omega arith) (omega arith) in
    by_test (is_within_findtime now findtime f) _ (λ e. rw e (sym (later_too now findtime f last behind e))) (λ e. rw e rest)

-- and so does the last one
pub any_by_last : (now findtime : ℕ) (fs : List Failure) (last : Failure) → IsInOrder by_time fs → slice_get fs (length fs - 1) ≡ Some last
    → list_any (is_within_findtime now findtime) fs ≡ is_within_findtime now findtime last
any_by_last now findtime [] last order at = absurd (let k : None ≡ Some last = at in cc)
any_by_last now findtime (f ∷ fs) last order at =
    let place : length (f ∷ fs) - 1 ≡ length fs = omega arith in
    recent_by_last now findtime (length fs) (f ∷ fs) last order refl (sym (get_or_from_slice_get (f ∷ fs) (length fs) last last (ap (λ k. slice_get (f ∷ fs) k) (sym place) ∙ at)))
