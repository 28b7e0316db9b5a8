-- A slot that is written anew, and an input in it.
use Rattle.std.proofs.Common.{ℕ, ◌≡◌, ◌+◌, ◌<◌, ◌^◌, inl, inr, List, [], ◌∷◌, ◌++◌, length, drop, length-append, refl, sym, ap, ◌∙◌, append_assoc, subst, arith}
use Rattle.f2b_world.specs.Slots.{Slot, settled}
use Rattle.journal_slots.specs.declared.head.Head.{Head}
use Rattle.journal_slots.specs.Starts.{IsHead}
use Rattle.slot_writes.specs.Writes.{AreOn}
use Rattle.slot_writes.specs.Points.{after_calls, AllPoints, AreShort}
use Rattle.slot_writes.specs.Stages.{IsBehind, IsOpening, IsAdding, Making, IsMaking}
use Rattle.slot_writes.specs.Entries.{behind_gate, clearing, turn_calls}
use Rattle.slot_writes.proofs.ClearLemmas.{clear_end, clear_points, clear_on, clear_short}
use Rattle.slot_writes.proofs.RunLemmas.{points_weaker, points_append, after_calls-append, on_append, short_append}
use Rattle.slot_writes.proofs.StageLemmas.{behind_points, behind_end, adding_points, behind_on, behind_short}

-- the new body, and then the input
module _ (slot : ℕ) (bytes body entry : List ℕ) where
  abbrev whole : List ℕ
  whole = body ++ 0 ∷ []

  making_behind : (s : Slot) → IsBehind [] s → IsMaking bytes body entry s
  making_behind s is image permits = let p = is image permits in Making.Behind p.0 p.1

  making_gate : (rest : List ℕ) (s : Slot) → IsOpening [] (whole ++ rest) s → IsMaking bytes body entry s
  making_gate rest s is image permits = let p = is image permits in Making.Gate p.0 rest (p.1 ∙ ap (λ (r : List ℕ). p.0 ∷ r) (append_assoc body (0 ∷ []) rest))

  making_added : (s : Slot) → IsAdding (1 ∷ body) entry s → IsMaking bytes body entry s
  making_added s is image permits = elim (is image permits) as (λ _. Making bytes body entry image) [
    | inl p ↦ Making.Gate 1 p.0 p.1
    | inr p ↦ Making.Added p.0 p.1 p.2
  ]

  place_is : length whole ≡ length (1 ∷ body)
  place_is = let e : length whole ≡ length body + 1 = length-append body (0 ∷ []) in omega (arith, e)

  body_end : (rest : List ℕ) → after_calls (settled (0 ∷ rest)) (behind_gate slot 0 whole) ≡ settled ((1 ∷ body) ++ 0 ∷ drop (length whole) rest)
  body_end rest = behind_end slot 0 [] rest whole refl ∙ ap (λ (r : List ℕ). settled (1 ∷ r)) (append_assoc body (0 ∷ []) (drop (length whole) rest))

  fresh_end : (rest : List ℕ) → (more : List ℕ) × (after_calls (settled (0 ∷ rest)) (behind_gate slot 0 whole ++ behind_gate slot (length whole) entry) ≡ settled ((1 ∷ body) ++ 1 ∷ (entry ++ more)))
  fresh_end rest = (
    drop (length entry) (drop (length whole) rest),
    after_calls-append (settled (0 ∷ rest)) (behind_gate slot 0 whole) (behind_gate slot (length whole) entry)
        ∙ ap (λ (s : Slot). after_calls s (behind_gate slot (length whole) entry)) (body_end rest)
        ∙ behind_end slot (length whole) (1 ∷ body) (drop (length whole) rest) entry place_is,
  )

  fresh_points : (rest : List ℕ) → AllPoints (IsMaking bytes body entry) (settled (0 ∷ rest)) (behind_gate slot 0 whole ++ behind_gate slot (length whole) entry)
  fresh_points rest =
      points_append (IsMaking bytes body entry) (settled (0 ∷ rest)) (behind_gate slot 0 whole) (behind_gate slot (length whole) entry)
      (behind_points (IsMaking bytes body entry) slot 0 [] rest whole refl making_behind (making_gate (drop (length whole) rest)))
      (subst (λ (s : Slot). AllPoints (IsMaking bytes body entry) s (behind_gate slot (length whole) entry)) (sym (body_end rest))
      (points_weaker (IsAdding (1 ∷ body) entry) (IsMaking bytes body entry) _ (behind_gate slot (length whole) entry) making_added
      (adding_points slot (length whole) (1 ∷ body) (drop (length whole) rest) entry place_is)))

  pub turn_points : (head : Head) → IsHead head bytes → AllPoints (IsMaking bytes body entry) (settled bytes) (turn_calls slot head whole entry)
  turn_points head is =
      let cleared = clear_end slot body entry head bytes is in
      points_append (IsMaking bytes body entry) (settled bytes) (clearing slot head) (behind_gate slot 0 whole ++ behind_gate slot (length whole) entry)
      (clear_points slot body entry head bytes is)
      (subst (λ (s : Slot). AllPoints (IsMaking bytes body entry) s (behind_gate slot 0 whole ++ behind_gate slot (length whole) entry)) (sym cleared.1) (fresh_points cleared.0))

  pub turn_end : (head : Head) → IsHead head bytes → (rest : List ℕ) × (after_calls (settled bytes) (turn_calls slot head whole entry) ≡ settled ((1 ∷ body) ++ 1 ∷ (entry ++ rest)))
  turn_end head is =
      let cleared = clear_end slot body entry head bytes is in
      let end = fresh_end cleared.0 in (
        end.0,
        after_calls-append (settled bytes) (clearing slot head) (behind_gate slot 0 whole ++ behind_gate slot (length whole) entry)
            ∙ ap (λ (s : Slot). after_calls s (behind_gate slot 0 whole ++ behind_gate slot (length whole) entry)) cleared.1 ∙ end.1,
      )

  pub turn_on : (head : Head) → AreOn slot (turn_calls slot head whole entry)
  turn_on head = on_append slot (clearing slot head) (behind_gate slot 0 whole ++ behind_gate slot (length whole) entry) (clear_on slot body entry head)
      (on_append slot (behind_gate slot 0 whole) (behind_gate slot (length whole) entry) (behind_on slot 0 whole) (behind_on slot (length whole) entry))

  pub turn_short : (head : Head) → length whole + length entry + 1 < 2 ^ 64 → AreShort (turn_calls slot head whole entry)
  turn_short head short = short_append (clearing slot head) (behind_gate slot 0 whole ++ behind_gate slot (length whole) entry) (clear_short slot body entry head)
      (short_append (behind_gate slot 0 whole) (behind_gate slot (length whole) entry) (behind_short slot 0 whole (omega (arith, short))) (behind_short slot (length whole) entry (omega (arith, short))))
