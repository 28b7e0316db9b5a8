-- How a slot is cleared before it is written anew.
use Rattle.std.proofs.Common.{ℕ, ◌≡◌, ◌≤◌, List, [], ◌∷◌, ◌++◌, length, drop, replicate, refl, sym, ap, ◌∙◌, subst, arith, lit<}
use Rattle.std.proofs.lemmas.List.{drop_all}
use Rattle.f2b_world.specs.Slots.{Permits, settled, write_to}
use Rattle.journal_slots.specs.declared.head.Head.{Head}
use Rattle.journal_slots.specs.declared.head.Head.TheVariants.{Short, Ajar, Shut}
use Rattle.journal_slots.specs.Starts.{IsHead}
use Rattle.slot_writes.specs.Writes.{AreOn}
use Rattle.slot_writes.specs.Points.{after_calls, AllPoints, AreShort}
use Rattle.slot_writes.specs.Stages.{Making, IsMaking}
use Rattle.slot_writes.specs.Entries.{clearing}
use Rattle.slot_writes.proofs.ByteLemmas.{settled_image, one_byte, written_at}

module _ (slot : ℕ) (body entry : List ℕ) where
  kept_settled : (bytes : List ℕ) → IsMaking bytes body entry (settled bytes)
  kept_settled bytes image permits = Making.Kept (settled_image bytes image permits)

  abbrev zeros : List ℕ
  zeros = replicate 16 0

  short_end : (bytes : List ℕ) → length bytes ≤ 16 → after_calls (settled bytes) (clearing slot Short) ≡ settled zeros
  short_end bytes short =
      let none : drop 16 bytes ≡ [] = drop_all 16 bytes (omega (arith, short)) in
      ap settled (written_at [] bytes zeros 0 refl ∙ ap (λ (r : List ℕ). zeros ++ r) none)

  -- the slot has a closed gate then
  pub clear_end : (head : Head) (bytes : List ℕ) → IsHead head bytes → (rest : List ℕ) × (after_calls (settled bytes) (clearing slot head) ≡ settled (0 ∷ rest))
  clear_end Short bytes is = (replicate 15 0, short_end bytes is)
  clear_end Ajar bytes is =
      (is.1.1, ap (λ (r : List ℕ). after_calls (settled r) (clearing slot Ajar)) is.1.3 ∙ ap settled (written_at [] (is.1.0 ∷ is.1.1) (0 ∷ []) 0 refl))
  clear_end Shut bytes is = (is.1.0, ap settled is.1.1)

  pub clear_points : (head : Head) (bytes : List ℕ) → IsHead head bytes → AllPoints (IsMaking bytes body entry) (settled bytes) (clearing slot head)
  unfolding clear_end
  clear_points Short bytes is = (
    kept_settled bytes,
    (
      (λ image permits. Making.Short (omega (arith, is, permits.no_longer))),
      subst (IsMaking bytes body entry) (sym (short_end bytes is))
          (λ image permits. Making.Short (let e : length image ≡ 16 = ap length (settled_image zeros image permits) in omega (arith, e))),
    ),
  )
  clear_points Ajar bytes is =
      let there = clear_end Ajar bytes is in (
        kept_settled bytes,
        (
          (λ image permits.
              let P : List ℕ → Type 0 = λ r. Permits (write_to (settled r) 0 (0 ∷ [])) image in
              let q = one_byte [] is.1.1 image (0 ∷ []) 0 is.1.0 refl (subst P is.1.3 permits) refl in
              Making.Shut q.0 is.1.0 is.1.1 is.1.2 is.1.3 q.1),
          subst (IsMaking bytes body entry) (sym there.1)
              (λ image permits. Making.Shut 0 is.1.0 is.1.1 is.1.2 is.1.3 (settled_image (0 ∷ there.0) image permits)),
        ),
      )
  clear_points Shut bytes is = kept_settled bytes

  pub clear_on : (head : Head) → AreOn slot (clearing slot head)
  clear_on Short = (refl, (refl, tt))
  clear_on Ajar = (refl, (refl, tt))
  clear_on Shut = tt

  pub clear_short : (head : Head) → AreShort (clearing slot head)
  clear_short Short = (lit< tt, tt)
  clear_short Ajar = (lit< tt, tt)
  clear_short Shut = tt
