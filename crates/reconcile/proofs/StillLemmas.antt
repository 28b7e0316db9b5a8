-- An engine that is on the disk, by what reads give, and over events that change no slot.
use Rattle.std.proofs.Common.{ℕ, ◌≡◌, ◌+◌, ◌-◌, ◌<◌, ◌≤◌, ◌⊎◌, inl, inr, Option, Some, None, zero, suc, List, [], ◌∷◌, length, refl, sym, ap, subst, ◌∙◌, arith}
use Rattle.f2b_model.specs.Lists.{AllOf}
use Rattle.f2b_world.specs.declared.event.Event.{Event}
use Rattle.f2b_world.specs.declared.event.Event.TheVariants.{DiskWrite, DiskSync}
use Rattle.f2b_world.specs.Slots.{Slot, Permits, settled, slot_step, slot_after}
use Rattle.f2b_world.specs.Told.{History, Adds, HasLength, grown, slot_of}
use Rattle.f2b_model.specs.Views.{spread}
use Rattle.journal_slots.specs.Tops.{Stored}
use Rattle.ban_journal.specs.Places.{IsPlaced, least_bytes}
use Rattle.slot_writes.specs.declared.position.Position.{Position}
use Rattle.slot_writes.specs.Entries.{fresh_slot}
use Rattle.slot_writes.specs.Rests.{PermitsBoth, IsAtRest}
use Rattle.slot_writes.proofs.RunLemmas.{slot_grown}
use Rattle.reconcile.specs.Engines.{EngineNow, IsOnDisk}
use Rattle.reconcile.specs.Laws.{ChangesNoSlot, read_image}
use Rattle.reconcile.specs.Opens.{OpensTo}
use Rattle.reconcile.proofs.EngineLemmas.{rest_opens}

-- ---- what reads give

-- of a slot with nothing unsynced a stop may leave what reads give
settled_permits : (content : List ℕ) → Permits (settled content) content
settled_permits content = record { no_shorter = omega arith; no_longer = omega arith; kept = λ i within outside. refl }

read_permits : (s : Slot) (content : List ℕ) → s ≡ settled content → Permits s s.now
read_permits s content is = subst (λ (t : Slot). Permits t t.now) (sym is) (settled_permits content)

-- one of two slots is one or the other
either_slot : (one slot : ℕ) → one < 2 → slot < 2 → (slot ≡ one) ⊎ (slot ≡ 1 - one)
either_slot zero zero small within = inl refl
either_slot zero (suc n) small within = inr (omega arith)
either_slot (suc m) zero small within = inr (omega arith)
either_slot (suc m) (suc n) small within = inl (omega arith)

rest_permits : (p : Position) (stored : Stored) (g : History) → IsAtRest p stored g → PermitsBoth g (read_image g)
rest_permits p stored g is slot within =
    let P : ℕ → Type 0 = λ k. Permits (slot_of g k) (slot_of g k).now in
    elim (either_slot p.slot slot is.slot within) [
      | inl here ↦ subst P (sym here) (read_permits (slot_of g p.slot) is.content is.holds)
      | inr there ↦ subst P (sym there) (read_permits (slot_of g (fresh_slot p)) is.past is.beside)
    ]

pub read_opens : (e : EngineNow) (g : History) → IsOnDisk e g → OpensTo (spread e.core) (read_image g)
read_opens e g is = rest_opens e g is (read_image g) (rest_permits e.journal is.stored g is.rests)

-- ---- events that change no slot

step_still : (slot : ℕ) (s : Slot) (event : Event) → ChangesNoSlot event → slot_step slot s event ≡ s
step_still slot s (DiskWrite k at bytes answer) is = absurd is
step_still slot s (DiskSync k answer) is = absurd is
step_still slot s _ is = refl

after_still : (slot : ℕ) (s : Slot) (es : List Event) → AllOf ChangesNoSlot es → slot_after slot s es ≡ s
after_still slot s [] all = refl
after_still slot s (e ∷ es) all = ap (λ (t : Slot). slot_after slot t es) (step_still slot s e all.0) ∙ after_still slot s es all.1

pub slot_still : (slot : ℕ) (g : History) (es : List Event) → AllOf ChangesNoSlot es → slot_of (grown g es) slot ≡ slot_of g slot
slot_still slot g es all = slot_grown slot g es ∙ after_still slot (slot_of g slot) es all

-- it is at rest where the slots are the same
pub rest_same : (p : Position) (stored : Stored) (h g : History) → ((slot : ℕ) → slot_of h slot ≡ slot_of g slot) → IsAtRest p stored g → IsAtRest p stored h
rest_same p stored h g same is = record {
  content = is.content;
  past = is.past;
  slot = is.slot;
  holds = same p.slot ∙ is.holds;
  held = is.held;
  head = is.head;
  top = is.top;
  grows = is.grows;
  beside = same (fresh_slot p) ∙ is.beside;
  past_held = is.past_held;
  past_head = is.past_head;
  older = is.older;
}

pub on_still : (e : EngineNow) (g : History) (es : List Event) → AllOf ChangesNoSlot es → IsOnDisk e g → IsOnDisk e (grown g es)
on_still e g es all is = record { stored = is.stored; rests = rest_same e.journal is.stored (grown g es) g (λ slot. slot_still slot g es all) is.rests; comes = is.comes }

-- ---- how long slots are

long_still : (slot n : ℕ) (old new : Option History) → Adds old new (λ g es. AllOf ChangesNoSlot es) → HasLength old slot n → HasLength new slot n
long_still slot n old None adds long h told = absurd (cc)
long_still slot n old (Some j) adds long h told =
    let is : h ≡ grown adds.0 adds.1 = (let e : j ≡ h = cc in sym e) ∙ adds.3 in
    let same : slot_of h slot ≡ slot_of adds.0 slot = ap (λ (g : History). slot_of g slot) is ∙ slot_still slot adds.0 adds.1 adds.4 in
    subst (λ (t : Slot). n ≤ length t.now) (sym same) (long adds.0 adds.2)

pub placed_still : (p : Position) (old new : Option History) → Adds old new (λ g es. AllOf ChangesNoSlot es) → IsPlaced p old → IsPlaced p new
placed_still p old new adds is = record {
  current = long_still p.slot (least_bytes p.head) old new adds is.current;
  other = long_still (fresh_slot p) (least_bytes p.other) old new adds is.other;
  gate = λ grows. long_still p.slot (p.gate + 1) old new adds (is.gate grows);
}
