-- A journal while the disk is only read, as while its inputs are given.
use Rattle.std.proofs.Common.{ℕ, Bool, ◌+◌, length, sym, ap, ◌∙◌, arith}
use Rattle.f2b_world.specs.Slots.{Slot, settled}
use Rattle.f2b_world.specs.Told.{Standing, HasLength}
use Rattle.journal_slots.specs.Tops.{Stored}
use Rattle.slot_reader.specs.Reads.{OnlyReads}
use Rattle.slot_reader.proofs.ReadLemmas.{told_before}
use Rattle.slot_writes.specs.declared.position.Position.{Position}
use Rattle.slot_writes.specs.Entries.{fresh_slot}
use Rattle.slot_writes.specs.Rests.{Rests}
use Rattle.ban_journal.specs.Loads.{WhereTold, AreSettled}
use Rattle.ban_journal.specs.Places.{IsPlaced, least_bytes}

module _ (failed : Bool) (a b : Standing) (reads : OnlyReads failed a b) where
  long_still : (slot n : ℕ) → HasLength a.told slot n → HasLength b.told slot n
  long_still slot n long h told =
      let t = told_before failed a.told b.told reads.told h told in
      let e = long t.0 t.1 in
      omega (arith, e, ap (λ (s : Slot). length s.now) (t.2 slot))

  pub placed_still : (p : Position) → IsPlaced p a.told → IsPlaced p b.told
  placed_still p is = record {
    current = long_still p.slot (least_bytes p.head) is.current;
    other = long_still (fresh_slot p) (least_bytes p.other) is.other;
    gate = λ grows. long_still p.slot (p.gate + 1) (is.gate grows);
  }

  pub settled_still : WhereTold a.told AreSettled → WhereTold b.told AreSettled
  settled_still is h told slot lt =
      let t = told_before failed a.told b.told reads.told h told in
      t.2 slot ∙ is t.0 t.1 slot lt ∙ ap (λ (s : Slot). settled s.now) (sym (t.2 slot))

  pub rests_still : (p : Position) (stored : Stored) → Rests p stored a.told → Rests p stored b.told
  rests_still p stored is h told =
      let t = told_before failed a.told b.told reads.told h told in
      let r = is t.0 t.1 in
      record {
        content = r.content;
        past = r.past;
        slot = r.slot;
        holds = t.2 p.slot ∙ r.holds;
        held = r.held;
        head = r.head;
        top = r.top;
        grows = r.grows;
        beside = t.2 (fresh_slot p) ∙ r.beside;
        past_held = r.past_held;
        past_head = r.past_head;
        older = r.older;
      }
