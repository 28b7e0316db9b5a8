-- Where nothing was stored yet a run begins on the view before the first configuration.
use Rattle.std.proofs.Common.{ℕ, ◌≡◌, ◌<◌, List, [], refl, sym, ap, ◌∙◌, subst, arith}
use Rattle.f2b_model.specs.LaneSound.{never}
use Rattle.f2b_model.specs.Views.{empty_view}
use Rattle.f2b_model.specs.Whole.{empty_state}
use Rattle.f2b_model.proofs.WholeLemmas.{empty_sound, view_sound}
use Rattle.f2b_world.specs.Slots.{Slot, settled}
use Rattle.f2b_world.specs.Told.{History, slot_of}
use Rattle.journal_slots.specs.Grammar.{Empty, parse_slot}
use Rattle.journal_slots.specs.Tops.{stored_in, top_of}
use Rattle.record_fields.specs.Codec.{IsBytes, IsHeld}
use Rattle.run_law.specs.Stops.{BeginsOn, held_in}
use Rattle.slot_writes.specs.Rests.{nothing_stored}

empty_says : (bytes : List ℕ) → bytes ≡ [] → parse_slot bytes ≡ Empty
unfolding parse_slot
empty_says bytes is = ap parse_slot is

no_bytes : IsBytes []
no_bytes i = omega arith

begins_at_first : (g : History) → ((slot : ℕ) → slot < 2 → slot_of g slot ≡ settled []) → BeginsOn empty_view g
begins_at_first g none =
    let empty : (slot : ℕ) → slot < 2 → held_in g slot ≡ [] = λ slot small. ap (λ (s : Slot). s.now) (none slot small) in
    let first : parse_slot (held_in g 0) ≡ Empty = empty_says (held_in g 0) (empty 0 (omega arith)) in
    let second : parse_slot (held_in g 1) ≡ Empty = empty_says (held_in g 1) (empty 1 (omega arith)) in
    record {
      settled = record { each = λ slot small. none slot small ∙ ap settled (sym (empty slot small)) };
      bytes = λ slot small. subst IsBytes (sym (empty slot small)) no_bytes;
      held = λ slot small. subst IsHeld (sym (empty slot small)) (omega arith);
      comes = record {
        stored = nothing_stored;
        means = λ i. stored_in (top_of (first i) (second i));
        sound = view_sound empty_state (record { base = never; from = empty_sound });
        comes = refl;
      };
    }
