-- Sessions one after the other, from two empty slots on.
use Rattle.std.proofs.Common.{ℕ, List, [], ◌∷◌, ◌++◌, refl}
use Rattle.f2b_base.specs.declared.input.Input.{Input}
use Rattle.f2b_model.specs.LaneSound.{never}
use Rattle.f2b_model.specs.Lists.{AllOf}
use Rattle.f2b_model.specs.Sound.{IsSound}
use Rattle.f2b_model.specs.Storable.{IsStorableInput}
use Rattle.f2b_model.specs.Whole.{empty_state}
use Rattle.f2b_model.proofs.WholeLemmas.{all_alternate, all_settled, empty_sound, view_again, view_sound}
use Rattle.journal_slots.specs.Tops.{stored_in, top_of}
use Rattle.run_law.specs.Stops.{ComesTo}
use Rattle.slot_writes.specs.Rests.{nothing_stored}
use Rattle.many_runs.specs.Sessions.{AreEmpty, MayHold, Session, slots_of}
use Rattle.many_runs.specs.OneState.{AreOne, CountInOrder, view_then}
use Rattle.many_runs.proofs.JoinLemmas.{all_fit, all_joined, goes_on, leaves}

record Chained (sessions : List Session) (slots : ℕ → List ℕ) : Type 0 where
  pub inputs : List Input
  pub stored : AllOf IsStorableInput inputs
  pub count : CountInOrder sessions inputs
  pub comes : ComesTo (view_then inputs) slots

-- two empty slots come to the view of the empty state
empty_comes : (slots : ℕ → List ℕ) → AreEmpty slots → ComesTo (view_then []) slots
empty_comes slots empty =
    let sound : IsSound empty_state = record { base = never; from = empty_sound } in
    record {
      stored = nothing_stored;
      means = λ i. stored_in (top_of (empty.first i) (empty.second i));
      sound = view_sound empty_state sound;
      comes = view_again empty_state sound;
    }

chained : (sessions : List Session) (slots : ℕ → List ℕ) → MayHold sessions slots → Chained sessions slots
chained [] slots may = record { inputs = []; stored = tt; count = refl; comes = empty_comes slots may }
chained (s ∷ earlier) slots may =
    let c = chained earlier (slots_of s) may.0 in
    let own = leaves s may.1 c.inputs c.stored c.comes slots may.2 in
    record {
      inputs = c.inputs ++ own.own;
      stored = all_joined c.inputs own.own c.stored own.stored;
      count = (c.inputs, own.own, c.count, goes_on s may.1 c.inputs c.stored c.comes, own.count, refl);
      comes = own.view;
    }

pub are_one : (sessions : List Session) (slots : ℕ → List ℕ) → MayHold sessions slots → AreOne sessions slots
are_one sessions slots may =
    let c = chained sessions slots may in
    record {
      inputs = c.inputs;
      count = c.count;
      comes = c.comes;
      alternate = all_alternate c.inputs (all_fit c.inputs c.stored);
      settles = all_settled c.inputs (all_fit c.inputs c.stored);
    }
