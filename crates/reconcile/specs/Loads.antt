-- What the slots of a journal come to as they are loaded: the state that a run goes on from, and where the journal stands.
use Rattle.std.specs.Prelude.{ℕ, ◌≡◌, List, Some, Result, Ok, Err}
use Rattle.f2b_base.specs.declared.input.Input.{Input}
use Rattle.f2b_base.specs.declared.view.View.{View}
use Rattle.f2b_model.specs.Sound.{IsSoundView}
use Rattle.f2b_model.specs.Views.{back, view_of}
use Rattle.f2b_model.specs.Whole.{State, steps}
use Rattle.journal_slots.specs.Tops.{Stored, Top, NoneOpen, Newest, NoJournal, meaning}
use Rattle.ban_journal.specs.Positions.{position_unopened, position_in, top_in}
use Rattle.slot_writes.specs.declared.position.Position.{Position}
use Rattle.slot_writes.specs.Rests.{nothing_stored}

-- ---- what was stored

-- the view after these inputs
abbrev pub view_after : View → List Input → View
view_after v inputs = view_of (steps (back v) inputs)

-- what was stored comes to its view after its inputs
abbrev pub view_by : Stored → View
view_by stored = view_after stored.view stored.inputs

-- ---- what is loaded

pub record Loaded : Type 0 where
  -- that of the view that was stored, after its inputs
  pub state : State
  pub position : Position

abbrev pub loaded_as : Stored → Position → Loaded
loaded_as stored position = record { state = back (view_by stored); position = position }

abbrev pub loaded_from : ℕ → (ℕ → List ℕ) → Top → Result Loaded (ℕ × ℕ)
loaded_from limit slots NoneOpen = Ok (loaded_as nothing_stored (position_unopened limit slots))
loaded_from limit slots (Newest slot o) = Ok (loaded_as (record { view = o.start.view; inputs = o.inputs }) (position_in limit slots slot o))
loaded_from limit slots (NoJournal slot at) = Err (slot, at)

-- what the slots come to, in which a slot may get so long; or the slot that is no journal, and the place in it
abbrev pub loaded : ℕ → (ℕ → List ℕ) → Result Loaded (ℕ × ℕ)
loaded limit slots = loaded_from limit slots (top_in slots)

-- what the slots mean, if that is something stored, has a sound view
abbrev pub AreSound : (ℕ → List ℕ) → Type 0
AreSound slots = (stored : Stored) → meaning slots ≡ Some stored → IsSoundView stored.view
