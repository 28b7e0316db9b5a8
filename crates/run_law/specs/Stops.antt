-- What a stop leaves of a run, at whatever point it comes.
use Rattle.std.specs.Prelude.{ℕ, ◌≡◌, ◌<◌, ◌⊎◌, List, Option, Some, None}
use Rattle.f2b_base.specs.declared.view.View.{View}
use Rattle.f2b_model.specs.Sound.{IsSoundView}
use Rattle.f2b_world.specs.Slots.{settled}
use Rattle.f2b_world.specs.Told.{History, slot_of}
use Rattle.f2b_world.specs.declared.event.Event.{Event}
use Rattle.f2b_world.specs.declared.event.Event.TheVariants.{DiskWrite, DiskSync}
use Rattle.journal_slots.specs.Tops.{Stored, meaning}
use Rattle.record_fields.specs.Codec.{IsBytes, IsHeld}
use Rattle.reconcile.specs.Loads.{view_after, view_by}
use Rattle.run_law.specs.News.{inputs_of}
use Rattle.run_law.specs.Points.{Point, Over, Run}
use Rattle.run_law.specs.declared.status.Status.{Status}
use Rattle.run_law.specs.declared.status.Status.TheVariants.{Stopped, TurnsSpent}
use Rattle.slot_writes.specs.Rests.{PermitsBoth}

-- what the slots hold at the end of a history
abbrev pub held_in : History → ℕ → List ℕ
held_in g slot = (slot_of g slot).now

-- where the history is told, its slots hold these bytes
pub record HoldsThese (slots : ℕ → List ℕ) (told : Option History) : Type 0 where
  pub each : (g : History) → told ≡ Some g → slots ≡ held_in g

-- ---- images

-- The slots mean something stored, of which the view is sound, and which comes to this view.
pub record ComesTo (v : View) (image : ℕ → List ℕ) : Type 0 where
  pub stored : Stored
  pub means : meaning image ≡ Some stored
  pub sound : IsSoundView stored.view
  pub comes : view_by stored ≡ v

-- nothing of the slots is unsynced
pub record IsSettled (g : History) : Type 0 where
  pub each : (slot : ℕ) → slot < 2 → slot_of g slot ≡ settled (held_in g slot)

-- A run may begin here, on this view: nothing is unsynced, and both slots hold bytes, no more than a machine can hold, which come to it.
pub record BeginsOn (v : View) (g : History) : Type 0 where
  pub settled : IsSettled g
  pub bytes : (slot : ℕ) → slot < 2 → IsBytes (held_in g slot)
  pub held : (slot : ℕ) → slot < 2 → IsHeld (held_in g slot)
  pub comes : ComesTo v (held_in g)

-- ---- a run that began on a view

-- Whatever a stop leaves comes to the view after the closed inputs, or after all of them.
pub record IsKept (v : View) (r : Run) (g : History) : Type 0 where
  pub each : (image : ℕ → List ℕ) → PermitsBoth g image → ComesTo (view_after v r.closed) image ⊎ ComesTo (view_after v (inputs_of r)) image

-- Nothing is unsynced, and what reads give comes to the view after the closed inputs.
pub record IsStored (v : View) (r : Run) (g : History) : Type 0 where
  pub settled : IsSettled g
  pub comes : ComesTo (view_after v r.closed) (held_in g)

-- the status of a run that ended as it was asked to
abbrev pub IsRegular : Status → Type 0
IsRegular Stopped = Unit {0}
IsRegular TurnsSpent = Unit {0}
IsRegular _ = ⊥

-- ---- the order of calls

-- the event writes to a slot, or syncs one
abbrev pub IsWrite : Event → Type 0
IsWrite (DiskWrite slot at bytes answer) = Unit {0}
IsWrite (DiskSync slot answer) = Unit {0}
IsWrite _ = ⊥

abbrev pub IsOverAt : Point → Type 0
IsOverAt (Over status) = Unit {0}
IsOverAt _ = ⊥

-- A call comes where all inputs are closed, or it is one that writes an input, or the run is over.
abbrev pub ComesInOrder : Run → Event → Type 0
ComesInOrder r event = (r.unclosed ≡ None) ⊎ (IsWrite event ⊎ IsOverAt r.point)
