-- An engine, when all of it is on the disk, and what whatever a stop leaves opens to while it takes an input.
use Rattle.std.specs.Prelude.{ℕ, Option, take}
use Rattle.f2b_base.specs.declared.input.Input.{Input}
use Rattle.f2b_model.specs.Views.{spread}
use Rattle.f2b_model.specs.Whole.{Now, step_now}
use Rattle.f2b_world.specs.Told.{History, Adds, grown}
use Rattle.journal_slots.specs.Tops.{Stored}
use Rattle.slot_writes.specs.declared.position.Position.{Position}
use Rattle.slot_writes.specs.Rests.{IsAtRest}
use Rattle.reconcile.specs.Opens.{ComesTo, OpensEither}

-- where the journal stands, and the state
pub record EngineNow : Type 0 where
  pub journal : Position
  pub core : Now

-- All of the engine is on the disk: its journal is at rest, and what that has stored comes to the view of its state.
pub record IsOnDisk (e : EngineNow) (g : History) : Type 0 where
  pub stored : Stored
  pub rests : IsAtRest e.journal stored g
  pub comes : ComesTo stored (spread e.core)

-- after each number of events whatever a stop leaves opens to the view before the input, or to the one with it
pub record OpensThrough (e : EngineNow) (i : Input) (old new : Option History) : Type 0 where
  pub points : Adds old new (λ g es. (k : ℕ) → OpensEither (spread e.core) (spread (step_now e.core i)) (grown g (take k es)))
