-- What is proved of engines and stops.
use Rattle.std.specs.Prelude.{ℕ, ◌≡◌, ◌<◌, ◌^◌, List, Option}
use Rattle.f2b_base.specs.declared.input.Input.{Input}
use Rattle.f2b_model.specs.Lists.{AllOf}
use Rattle.f2b_model.specs.Storable.{IsStorable, IsStorableInput}
use Rattle.f2b_model.specs.Views.{spread}
use Rattle.f2b_model.specs.Whole.{step_now}
use Rattle.f2b_world.specs.declared.event.Event.{Event}
use Rattle.f2b_world.specs.declared.event.Event.TheVariants.{DiskWrite, DiskSync}
use Rattle.f2b_world.specs.Told.{History, Adds, grown, slot_of}
use Rattle.ban_journal.specs.Places.{IsPlaced}
use Rattle.slot_writes.specs.declared.position.Position.{Position}
use Rattle.slot_writes.specs.Entries.{Written}
use Rattle.slot_writes.specs.Writes.{Write, done_events, IsPart}
use Rattle.reconcile.specs.Answers.{entry_for}
use Rattle.reconcile.specs.Engines.{EngineNow, IsOnDisk}
use Rattle.reconcile.specs.Opens.{OpensTo, Opens, OpensEither}

-- an engine and an input within their bounds
pub record IsWithinBounds (e : EngineNow) (i : Input) : Type 0 where
  pub limit : e.journal.limit < 2 ^ 64
  pub core : IsStorable e.core
  pub input : IsStorableInput i

-- An engine that is on the disk is about to write an input by these calls, and its journal will stand there.
pub record IsAboutToWrite (e : EngineNow) (i : Input) (next : Position) (ws : List Write) (g : History) : Type 0 where
  pub bounds : IsWithinBounds e i
  pub on : IsOnDisk e g
  pub entry : entry_for e i ≡ Written next ws

-- what reads give
abbrev pub read_image : History → ℕ → List ℕ
read_image g slot = (slot_of g slot).now

abbrev pub ChangesNoSlot : Event → Type 0
ChangesNoSlot (DiskWrite slot at bytes answer) = ⊥
ChangesNoSlot (DiskSync slot answer) = ⊥
ChangesNoSlot _ = Unit {0}

pub record IsEngineLaw : Type 0 where
  -- whatever a stop leaves of an engine that is on the disk opens to its view
  pub rests : (e : EngineNow) (g : History) → IsOnDisk e g → Opens (spread e.core) g
  -- so do the bytes that reads give
  pub reads : (e : EngineNow) (g : History) → IsOnDisk e g → OpensTo (spread e.core) (read_image g)
  -- while no slot is changed it stays on the disk
  pub still : (e : EngineNow) (g : History) (es : List Event) → AllOf ChangesNoSlot es → IsOnDisk e g → IsOnDisk e (grown g es)
  -- and its slots as long as they were
  pub placed : (p : Position) (old new : Option History) → Adds old new (λ g es. AllOf ChangesNoSlot es) → IsPlaced p old → IsPlaced p new
  -- while an input is written, however far that came, it opens to the view before it or to the one with it
  pub written : (e : EngineNow) (i : Input) (next : Position) (ws : List Write) (g : History) (es : List Event)
      → IsAboutToWrite e i next ws g → IsPart ws es → OpensEither (spread e.core) (spread (step_now e.core i)) (grown g es)
  -- once it is written and taken the engine is on the disk with it
  pub closed : (e : EngineNow) (i : Input) (next : Position) (ws : List Write) (g : History) (es : List Event)
      → IsAboutToWrite e i next ws g → es ≡ done_events ws → IsOnDisk (record { journal = next; core = step_now e.core i }) (grown g es)
