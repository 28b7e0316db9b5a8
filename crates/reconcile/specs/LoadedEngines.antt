-- An engine that is loaded, by what the slots come to.
use Rattle.std.specs.Prelude.{ℕ, ◌≡◌, List, Result, Ok, Err}
use Rattle.f2b_base.specs.declared.input.Input.{Input}
use Rattle.f2b_model.specs.Lists.{AllOf}
use Rattle.f2b_model.specs.Sound.{IsSound}
use Rattle.f2b_model.specs.Storable.{IsStorableInput}
use Rattle.f2b_model.specs.Whole.{Now, now_of, steps_now}
use Rattle.f2b_world.specs.Told.{History}
use Rattle.ban_journal.specs.declared.load_error.LoadError.{LoadError}
use Rattle.ban_journal.specs.declared.load_error.LoadError.TheVariants.{NotAJournal}
use Rattle.ban_journal.specs.Loads.{AreSettled}
use Rattle.slot_reader.specs.Reads.{content}
use Rattle.reconcile.specs.Engines.{EngineNow}
use Rattle.reconcile.specs.Loads.{Loaded, loaded, AreSound}

-- Its journal is where the slots have it, and where they are sound its core is that of the state that they come to, which is sound too.
pub record IsLoadedEngine (limit : ℕ) (slots : ℕ → List ℕ) (e : EngineNow) : Type 0 where
  pub comes : Loaded
  pub loads : loaded limit slots ≡ Ok comes
  pub journal : e.journal ≡ comes.position
  pub core : AreSound slots → e.core ≡ now_of comes.state
  pub sound : AreSound slots → IsSound comes.state

-- an engine was loaded, or this slot is no journal, at that place
abbrev pub IsEngineLoaded : ℕ → (ℕ → List ℕ) → Result EngineNow LoadError → Type 0
IsEngineLoaded limit slots (Ok e) = IsLoadedEngine limit slots e
IsEngineLoaded limit slots (Err (NotAJournal slot at)) = loaded limit slots ≡ Err (slot, at)
IsEngineLoaded limit slots (Err _) = Unit {0}

-- nothing is unsynced, and what the slots mean has a sound view
pub record AreSoundAtRest (g : History) : Type 0 where
  pub sound : AreSound (content g)
  pub settled : AreSettled g

-- inputs were taken one after the other, up to the last, and each can be stored
abbrev pub AreTaken : Now → List Input → Result Now LoadError → Type 0
AreTaken core inputs (Ok after) = (after ≡ steps_now core inputs) × AllOf IsStorableInput inputs
AreTaken core inputs (Err (NotAJournal slot at)) = ⊥
AreTaken core inputs (Err _) = Unit {0}
