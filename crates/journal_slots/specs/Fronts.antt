-- What was written of a slot up to its closed gate.
use Rattle.std.specs.Prelude.{ℕ, ◌<◌, ◌≡◌, List, [], ◌∷◌, ◌++◌}
use Rattle.f2b_base.specs.declared.input.Input.{Input}
use Rattle.record_codec.specs.declared.version.Version.{Version}
use Rattle.record_codec.specs.Inputs.{input}
use Rattle.journal_slots.specs.Starts.{Start, start}

-- a gate with any byte but 0, and an input, again and again
unfoldable pub IsRun : Version → List Input → List ℕ → Type 0
IsRun version [] bytes = bytes ≡ []
IsRun version (i ∷ inputs) bytes =
    (gate : ℕ) × (rest : List ℕ) × (0 < gate) × (input version).Fits i × (bytes ≡ gate ∷ (input version).spell i ++ rest) × IsRun version inputs rest

-- the slot's own gate, its start, and then the run
pub record IsFront (first : Start) (inputs : List Input) (front : List ℕ) : Type 0 where
  pub gate : ℕ
  pub run : List ℕ
  pub is_open : 0 < gate
  pub fits : start.Fits first
  pub holds : front ≡ gate ∷ start.spell first ++ run
  pub runs : IsRun first.version inputs run
