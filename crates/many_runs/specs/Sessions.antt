-- Runs of the server over the same two slots, one after the other, each up to its stop.
use Rattle.std.specs.Prelude.{ℕ, ◌≡◌, ◌<◌, List, [], ◌∷◌, take}
use Rattle.f2b_world.specs.Told.{History, grown}
use Rattle.f2b_world.specs.declared.event.Event.{Event}
use Rattle.journal_slots.specs.Grammar.{Empty, parse_slot}
use Rattle.record_fields.specs.Codec.{IsBytes, IsHeld}
use Rattle.run_law.specs.Law.{begin}
use Rattle.run_law.specs.Points.{Run}
use Rattle.run_law.specs.Served.{Obeys, run_after}
use Rattle.run_law.specs.Stops.{IsSettled, held_in}
use Rattle.slot_writes.specs.Rests.{PermitsBoth}

-- ---- one run

-- A run of the server, which may be stopped behind any of its calls.
pub record Session : Type 0 where
  -- its words
  pub words : List (List ℕ)
  -- the history of its world as it begins
  pub before : History
  -- its calls, in order
  pub events : List Event
  -- behind how many of them it is stopped; behind all, where there are not so many
  pub stop : ℕ

-- what its slots hold as it begins
abbrev pub slots_of : Session → ℕ → List ℕ
slots_of s = held_in s.before

-- where its first k calls lead
abbrev pub run_at : Session → ℕ → Run
run_at s k = run_after s.words (slots_of s) (take k s.events)

-- where its stop finds it, and the history up to then
abbrev pub run_of : Session → Run
run_of s = run_at s s.stop

abbrev pub history_of : Session → History
history_of s = grown s.before (take s.stop s.events)

-- It obeys the law of a run. As it begins nothing is unsynced, and its slots hold bytes, no more than a machine can hold.
pub record IsSession (s : Session) : Type 0 where
  pub obeys : Obeys (begin s.words (slots_of s)) s.before s.events
  pub settled : IsSettled s.before
  pub bytes : (slot : ℕ) → slot < 2 → IsBytes (slots_of s slot)
  pub held : (slot : ℕ) → slot < 2 → IsHeld (slots_of s slot)

-- ---- one run after the other

-- nothing stands in either slot
pub record AreEmpty (slots : ℕ → List ℕ) : Type 0 where
  pub first : parse_slot (slots 0) ≡ Empty
  pub second : parse_slot (slots 1) ≡ Empty

-- The slots may hold this after these sessions, of which the latest stands first: two empty slots before any, and after each one what its stop
-- may leave, where it began on what they may hold after those before it.
abbrev pub MayHold : List Session → (ℕ → List ℕ) → Type 0
MayHold [] slots = AreEmpty slots
MayHold (s ∷ earlier) slots = MayHold earlier (slots_of s) × IsSession s × PermitsBoth (history_of s) slots
