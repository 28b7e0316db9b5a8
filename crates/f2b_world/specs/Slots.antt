-- What a slot holds, and what a stop may leave of it, by the events.
use Rattle.std.specs.Prelude.{ℕ, ◌≡◌, ◌+◌, ◌<◌, ◌≤◌, ◌==◌, ◌⊎◌, max, if◌then◌else◌, List, [], ◌∷◌, ◌++◌, length, take, drop, slice_index}
use Rattle.f2b_world.specs.declared.event.Event.{Event}
use Rattle.f2b_world.specs.declared.event.Event.TheVariants.{DiskWrite, DiskSync}
use Rattle.f2b_world.specs.declared.answer.Synced.TheVariants.{Done}

pub record Slot : Type 0 where
  -- what a read gives
  pub now : List ℕ
  -- what reads gave at the last sync that was done
  pub synced : List ℕ
  -- the ranges that were written since: where each begins, and its length
  pub ranges : List (ℕ × ℕ)

-- these bytes at this offset, over what was there
abbrev pub written : List ℕ → ℕ → List ℕ → List ℕ
written old at bytes = take at old ++ bytes ++ drop (at + length bytes) old

abbrev pub write_to : Slot → ℕ → List ℕ → Slot
write_to s at bytes = record { now = written s.now at bytes; synced = s.synced; ranges = (at, length bytes) ∷ s.ranges }

abbrev pub synced_now : Slot → Slot
synced_now s = record { now = s.now; synced = s.now; ranges = [] }

-- the slot after an event; a write that failed counts as written
abbrev pub slot_step : ℕ → Slot → Event → Slot
slot_step slot s (DiskWrite k at bytes answer) = if k == slot then write_to s at bytes else s
slot_step slot s (DiskSync k Done) = if k == slot then synced_now s else s
slot_step slot s _ = s

abbrev pub slot_after : ℕ → Slot → List Event → Slot
slot_after slot s [] = s
slot_after slot s (e ∷ es) = slot_after slot (slot_step slot s e) es

-- a slot with nothing unsynced
abbrev pub settled : List ℕ → Slot
settled bytes = record { now = bytes; synced = bytes; ranges = [] }

-- no range has the offset
abbrev pub IsOutside : ℕ → List (ℕ × ℕ) → Type 0
IsOutside i [] = Unit {0}
IsOutside i (range ∷ ranges) = ((i < range.0) ⊎ (range.0 + range.1 ≤ i)) × IsOutside i ranges

abbrev pub greatest_end : List (ℕ × ℕ) → ℕ
greatest_end [] = 0
greatest_end (range ∷ ranges) = max (range.0 + range.1) (greatest_end ranges)

-- A stop may leave these bytes.
pub record Permits (s : Slot) (image : List ℕ) : Type 0 where
  pub no_shorter : length s.synced ≤ length image
  pub no_longer : length image ≤ max (length s.synced) (greatest_end s.ranges)
  pub kept : (i : ℕ) → i < length s.synced → IsOutside i s.ranges → slice_index image i ≡ slice_index s.synced i
