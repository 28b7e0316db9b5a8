-- What a stop leaves of a slot in memory.
use Rattle.std.specs.Prelude.{ℕ, ◌≡◌, ◌+◌, ◌-◌, ◌==◌, ◌&&◌, Bool, if◌then◌else◌, leb, ltb, List, [], ◌∷◌}
use Rattle.std.specs.List.{list_any}
use Rattle.f2b_world.specs.declared.event.Event.{Event}
use Rattle.f2b_world.specs.Slots.{Slot, Permits}
use Rattle.f2b_mem.specs.Plays.{slot_in}
use Rattle.f2b_mem.specs.declared.script.Image.{Image}
use Rattle.f2b_mem.specs.declared.script.Script.{Script}
use Rattle.f2b_mem.specs.declared.torn.Kept.{Kept}

-- what reads give of a slot, and the ranges that were written since the last sync
pub record IsKept (s : Slot) (kept : Kept) : Type 0 where
  pub bytes : kept.now ≡ s.now
  pub unsynced : kept.ranges ≡ s.ranges

-- whether an offset is in one of the ranges
abbrev pub is_inside : ℕ → List (ℕ × ℕ) → Bool
is_inside place ranges = list_any (λ range. leb range.0 place && ltb (place - range.0) range.1) ranges

-- These bytes, which stand from an offset on. Of those in the ranges the first `keep` stay, and each that follows is `fill`.
abbrev pub torn_from : ℕ → List ℕ → List (ℕ × ℕ) → ℕ → ℕ → List ℕ
torn_from place [] ranges keep fill = []
torn_from place (byte ∷ bytes) ranges keep fill = (if is_inside place ranges && (keep == 0) then fill else byte) ∷ torn_from (place + 1) bytes ranges (if is_inside place ranges then keep - 1 else keep) fill

-- what a stop leaves of a slot of whose unsynced bytes the first `keep` were kept
abbrev pub torn_slot : Slot → ℕ → ℕ → List ℕ
torn_slot s keep fill = torn_from 0 s.now s.ranges keep fill

-- the two slots after these events, torn so
pub record IsTorn (script : Script) (events : List Event) (keep fill : ℕ) (image : Image) : Type 0 where
  pub slot0 : image.slot0 ≡ torn_slot (slot_in script events 0) keep fill
  pub slot1 : image.slot1 ≡ torn_slot (slot_in script events 1) keep fill

-- a stop after these events may leave this image
pub record IsPermitted (script : Script) (events : List Event) (image : Image) : Type 0 where
  pub slot0 : Permits (slot_in script events 0) image.slot0
  pub slot1 : Permits (slot_in script events 1) image.slot1
