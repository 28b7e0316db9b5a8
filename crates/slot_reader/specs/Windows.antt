-- A window over a slot: bytes of it, from a place on.
use Rattle.std.specs.Prelude.{ℕ, ◌≡◌, ◌+◌, ◌≤◌, ◌<◌, ◌^◌, Option, Some, List, length, take, drop}
use Rattle.f2b_world.specs.Told.{History}
use Rattle.slot_reader.specs.Reads.{content}

pub record Window : Type 0 where
  pub slot : ℕ
  -- how long the slot is
  pub long : ℕ
  -- where in the slot the window begins
  pub place : ℕ
  pub bytes : List ℕ

-- it ends within the slot, which is no longer than a machine can hold
pub record IsWithin (w : Window) : Type 0 where
  pub ends : w.place + length w.bytes ≤ w.long
  pub small : w.long < 2 ^ 64

-- all that is left of the slot is in the window
abbrev pub IsWhole : Window → Type 0
IsWhole w = w.place + length w.bytes ≡ w.long

-- the slot is so long, and its bytes from the place on are those of the window, as far as it goes
pub record IsOver (w : Window) (now : List ℕ) : Type 0 where
  pub long : w.long ≡ length now
  pub bytes : w.bytes ≡ take (length w.bytes) (drop w.place now)

-- where the history is told, the window is over what its slot holds
abbrev pub Shows : Window → Option History → Type 0
Shows w told = (g : History) → told ≡ Some g → IsOver w (content g w.slot)

-- the same place of the same slot
pub record IsAtPlaceOf (old new : Window) : Type 0 where
  pub slot : new.slot ≡ old.slot
  pub long : new.long ≡ old.long
  pub place : new.place ≡ old.place
