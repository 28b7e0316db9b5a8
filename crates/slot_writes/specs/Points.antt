-- What a slot is at each point of a run of calls on it.
use Rattle.std.specs.Prelude.{◌<◌, ◌+◌, ◌^◌, List, [], ◌∷◌, length}
use Rattle.f2b_world.specs.Slots.{Slot, write_to, synced_now, greatest_end}
use Rattle.slot_writes.specs.Writes.{Write, Put, Sync}

-- the slot after a call on it
abbrev pub after_call : Slot → Write → Slot
after_call s (Put slot at bytes) = write_to s at bytes
after_call s (Sync slot) = synced_now s

abbrev pub after_calls : Slot → List Write → Slot
after_calls s [] = s
after_calls s (w ∷ ws) = after_calls (after_call s w) ws

-- P holds of the slot before the calls, and after each of them
abbrev pub AllPoints : (Slot → Type 0) → Slot → List Write → Type 0
AllPoints P s [] = P s
AllPoints P s (w ∷ ws) = P s × AllPoints P (after_call s w) ws

-- all that a stop may leave of the slot is as long as a machine can hold
pub record IsWithin (s : Slot) : Type 0 where
  pub now : length s.now < 2 ^ 64
  pub synced : length s.synced < 2 ^ 64
  pub ends : greatest_end s.ranges < 2 ^ 64

-- no call writes past what a machine can hold
abbrev pub AreShort : List Write → Type 0
AreShort [] = Unit {0}
AreShort (Put slot at bytes ∷ ws) = (at + length bytes < 2 ^ 64) × AreShort ws
AreShort (Sync slot ∷ ws) = AreShort ws
