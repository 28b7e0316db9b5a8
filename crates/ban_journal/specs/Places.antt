-- The places in its slots that a journal writes at.
use Rattle.std.specs.Prelude.{ℕ, ◌≡◌, ◌+◌, true, Option}
use Rattle.f2b_world.specs.Told.{History, HasLength}
use Rattle.journal_slots.specs.declared.head.Head.{Head}
use Rattle.journal_slots.specs.declared.head.Head.TheVariants.{Short, Ajar, Shut}
use Rattle.slot_writes.specs.declared.position.Position.{Position}
use Rattle.slot_writes.specs.Entries.{fresh_slot}

-- how many bytes there are at least
abbrev pub least_bytes : Head → ℕ
least_bytes Short = 0
least_bytes Ajar = 1
least_bytes Shut = 1

-- no slot got shorter
pub record IsNoShorter (old new : Option History) : Type 0 where
  pub keeps : (slot n : ℕ) → HasLength old slot n → HasLength new slot n

-- the slots are as long as the journal knows of them
pub record IsPlaced (p : Position) (told : Option History) : Type 0 where
  pub current : HasLength told p.slot (least_bytes p.head)
  pub other : HasLength told (fresh_slot p) (least_bytes p.other)
  pub gate : p.grows ≡ true → HasLength told p.slot (p.gate + 1)
