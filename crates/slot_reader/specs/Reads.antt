-- What calls tell that read the disk.
use Rattle.std.specs.Prelude.{ℕ, ◌≡◌, ◌≢◌, ◌≤◌, ◌<◌, Bool, true, false, Option, Some, List, [], ◌∷◌, ◌++◌, length, take, drop, Result, Err}
use Rattle.f2b_model.specs.Lists.{AllOf}
use Rattle.f2b_world.specs.declared.answer.Len.TheVariants.{Bytes as LenBytes, Failed as LenFailed}
use Rattle.f2b_world.specs.declared.answer.Piece.TheVariants.{Bytes as PieceBytes, Failed as PieceFailed}
use Rattle.f2b_world.specs.declared.event.Event.{Event}
use Rattle.f2b_world.specs.declared.event.Event.TheVariants.{DiskLen, DiskRead}
use Rattle.f2b_world.specs.Bounds.{IsBounded}
use Rattle.f2b_world.specs.Faults.{Fault as Kind, OfDisk, Rose}
use Rattle.f2b_world.specs.Told.{History, Standing, Adds, IsHonest, Leaves, grown, slot_of}
use Rattle.slot_reader.specs.declared.fault.Fault.{Fault}
use Rattle.slot_reader.specs.declared.fault.Fault.TheVariants.{Disk}

-- what a slot holds at the end of a history
abbrev pub content : History → ℕ → List ℕ
content g slot = (slot_of g slot).now

-- a question for the length of slot 0 or 1, or a read of it, that was answered
abbrev pub IsDone : Event → Type 0
IsDone (DiskLen slot (LenBytes long)) = slot < 2
IsDone (DiskRead slot at len (PieceBytes piece)) = slot < 2
IsDone _ = ⊥

-- one that failed
abbrev pub IsFailed : Event → Type 0
IsFailed (DiskLen slot LenFailed) = slot < 2
IsFailed (DiskRead slot at len PieceFailed) = slot < 2
IsFailed _ = ⊥

-- each was answered
abbrev pub AreDone : List Event → Type 0
AreDone es = AllOf IsDone es

-- each was answered but for the last one, which failed
pub record AreBroken (es : List Event) : Type 0 where
  pub first : List Event
  pub one : Event
  pub parts : es ≡ first ++ one ∷ []
  pub done : AreDone first
  pub failed : IsFailed one

-- slots were read, up to the call that failed, or none did
abbrev pub AreReads : Bool → List Event → Type 0
AreReads false es = AreDone es
AreReads true es = AreBroken es

-- the answer of each is true of what was before it, and its numbers and bytes fit their types
abbrev pub AreTrue : History → List Event → Type 0
AreTrue g [] = Unit {0}
AreTrue g (event ∷ events) = IsHonest g event × IsBounded event × AreTrue (grown g (event ∷ [])) events

-- whether a fault of the disk was counted
abbrev pub CountsFault : Bool → Standing → Standing → Type 0
CountsFault false old new = new.faults OfDisk ≡ old.faults OfDisk
CountsFault true old new = Rose (old.faults OfDisk) (new.faults OfDisk)

-- The disk was read, up to a call that failed or to the end, and nothing but that was done; where one failed it was counted.
pub record OnlyReads (failed : Bool) (old new : Standing) : Type 0 where
  pub told : Adds old.told new.told (λ g es. AreReads failed es × AreTrue g es)
  pub leaves : Leaves old new
  pub steady : (kind : Kind) → old.faults kind ≤ new.faults kind
  pub still : (kind : Kind) → kind ≢ OfDisk → new.faults kind ≡ old.faults kind
  pub counted : CountsFault failed old new

-- whether the disk failed
abbrev pub is_fault : {X : Type 0} → Result X Fault → Bool
is_fault (Err Disk) = true
is_fault _ = false

-- where the history is told, the slot is so long
abbrev pub IsAllOf : ℕ → ℕ → Option History → Type 0
IsAllOf slot long told = (g : History) → told ≡ Some g → long ≡ length (content g slot)

-- where the history is told, these bytes stand in the slot from that place on
abbrev pub IsPieceAt : ℕ → ℕ → ℕ → List ℕ → Option History → Type 0
IsPieceAt slot at len piece told = (g : History) → told ≡ Some g → piece ≡ take len (drop at (content g slot))
