-- What whatever a stop leaves means while an input is written.
use Rattle.std.specs.Prelude.{ℕ, Option, take}
use Rattle.f2b_base.specs.declared.input.Input.{Input}
use Rattle.f2b_base.specs.declared.view.View.{View}
use Rattle.f2b_model.specs.Storable.{IsStorableInput}
use Rattle.f2b_world.specs.Told.{History, Adds, grown}
use Rattle.journal_slots.specs.Tops.{Stored}
use Rattle.record_codec.specs.Views.{IsRecordedView}
use Rattle.slot_writes.specs.declared.position.Position.{Position}
use Rattle.slot_writes.specs.Rests.{Rests, MeansEither, MeansOneOf, and_input, just_view}

-- after each number of events it means the one or the other
pub record KeepsEither (before after : Stored) (old new : Option History) : Type 0 where
  pub points : Adds old new (λ g es. (k : ℕ) → MeansEither before after (grown g (take k es)))

-- after each number of events it means one of three
pub record KeepsOneOf (before middle after : Stored) (old new : Option History) : Type 0 where
  pub points : Adds old new (λ g es. (k : ℕ) → MeansOneOf before middle after (grown g (take k es)))

-- An append keeps what was stored, and has the input once it is done.
abbrev pub Appends : Position → Input → Option History → Option History → Type 0
Appends p i old new = (stored : Stored) → IsStorableInput i → Rests p stored old → KeepsEither stored (and_input stored i) old new

-- A change of slots keeps what was stored, or has the new view, or that and the input.
abbrev pub TurnsOver : Position → View → Input → Option History → Option History → Type 0
TurnsOver p v i old new =
    (stored : Stored) → IsRecordedView v → IsStorableInput i → Rests p stored old → KeepsOneOf stored (just_view v) (and_input (just_view v) i) old new

-- Once an append is done the journal is at rest.
abbrev pub RestsAppended : Position → Input → Option History → Option History → Position → Type 0
RestsAppended p i old new after = (stored : Stored) → IsStorableInput i → Rests p stored old → Rests after (and_input stored i) new

-- Once a change of slots is done the journal is at rest.
abbrev pub RestsTurned : Position → View → Input → Option History → Option History → Position → Type 0
RestsTurned p v i old new after = (stored : Stored) → IsRecordedView v → IsStorableInput i → Rests p stored old → Rests after (and_input (just_view v) i) new
