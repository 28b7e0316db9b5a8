-- What is known of a slot that is read from its front.
use Rattle.std.specs.Prelude.{ℕ, ◌≡◌, ◌<◌, Option, Some, None, List, [], ◌∷◌, ◌++◌, length, take, Result, Ok, Err}
use Rattle.f2b_base.specs.declared.input.Input.{Input}
use Rattle.f2b_base.specs.declared.view.View.{View}
use Rattle.f2b_model.specs.Storable.{IsStorableInput}
use Rattle.f2b_model.specs.StorableViews.{IsStorableView}
use Rattle.f2b_world.specs.Told.{History}
use Rattle.journal_slots.specs.Fronts.{IsFront}
use Rattle.journal_slots.specs.Grammar.{Empty, Open, Bad, parse_slot}
use Rattle.journal_slots.specs.Starts.{Start, IsHead, short_bytes}
use Rattle.record_fields.specs.Codec.{IsHeld}
use Rattle.slot_reader.specs.declared.checked.Checked.{Checked}
use Rattle.slot_reader.specs.declared.checked.Checked.TheVariants.{Empty as EmptyChecked, Open as OpenChecked, Bad as BadChecked}
use Rattle.slot_reader.specs.declared.fault.Fault.{Fault}
use Rattle.slot_reader.specs.declared.opening.Opening.{Opening}
use Rattle.slot_reader.specs.declared.opening.Opening.TheVariants.{Empty as EmptyOpening, Open as OpenOpening, Bad as BadOpening}
use Rattle.slot_reader.specs.declared.reader.Next.{Next}
use Rattle.slot_reader.specs.declared.reader.Next.TheVariants.{Input as NextInput, Closed, Bad as BadNext}
use Rattle.slot_reader.specs.declared.reader.SlotReader.{SlotReader}
use Rattle.slot_reader.specs.Reads.{content}
use Rattle.slot_reader.specs.Versions.{spelling}
use Rattle.slot_reader.specs.Windows.{IsOver, IsWithin, Shows}

-- what a slot begins with that a reader is over, with this view
abbrev pub start_of : SlotReader → View → Start
start_of r v = record { generation = r.generation; version = spelling r.version; view = v }

-- Up to the reader's place the slot spells its start, and then these inputs.
pub record HasRead (r : SlotReader) (v : View) (inputs : List Input) (now : List ℕ) : Type 0 where
  pub over : IsOver r.shown now
  pub held : IsHeld now
  pub big : short_bytes < length now
  pub spelt : IsFront (start_of r v) inputs (take r.shown.place now)

-- The slot is open, spells this start and these inputs up to that place, and a closed gate stands there.
pub record EndsAt (gate : ℕ) (first : Start) (inputs : List Input) (now : List ℕ) : Type 0 where
  pub rest : List ℕ
  pub holds : now ≡ take gate now ++ 0 ∷ rest
  pub gate_is : gate ≡ length (take gate now)
  pub spelt : IsFront first inputs (take gate now)
  pub means : parse_slot now ≡ Open (record { start = first; inputs = inputs; gate = gate })

-- the next input was read, or there is none, or the slot is no journal; where reading failed the reader is where it was
abbrev pub IsNext : SlotReader → View → List Input → List ℕ → Result Next Fault → Type 0
IsNext r v inputs now (Ok (NextInput i)) = HasRead r v (inputs ++ i ∷ []) now
IsNext r v inputs now (Ok Closed) = HasRead r v inputs now × EndsAt r.shown.place (start_of r v) inputs now
IsNext r v inputs now (Ok (BadNext at)) = HasRead r v inputs now × (parse_slot now ≡ Bad r.generation at)
IsNext r v inputs now (Err fault) = HasRead r v inputs now

-- where the history is told
abbrev pub Reads : SlotReader → View → List Input → Option History → Type 0
Reads r v inputs told = (g : History) → told ≡ Some g → HasRead r v inputs (content g r.shown.slot)

abbrev pub TellsNext : SlotReader → View → List Input → Option History → Result Next Fault → Type 0
TellsNext r v inputs told result = (g : History) → told ≡ Some g → IsNext r v inputs (content g r.shown.slot) result

-- the view of a slot that is open can be stored
abbrev pub HasStorableView : Opening → Type 0
HasStorableView (OpenOpening r v) = IsStorableView v
HasStorableView _ = Unit {0}

-- an input that is given can be stored
abbrev pub HasStorableInput : Next → Type 0
HasStorableInput (NextInput i) = IsStorableInput i
HasStorableInput _ = Unit {0}

-- an input takes the reader further
abbrev pub GoesOn : SlotReader → SlotReader → Next → Type 0
GoesOn old new (NextInput i) = old.shown.place < new.shown.place
GoesOn old new _ = Unit {0}

-- the same slot, of the same start
pub record IsSameSlot (old new : SlotReader) : Type 0 where
  pub slot : new.shown.slot ≡ old.shown.slot
  pub long : new.shown.long ≡ old.shown.long
  pub generation : new.generation ≡ old.generation
  pub version : new.version ≡ old.version

-- the reader of a slot that was opened is over that slot
abbrev pub Stands : ℕ → Opening → Option History → Type 0
Stands slot (OpenOpening r v) told = (r.shown.slot ≡ slot) × IsWithin r.shown × Shows r.shown told
Stands slot _ told = Unit {0}

-- what a slot is that was opened
abbrev pub IsOpened : List ℕ → Opening → Type 0
IsOpened now (EmptyOpening head) = (parse_slot now ≡ Empty) × IsHead head now
IsOpened now (OpenOpening r v) = HasRead r v [] now
IsOpened now (BadOpening number at) = parse_slot now ≡ Bad number at

-- what a slot is that was read to its end
abbrev pub IsChecked : List ℕ → Checked → Type 0
IsChecked now (EmptyChecked head) = (parse_slot now ≡ Empty) × IsHead head now
IsChecked now (OpenChecked o) =
    (first : Start) × (inputs : List Input) × (first.generation ≡ o.generation) × (first.version ≡ spelling o.version) × EndsAt o.gate first inputs now
IsChecked now (BadChecked number at) = parse_slot now ≡ Bad number at

-- where the history is told, P holds of what the slot holds, which is no longer than a machine can hold
abbrev pub IsTold : (List ℕ → Type 0) → ℕ → Option History → Type 0
IsTold P slot told = (g : History) → told ≡ Some g → IsHeld (content g slot) × P (content g slot)

-- what the slot is to its end, where the reader is there
abbrev pub ended_by : SlotReader → Next → Option Checked
ended_by r (NextInput i) = None
ended_by r Closed = Some (OpenChecked (record { generation = r.generation; version = r.version; gate = r.shown.place }))
ended_by r (BadNext at) = Some (BadChecked r.generation at)
