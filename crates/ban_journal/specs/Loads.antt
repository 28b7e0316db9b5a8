-- What a load tells of both slots.
use Rattle.std.specs.Prelude.{ℕ, ◌≡◌, ◌<◌, ◌-◌, true, false, Bool, Option, Some, None, List, [], ◌∷◌, ◌++◌, Result, Ok, Err}
use Rattle.f2b_base.specs.declared.input.Input.{Input}
use Rattle.f2b_base.specs.declared.view.View.{View}
use Rattle.f2b_world.specs.Slots.{settled}
use Rattle.f2b_world.specs.Told.{History, slot_of}
use Rattle.journal_slots.specs.Grammar.{Opened, Open, parse_slot}
use Rattle.journal_slots.specs.Starts.{IsHead}
use Rattle.journal_slots.specs.Tops.{Stored, NoJournal, meaning, IsOlder}
use Rattle.slot_reader.specs.declared.fault.Fault.{Fault}
use Rattle.slot_reader.specs.declared.fault.Fault.TheVariants.{Disk as FaultDisk, NoMemory as FaultMemory}
use Rattle.slot_reader.specs.declared.reader.SlotReader.{SlotReader}
use Rattle.slot_reader.specs.Reads.{content}
use Rattle.slot_reader.specs.Readings.{HasRead}
use Rattle.slot_reader.specs.Windows.{Shows}
use Rattle.slot_writes.specs.declared.position.Position.{Position}
use Rattle.slot_writes.specs.Entries.{fresh_slot}
use Rattle.slot_writes.specs.Rests.{IsTop, IsOpenAt, IsAtRest}
use Rattle.ban_journal.specs.declared.load.Loaded.{Loaded}
use Rattle.ban_journal.specs.declared.load.StoredInputs.{StoredInputs}
use Rattle.ban_journal.specs.declared.load_error.LoadError.{LoadError}
use Rattle.ban_journal.specs.declared.load_error.LoadError.TheVariants.{DiskFault, NotAJournal, NoMemory}
use Rattle.ban_journal.specs.Positions.{top_in, IsAtTop}

-- of the history, where it is told
abbrev pub WhereTold : Option History → (History → Type 0) → Type 0
WhereTold told P = (g : History) → told ≡ Some g → P g

abbrev pub load_error : Fault → LoadError
load_error FaultDisk = DiskFault
load_error FaultMemory = NoMemory

-- whether the disk failed
abbrev pub is_fault : {X : Type 0} → Result X LoadError → Bool
is_fault (Err DiskFault) = true
is_fault _ = false

-- ---- where a journal stands

-- What is known of two slots that are a journal: where it stands, how both slots begin, and what was stored.
pub record StandsOver (limit : ℕ) (p : Position) (stored : Stored) (now : ℕ → List ℕ) : Type 0 where
  pub at : IsAtTop limit now p (top_in now)
  pub means : meaning now ≡ Some stored
  pub head : IsHead p.head (now p.slot)
  pub top : IsTop p.generation stored (parse_slot (now p.slot))
  pub grows : p.grows ≡ true → IsOpenAt p.gate p.generation stored (now p.slot)
  pub other : IsHead p.other (now (fresh_slot p))
  pub older : IsOlder p.generation (parse_slot (now (fresh_slot p)))

-- where the journal stands, or which slot is no journal
abbrev pub IsFound : ℕ → (ℕ → List ℕ) → Result Position LoadError → Type 0
IsFound limit now (Ok p) = (stored : Stored) × StandsOver limit p stored now
IsFound limit now (Err (NotAJournal slot at)) = top_in now ≡ NoJournal slot at
IsFound limit now (Err _) = ⊥

-- ---- inputs that are read one by one

-- The slot is open. Its inputs are those that were read, and then these.
pub record StandBehind (r : SlotReader) (left : List Input) (now : List ℕ) : Type 0 where
  pub view : View
  pub before : List Input
  pub opened : Opened
  pub read : HasRead r view before now
  pub parsed : parse_slot now ≡ Open opened
  pub inputs : opened.inputs ≡ before ++ left

abbrev pub AreLeftIn : Option SlotReader → List Input → (ℕ → List ℕ) → Type 0
AreLeftIn None left now = left ≡ []
AreLeftIn (Some r) left now = StandBehind r left (now r.shown.slot)

-- these inputs were not given yet
abbrev pub AreLeft : StoredInputs → List Input → (ℕ → List ℕ) → Type 0
AreLeft s left now = AreLeftIn s.reader left now

-- the first of those that were left was given, or none was left
abbrev pub IsGiven : StoredInputs → List Input → (ℕ → List ℕ) → Result (Option Input) LoadError → Type 0
IsGiven s left now (Ok (Some i)) = (rest : List Input) × (left ≡ i ∷ rest) × AreLeft s rest now
IsGiven s left now (Ok None) = left ≡ []
IsGiven s left now (Err (NotAJournal slot at)) = ⊥
IsGiven s left now (Err _) = AreLeft s left now

abbrev pub IsThere : Option SlotReader → Option History → Type 0
IsThere None told = Unit {0}
IsThere (Some r) told = Shows r.shown told

-- how many bytes of the slot were not read yet
abbrev pub left_in : Option SlotReader → ℕ
left_in None = 0
left_in (Some r) = r.shown.long - r.shown.place

-- how many bytes are left to be read
abbrev pub bytes_left : StoredInputs → ℕ
bytes_left s = left_in s.reader

-- the slot that they are read from is as it was
abbrev pub AreThere : StoredInputs → Option History → Type 0
AreThere s told = IsThere s.reader told

-- of what was stored the view was read, and no input yet
abbrev pub IsBegun : Stored → (ℕ → List ℕ) → Result (View × StoredInputs) LoadError → Type 0
IsBegun stored now (Ok x) = (x.0 ≡ stored.view) × AreLeft x.1 stored.inputs now
IsBegun stored now (Err (NotAJournal slot at)) = ⊥
IsBegun stored now (Err _) = Unit {0}

-- ---- a journal that was loaded

-- no write is unsynced
abbrev pub AreSettled : History → Type 0
AreSettled g = (slot : ℕ) → slot < 2 → slot_of g slot ≡ settled (content g slot)

-- What both slots mean was loaded, the view and the inputs, of which none was given yet. The journal is at the slot that counts, and
-- where nothing is unsynced it is at rest.
pub record HasLoaded (limit : ℕ) (l : Loaded) (g : History) : Type 0 where
  pub inputs : List Input
  pub means : meaning (content g) ≡ Some (record { view = l.view; inputs = inputs })
  pub left : AreLeft l.inputs inputs (content g)
  pub at : IsAtTop limit (content g) l.journal (top_in (content g))
  pub rests : AreSettled g → IsAtRest l.journal (record { view = l.view; inputs = inputs }) g

-- a journal was loaded, or this slot is no journal, at that place
abbrev pub IsLoaded : ℕ → History → Result Loaded LoadError → Type 0
IsLoaded limit g (Ok l) = HasLoaded limit l g
IsLoaded limit g (Err (NotAJournal slot at)) = top_in (content g) ≡ NoJournal slot at
IsLoaded limit g (Err _) = Unit {0}
