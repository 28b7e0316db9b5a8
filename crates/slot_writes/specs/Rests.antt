-- When a journal is at rest, and what both slots mean then, whatever a stop leaves of each of them.
use Rattle.std.specs.Prelude.{ℕ, ◌≡◌, ◌<◌, ◌⊎◌, true, List, [], ◌∷◌, ◌++◌, length, Option, Some}
use Rattle.f2b_base.specs.declared.input.Input.{Input}
use Rattle.f2b_base.specs.declared.view.View.{View}
use Rattle.f2b_model.specs.Views.{empty_view}
use Rattle.f2b_world.specs.Slots.{Permits, settled}
use Rattle.f2b_world.specs.Told.{History, slot_of}
use Rattle.journal_slots.specs.Fronts.{IsFront}
use Rattle.journal_slots.specs.Grammar.{Parsed, Empty, Open, Bad, parse_slot}
use Rattle.journal_slots.specs.Starts.{Start, IsHead}
use Rattle.journal_slots.specs.Tops.{Stored, meaning, IsOlder}
use Rattle.record_codec.specs.declared.version.Version.TheVariants.{Two}
use Rattle.record_fields.specs.Codec.{IsHeld}
use Rattle.slot_writes.specs.declared.position.Position.{Position}
use Rattle.slot_writes.specs.Entries.{fresh_slot}

-- A stop may leave this image: each slot by itself is one that it may leave of that slot.
abbrev pub PermitsBoth : History → (ℕ → List ℕ) → Type 0
PermitsBoth g image = (slot : ℕ) → slot < 2 → Permits (slot_of g slot) (image slot)

-- nothing was stored yet
abbrev pub nothing_stored : Stored
nothing_stored = record { view = empty_view; inputs = [] }

-- the same, and an input more
abbrev pub and_input : Stored → Input → Stored
and_input stored i = record { view = stored.view; inputs = stored.inputs ++ i ∷ [] }

-- a view and no input
abbrev pub just_view : View → Stored
just_view v = record { view = v; inputs = [] }

-- what the current slot means
abbrev pub IsTop : ℕ → Stored → Parsed → Type 0
IsTop number stored Empty = (number ≡ 0) × (stored ≡ nothing_stored)
IsTop number stored (Open o) = (o.start.generation ≡ number) × (stored ≡ record { view = o.start.view; inputs = o.inputs })
IsTop number stored (Bad other at) = ⊥

-- the slot is open, in the version that is written, and its closed gate stands there
pub record IsOpenAt (gate number : ℕ) (stored : Stored) (content : List ℕ) : Type 0 where
  pub start : Start
  pub front : List ℕ
  pub rest : List ℕ
  pub version : start.version ≡ Two
  pub number_is : start.generation ≡ number
  pub view_is : start.view ≡ stored.view
  pub holds : content ≡ front ++ 0 ∷ rest
  pub gate_is : gate ≡ length front
  pub spelt : IsFront start stored.inputs front

-- nothing is unsynced, and the slots mean what was stored
pub record IsAtRest (p : Position) (stored : Stored) (g : History) : Type 0 where
  pub content : List ℕ
  pub past : List ℕ
  pub slot : p.slot < 2
  pub holds : slot_of g p.slot ≡ settled content
  pub held : IsHeld content
  pub head : IsHead p.head content
  pub top : IsTop p.generation stored (parse_slot content)
  pub grows : p.grows ≡ true → IsOpenAt p.gate p.generation stored content
  pub beside : slot_of g (fresh_slot p) ≡ settled past
  pub past_held : IsHeld past
  pub past_head : IsHead p.other past
  pub older : IsOlder p.generation (parse_slot past)

-- as long as the disk tells
abbrev pub Rests : Position → Stored → Option History → Type 0
Rests p stored told = (g : History) → told ≡ Some g → IsAtRest p stored g

-- whatever a stop leaves means the one or the other
abbrev pub MeansEither : Stored → Stored → History → Type 0
MeansEither before after g = (image : ℕ → List ℕ) → PermitsBoth g image → (meaning image ≡ Some before) ⊎ (meaning image ≡ Some after)

-- whatever a stop leaves means this
abbrev pub Means : Stored → History → Type 0
Means stored g = (image : ℕ → List ℕ) → PermitsBoth g image → meaning image ≡ Some stored

-- whatever a stop leaves means one of three
abbrev pub MeansOneOf : Stored → Stored → Stored → History → Type 0
MeansOneOf before middle after g =
    (image : ℕ → List ℕ) → PermitsBoth g image → (meaning image ≡ Some before) ⊎ ((meaning image ≡ Some middle) ⊎ (meaning image ≡ Some after))
