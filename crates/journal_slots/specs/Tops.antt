-- Which of two slots counts, and what both mean.
use Rattle.std.specs.Prelude.{ℕ, ◌<◌, ◌==◌, nat_lt, if◌then◌else◌, List, [], Option, Some, None}
use Rattle.f2b_base.specs.declared.input.Input.{Input}
use Rattle.f2b_base.specs.declared.view.View.{View}
use Rattle.f2b_model.specs.Views.{empty_view}
use Rattle.journal_slots.specs.Grammar.{Opened, Parsed, Empty, Open, Bad, parse_slot}

-- the slot that counts, with its number; none where none is open; or the slot and the place that is no journal
pub data Top : Type 0 where
  NoneOpen : Top
  Newest : ℕ → Opened → Top
  NoJournal : ℕ → ℕ → Top

-- Two open slots of one generation are no journal, at the generation of slot 1.
abbrev pub top_of : Parsed → Parsed → Top
top_of (Bad number at) other = NoJournal 0 at
top_of Empty Empty = NoneOpen
top_of Empty (Open b) = Newest 1 b
top_of Empty (Bad number at) = NoJournal 1 at
top_of (Open a) Empty = Newest 0 a
top_of (Open a) (Open b) =
    if a.start.generation == b.start.generation then NoJournal 1 1
    else if nat_lt b.start.generation a.start.generation then Newest 0 a else Newest 1 b
top_of (Open a) (Bad number at) = if a.start.generation == number then NoJournal 1 1 else NoJournal 1 at

-- what was stored: a view, and the inputs that came after it
pub record Stored : Type 0 where
  pub view : View
  pub inputs : List Input

-- The view is the empty one where no slot is open, and there is none where the slots are no journal.
abbrev pub stored_in : Top → Option Stored
stored_in NoneOpen = Some (record { view = empty_view; inputs = [] })
stored_in (Newest slot o) = Some (record { view = o.start.view; inputs = o.inputs })
stored_in (NoJournal slot at) = None

-- what the bytes of both slots mean
abbrev pub meaning : (ℕ → List ℕ) → Option Stored
meaning image = stored_in (top_of (parse_slot (image 0)) (parse_slot (image 1)))

-- in the grammar, and of a smaller generation than this
abbrev pub IsOlder : ℕ → Parsed → Type 0
IsOlder number Empty = Unit {0}
IsOlder number (Open o) = o.start.generation < number
IsOlder number (Bad other at) = ⊥
