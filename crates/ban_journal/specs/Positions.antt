-- Where a journal stands, by the bytes of both slots.
use Rattle.std.specs.Prelude.{ℕ, ◌≡◌, ◌-◌, ◌==◌, nat_lt, Bool, true, false, if◌then◌else◌, List, [], ◌∷◌, length}
use Rattle.journal_slots.specs.declared.head.Head.{Head}
use Rattle.journal_slots.specs.declared.head.Head.TheVariants.{Short, Ajar, Shut}
use Rattle.journal_slots.specs.Grammar.{Opened, parse_slot}
use Rattle.journal_slots.specs.Starts.{short_bytes}
use Rattle.journal_slots.specs.Tops.{Top, NoneOpen, Newest, NoJournal, top_of}
use Rattle.record_codec.specs.declared.version.Version.{Version}
use Rattle.record_codec.specs.declared.version.Version.TheVariants.{One, Two}
use Rattle.slot_writes.specs.declared.position.Position.{Position}

-- how the bytes of a slot begin
abbrev pub head_of : List ℕ → Head
head_of [] = Short
head_of (gate ∷ bytes) = if nat_lt (length bytes) short_bytes then Short else if gate == 0 then Shut else Ajar

-- no slot is open, so slot 0 is written first
abbrev pub position_unopened : ℕ → (ℕ → List ℕ) → Position
position_unopened limit slots = record {
  limit = limit;
  slot = 1;
  generation = 0;
  grows = false;
  gate = 0;
  head = head_of (slots 1);
  other = head_of (slots 0);
}

-- inputs are added to a slot of the version that is written
abbrev pub is_written_now : Version → Bool
is_written_now One = false
is_written_now Two = true

-- this slot counts
abbrev pub position_in : ℕ → (ℕ → List ℕ) → ℕ → Opened → Position
position_in limit slots slot o = record {
  limit = limit;
  slot = slot;
  generation = o.start.generation;
  grows = is_written_now o.start.version;
  gate = o.gate;
  head = head_of (slots slot);
  other = head_of (slots (1 - slot));
}

-- which slot counts
abbrev pub top_in : (ℕ → List ℕ) → Top
top_in slots = top_of (parse_slot (slots 0)) (parse_slot (slots 1))

-- The journal stands at the slot that counts, or where none is open before the first; where a slot is no journal it stands nowhere.
abbrev pub IsAtTop : ℕ → (ℕ → List ℕ) → Position → Top → Type 0
IsAtTop limit slots p NoneOpen = p ≡ position_unopened limit slots
IsAtTop limit slots p (Newest slot o) = p ≡ position_in limit slots slot o
IsAtTop limit slots p (NoJournal slot at) = ⊥
