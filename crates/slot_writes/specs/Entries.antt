-- The calls that write an input, and where the journal stands then.
use Rattle.std.specs.Prelude.{ℕ, ◌+◌, ◌-◌, ◌&&◌, nat_le, nat_lt, Bool, true, if◌then◌else◌, List, [], ◌∷◌, ◌++◌, length, replicate}
use Rattle.f2b_base.specs.declared.input.Input.{Input}
use Rattle.f2b_base.specs.declared.view.View.{View}
use Rattle.journal_slots.specs.declared.head.Head.{Head}
use Rattle.journal_slots.specs.declared.head.Head.TheVariants.{Short, Ajar, Shut}
use Rattle.journal_slots.specs.Starts.{Start, start, last_generation}
use Rattle.record_codec.specs.declared.version.Version.TheVariants.{Two}
use Rattle.record_codec.specs.Inputs.{input}
use Rattle.record_codec.specs.Views.{view}
use Rattle.slot_writes.specs.declared.position.Position.{Position}
use Rattle.slot_writes.specs.Writes.{Write, Put, Sync}

-- the slot that is not current
abbrev pub fresh_slot : Position → ℕ
fresh_slot p = 1 - p.slot

abbrev pub input_bytes : Input → List ℕ
input_bytes i = (input Two).spell i

-- an input, and the closed gate behind it
abbrev pub entry : Input → List ℕ
entry i = input_bytes i ++ 0 ∷ []

-- bytes behind the closed gate at that place, and then the gate
abbrev pub behind_gate : ℕ → ℕ → List ℕ → List Write
behind_gate slot gate bytes = Put slot (gate + 1) bytes ∷ Sync slot ∷ Put slot gate (1 ∷ []) ∷ Sync slot ∷ []

-- with the input and the closed gate behind it the slot is no longer than the limit
abbrev pub fits : Position → Input → Bool
fits p i = p.grows && nat_le (p.gate + 1 + length (input_bytes i) + 1) p.limit

abbrev pub append_writes : Position → Input → List Write
append_writes p i = behind_gate p.slot p.gate (entry i)

abbrev pub appended : Position → Input → Position
appended p i = record p { gate = p.gate + length (input_bytes i) + 1 }

-- A change of slots: the other slot is cleared and gets a view, its gate is opened, and the input comes behind that.

abbrev pub clearing : ℕ → Head → List Write
clearing slot Short = Put slot 0 (replicate 16 0) ∷ Sync slot ∷ []
clearing slot Ajar = Put slot 0 (0 ∷ []) ∷ Sync slot ∷ []
clearing slot Shut = []

abbrev pub fresh_start : Position → View → Start
fresh_start p v = record { generation = p.generation + 1; version = Two; view = v }

-- generation, version and view, and the closed gate behind them
abbrev pub body : Start → List ℕ
body s = start.spell s ++ 0 ∷ []

abbrev pub turn_calls : ℕ → Head → List ℕ → List ℕ → List Write
turn_calls slot head whole bytes = clearing slot head ++ (behind_gate slot 0 whole ++ behind_gate slot (length whole) bytes)

abbrev pub turn_writes : Position → View → Input → List Write
turn_writes p v i = turn_calls (fresh_slot p) p.other (body (fresh_start p v)) (entry i)

abbrev pub turned : Position → View → Input → Position
turned p v i = record {
  limit = p.limit;
  slot = fresh_slot p;
  generation = p.generation + 1;
  grows = true;
  gate = length (body (fresh_start p v)) + length (input_bytes i) + 1;
  head = Ajar;
  other = p.head;
}

-- the room that a fresh slot needs
abbrev pub need : View → Input → ℕ
need v i = length ((view Two).spell v) + length (input_bytes i) + 12

-- What becomes of an input: these calls write it, or there is no room, or the generations are used up.
pub data Entry : Type 0 where
  Written : Position → List Write → Entry
  Full : ℕ → Entry
  Spent : Entry

abbrev pub turn_entry : Position → View → Input → Entry
turn_entry p v i =
    if nat_lt p.limit (need v i) then Full (need v i)
    else if nat_le last_generation p.generation then Spent else Written (turned p v i) (turn_writes p v i)

-- the view is that before the input
abbrev pub entry_of : Position → View → Input → Entry
entry_of p v i = if fits p i then Written (appended p i) (append_writes p i) else turn_entry p v i
