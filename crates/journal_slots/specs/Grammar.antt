-- What the bytes of a slot say. A reader gives a value and the bytes after it, or how many bytes are left where the first field stands
-- that has no reading.
use Rattle.std.specs.Prelude.{ℕ, zero, suc, ◌+◌, ◌-◌, ◌==◌, ◌||◌, nat_lt, if◌then◌else◌, List, [], ◌∷◌, length, Result, Ok, Err}
use Rattle.f2b_base.specs.declared.input.Input.{Input}
use Rattle.record_codec.specs.declared.version.Version.{Version}
use Rattle.record_codec.specs.Inputs.{input}
use Rattle.record_fields.specs.Codec.{◌>>=◌, Reads}
use Rattle.journal_slots.specs.Starts.{Start, start, generation, short_bytes}

-- an open slot; `gate` is the place of its closed gate
pub record Opened : Type 0 where
  pub start : Start
  pub inputs : List Input
  pub gate : ℕ

pub data Parsed : Type 0 where
  Empty : Parsed
  Open : Opened → Parsed
  -- its generation, 0 where that has no reading, and the place of the first field that has none
  Bad : ℕ → ℕ → Parsed

-- from a gate on: an input behind each open gate; the first closed gate ends it
unfoldable pub inputs_at : Version → ℕ → Reads (List Input)
inputs_at version zero bytes = Err (length bytes)
inputs_at version (suc n) [] = Err 0
inputs_at version (suc n) (gate ∷ bytes) =
    if gate == 0 then Ok ([], gate ∷ bytes) else ((input version).read bytes >>= λ x. inputs_at version n x.1 >>= λ r. Ok (x.0 ∷ r.0, r.1))

-- behind the slot's own gate
unfoldable pub opened_at : List ℕ → Result Opened ℕ
opened_at bytes = start.read bytes >>= λ s. inputs_at s.0.version (length s.1 + 1) s.1 >>= λ r.
    Ok (record { start = s.0; inputs = r.0; gate = length bytes + 1 - length r.1 })

-- the generation behind the slot's own gate, or 0 where it has no reading
abbrev pub number_of : Result (ℕ × List ℕ) ℕ → ℕ
number_of (Ok x) = x.0
number_of (Err left) = 0

abbrev pub parsed_of : ℕ → ℕ → Result Opened ℕ → Parsed
parsed_of number long (Ok o) = Open o
parsed_of number long (Err left) = Bad number (long - left)

unfoldable pub parse_slot : List ℕ → Parsed
parse_slot [] = Empty
parse_slot (gate ∷ bytes) =
    if gate == 0 || nat_lt (length bytes) short_bytes then Empty else parsed_of (number_of (generation.read bytes)) (length bytes + 1) (opened_at bytes)
