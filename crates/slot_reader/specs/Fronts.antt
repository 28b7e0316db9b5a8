-- What stands at the front of a window.
use Rattle.std.specs.Prelude.{ℕ, Bool, true, false, ◌≡◌, ◌+◌, ◌-◌, ◌<◌, ◌⊎◌, List, [], ◌∷◌, ◌++◌, length, Err}
use Rattle.journal_slots.specs.Grammar.{number_of}
use Rattle.journal_slots.specs.Starts.{Start, start, generation}
use Rattle.record_codec.specs.declared.version.Version.{Version as Spelling}
use Rattle.record_codec.specs.Inputs.{input}
use Rattle.slot_reader.specs.declared.item.Item.{Item}
use Rattle.slot_reader.specs.declared.item.Item.TheVariants.{Closed, Taken, Bad as BadItem}
use Rattle.slot_reader.specs.declared.lead.Begun.{Begun}
use Rattle.slot_reader.specs.declared.lead.Lead.{Lead}
use Rattle.slot_reader.specs.declared.lead.Lead.TheVariants.{Shut, Opens, Bad as BadLead}
use Rattle.slot_reader.specs.Versions.{spelling}

abbrev pub start_in : Begun → Start
start_in b = record { generation = b.generation; version = spelling b.version; view = b.view }

-- what stands at the front of bytes, from the slot's own gate on
abbrev pub IsLead : List ℕ → Lead → Type 0
IsLead bytes Shut = (rest : List ℕ) × (bytes ≡ 0 ∷ rest)
IsLead bytes (Opens b len) =
    (gate : ℕ) × (rest : List ℕ) × (0 < gate) × start.Fits (start_in b) × (bytes ≡ gate ∷ start.spell (start_in b) ++ rest) × (len ≡ length (start.spell (start_in b)) + 1)
IsLead bytes (BadLead number at) =
    ((bytes ≡ []) × (at ≡ 0)) ⊎ ((gate : ℕ) × (behind : List ℕ) × (left : ℕ) × (0 < gate) × (bytes ≡ gate ∷ behind) × (start.read behind ≡ Err left) × (at ≡ length bytes - left)
    × (number ≡ number_of (generation.read behind)))

-- what stands at the front of bytes, from a gate behind a record on
abbrev pub IsItem : Spelling → List ℕ → Item → Type 0
IsItem version bytes Closed = (rest : List ℕ) × (bytes ≡ 0 ∷ rest)
IsItem version bytes (Taken i len) =
    (gate : ℕ) × (rest : List ℕ) × (0 < gate) × (input version).Fits i × (bytes ≡ gate ∷ (input version).spell i ++ rest) × (len ≡ length ((input version).spell i) + 1)
IsItem version bytes (BadItem at) =
    ((bytes ≡ []) × (at ≡ 0)) ⊎ ((gate : ℕ) × (behind : List ℕ) × (left : ℕ) × (0 < gate) × (bytes ≡ gate ∷ behind) × ((input version).read behind ≡ Err left) × (at ≡ length bytes - left))

-- whether it is that whatever follows
abbrev pub is_clear_lead : Lead → Bool
is_clear_lead (BadLead number at) = false
is_clear_lead _ = true

abbrev pub is_clear_item : Item → Bool
is_clear_item (BadItem at) = false
is_clear_item _ = true
