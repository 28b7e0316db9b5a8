-- Worked rows of what is written, computed.
use Rattle.std.proofs.Common.{◌≡◌, ℕ, true, false, List, [], ◌∷◌, ◌++◌, replicate, refl}
use Rattle.f2b_base.specs.declared.input.Input.{Input}
use Rattle.f2b_base.specs.declared.input.What.TheVariants.{Tick}
use Rattle.f2b_model.specs.Views.{empty_view}
use Rattle.f2b_world.specs.Slots.{settled}
use Rattle.journal_slots.specs.declared.head.Head.TheVariants.{Short, Ajar}
use Rattle.journal_slots.specs.Starts.{generation, version, start}
use Rattle.record_codec.specs.Definitions.{defs}
use Rattle.record_codec.specs.Inputs.{input, what}
use Rattle.record_codec.specs.Views.{view}
use Rattle.record_fields.specs.Addresses.{eight}
use Rattle.record_fields.specs.Lists.{list_of}
use Rattle.record_fields.specs.Numbers.{digits}
use Rattle.slot_writes.specs.declared.position.Position.{Position}
use Rattle.slot_writes.specs.Writes.{Write, Put, Sync}
use Rattle.slot_writes.specs.Points.{after_calls}
use Rattle.slot_writes.specs.Entries.{Written, Full, Spent, entry_of}

abbrev tick : ℕ → Input
tick secs = record { secs = secs; word = 0; what = Tick }

-- an empty disk
abbrev nothing : ℕ → Position
nothing limit = record { limit = limit; slot = 1; generation = 0; grows = false; gate = 0; head = Short; other = Short }

-- after the first input
abbrev one_input : ℕ → Position
one_input limit = record { limit = limit; slot = 0; generation = 1; grows = true; gate = 25; head = Ajar; other = Short }

-- the generation, version 2 and the empty view, and a closed gate
abbrev body_of : ℕ → List ℕ
body_of number = 0 ∷ 0 ∷ 0 ∷ 0 ∷ 0 ∷ 0 ∷ 0 ∷ number ∷ 2 ∷ 0 ∷ 0x80 ∷ 0xa3 ∷ 5 ∷ 0 ∷ 0 ∷ 0 ∷ 0 ∷ 0 ∷ 0 ∷ 0 ∷ 0 ∷ []

-- With a limit of 25 a Tick at 100 needs 26 bytes.
too_small : entry_of (nothing 25) empty_view (tick 100) ≡ Full 26
unfolding input what view defs digits list_of
too_small = refl

-- With 30 the first input is ten calls: sixteen zeros, the body, its gate, the input, its gate, and a sync behind each.
first_calls : List Write
first_calls =
    Put 0 0 (replicate 16 0) ∷ Sync 0 ∷ Put 0 1 (body_of 1) ∷ Sync 0 ∷ Put 0 0 (1 ∷ []) ∷ Sync 0
    ∷ Put 0 22 (0x64 ∷ 0 ∷ 0 ∷ 0 ∷ []) ∷ Sync 0 ∷ Put 0 21 (1 ∷ []) ∷ Sync 0 ∷ []

first_input : entry_of (nothing 30) empty_view (tick 100) ≡ Written (one_input 30) first_calls
unfolding first_calls input what view defs digits list_of start generation version eight
first_input = refl

-- The slot is then what the calls leave.
first_slot : after_calls (settled []) first_calls ≡ settled (1 ∷ (0 ∷ 0 ∷ 0 ∷ 0 ∷ 0 ∷ 0 ∷ 0 ∷ 1 ∷ 2 ∷ 0 ∷ 0x80 ∷ 0xa3 ∷ 5 ∷ 0 ∷ 0 ∷ 0 ∷ 0 ∷ 0 ∷ 0 ∷ 0 ∷ []) ++ (1 ∷ 0x64 ∷ 0 ∷ 0 ∷ 0 ∷ []))
unfolding first_calls
first_slot = refl

-- A Tick at 200 has four bytes, so it ends at 31: it does not fit, and the other slot gets the generation 2 and ends at 27.
second_input : entry_of (one_input 30) empty_view (tick 200) ≡ Written (record { limit = 30; slot = 1; generation = 2; grows = true; gate = 26; head = Ajar; other = Ajar })
    (Put 1 0 (replicate 16 0) ∷ Sync 1 ∷ Put 1 1 (body_of 2) ∷ Sync 1 ∷ Put 1 0 (1 ∷ []) ∷ Sync 1 ∷ Put 1 22 (0xc8 ∷ 1 ∷ 0 ∷ 0 ∷ 0 ∷ []) ∷ Sync 1 ∷ Put 1 21 (1 ∷ []) ∷ Sync 1 ∷ [])
unfolding input what view defs digits list_of start generation version eight
second_input = refl

-- With 26 that is no room.
second_full : entry_of (one_input 26) empty_view (tick 200) ≡ Full 27
unfolding input what view defs digits list_of
second_full = refl

-- With room it is four calls, and the slot grows.
appends : entry_of (one_input 31) empty_view (tick 200) ≡ Written (record (one_input 31) { gate = 30 }) (Put 0 26 (0xc8 ∷ 1 ∷ 0 ∷ 0 ∷ 0 ∷ []) ∷ Sync 0 ∷ Put 0 25 (1 ∷ []) ∷ Sync 0 ∷ [])
unfolding input what digits
appends = refl

-- A slot of version 1 does not grow: the next input changes slots, though it would fit.
old_version : entry_of (record (one_input 64) { grows = false }) empty_view (tick 200) ≡ Written (record { limit = 64; slot = 1; generation = 2; grows = true; gate = 26; head = Ajar; other = Ajar })
    (Put 1 0 (replicate 16 0) ∷ Sync 1 ∷ Put 1 1 (body_of 2) ∷ Sync 1 ∷ Put 1 0 (1 ∷ []) ∷ Sync 1 ∷ Put 1 22 (0xc8 ∷ 1 ∷ 0 ∷ 0 ∷ 0 ∷ []) ∷ Sync 1 ∷ Put 1 21 (1 ∷ []) ∷ Sync 1 ∷ [])
unfolding input what view defs digits list_of start generation version eight
old_version = refl

-- The generations are used up at 2 ^ 62, and room is asked for first.
spent : entry_of (record (one_input 30) { generation = 4611686018427387904 }) empty_view (tick 200) ≡ Spent
unfolding input what view defs digits list_of
spent = refl

full_first : entry_of (record (one_input 26) { generation = 4611686018427387904 }) empty_view (tick 200) ≡ Full 27
unfolding input what view defs digits list_of
full_first = refl
