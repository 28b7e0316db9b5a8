-- Worked rows of windows and of what stands at their front, computed.
use Rattle.std.proofs.Common.{inl, inr, [], ◌∷◌, refl, lit<}
use Rattle.f2b_base.specs.declared.input.Input.{Input}
use Rattle.f2b_base.specs.declared.input.What.TheVariants.{Tick}
use Rattle.journal_slots.specs.Starts.{generation, version, start}
use Rattle.record_codec.specs.declared.version.Version.TheVariants.{Two}
use Rattle.record_codec.specs.Inputs.{input, what}
use Rattle.record_fields.specs.Addresses.{fixed_at}
use Rattle.record_fields.specs.Numbers.{digits, digits_at, number_at}
use Rattle.slot_reader.specs.declared.item.Item.TheVariants.{Closed, Taken, Bad as BadItem}
use Rattle.slot_reader.specs.declared.lead.Lead.TheVariants.{Bad as BadLead}
use Rattle.slot_reader.specs.Fronts.{IsLead, IsItem}
use Rattle.slot_reader.specs.Windows.{Window, IsWhole, IsOver}

-- of the slot 01 02 03 04 05 the window shows 03 04
abbrev middle : Window
middle = record { slot = 0; long = 5; place = 2; bytes = 3 ∷ 4 ∷ [] }

is_over : IsOver middle (1 ∷ 2 ∷ 3 ∷ 4 ∷ 5 ∷ [])
is_over = record { long = refl; bytes = refl }

-- with 05 too all that is left is shown
is_whole : IsWhole (record middle { bytes = 3 ∷ 4 ∷ 5 ∷ [] })
is_whole = refl

-- behind an open gate that time passed, at 100: gate and input have four bytes, and the closed gate behind them is not looked at yet
abbrev tick : Input
tick = record { secs = 100; word = 0; what = Tick }

one_tick : (input Two).Fits tick → IsItem Two (1 ∷ 0x64 ∷ 0 ∷ 0 ∷ 0 ∷ []) (Taken tick 4)
unfolding input what digits
one_tick fits = (1, 0 ∷ [], lit< tt, fits, refl, refl)

-- a closed gate, whatever follows it
closed : IsItem Two (0 ∷ 0x64 ∷ []) Closed
closed = (0x64 ∷ [], refl)

-- no gate: bad where the bytes end
no_gate : IsItem Two [] (BadItem 0)
no_gate = inl (refl, refl)

-- a moment that does not end: bad at its first byte, which is behind the gate
no_end : IsItem Two (1 ∷ 0x80 ∷ []) (BadItem 1)
unfolding input number_at digits_at
no_end = inr (1, 0x80 ∷ [], 1, lit< tt, refl, refl, refl)

-- the random word that does not end: bad behind gate and moment
no_word : IsItem Two (1 ∷ 0x64 ∷ 0x80 ∷ []) (BadItem 2)
unfolding input number_at digits_at
no_word = inr (1, 0x64 ∷ 0x80 ∷ [], 1, lit< tt, refl, refl, refl)

-- the generation 0 has no reading: bad at 1, and the number is 0
no_generation : IsLead (1 ∷ 0 ∷ 0 ∷ 0 ∷ 0 ∷ 0 ∷ 0 ∷ 0 ∷ 0 ∷ 2 ∷ []) (BadLead 0 1)
unfolding start generation fixed_at
no_generation = inr (1, 0 ∷ 0 ∷ 0 ∷ 0 ∷ 0 ∷ 0 ∷ 0 ∷ 0 ∷ 2 ∷ [], 9, lit< tt, refl, refl, refl, refl)

-- version 3 has none: bad at 9, of generation 1
no_version : IsLead (1 ∷ 0 ∷ 0 ∷ 0 ∷ 0 ∷ 0 ∷ 0 ∷ 0 ∷ 1 ∷ 3 ∷ []) (BadLead 1 9)
unfolding start generation version fixed_at
no_version = inr (1, 0 ∷ 0 ∷ 0 ∷ 0 ∷ 0 ∷ 0 ∷ 0 ∷ 1 ∷ 3 ∷ [], 1, lit< tt, refl, refl, refl, refl)
