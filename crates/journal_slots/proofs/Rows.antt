-- Worked rows of slots, computed.
use Rattle.std.proofs.Common.{◌≡◌, ℕ, List, [], ◌∷◌, ◌++◌, refl}
use Rattle.f2b_base.specs.declared.input.Input.{Input}
use Rattle.f2b_base.specs.declared.input.What.TheVariants.{Tick}
use Rattle.f2b_model.specs.Views.{empty_view}
use Rattle.record_codec.specs.declared.version.Version.TheVariants.{One, Two}
use Rattle.record_codec.specs.Definitions.{defs}
use Rattle.record_codec.specs.Inputs.{input, what}
use Rattle.record_codec.specs.Views.{view, jails_at}
use Rattle.record_fields.specs.Addresses.{fixed_at, eight}
use Rattle.record_fields.specs.Lists.{items_at, list_at, list_of, each_list_at, each_at}
use Rattle.record_fields.specs.Numbers.{digits, digits_at, number_at}
use Rattle.journal_slots.specs.Starts.{generation, version, Start, start}
use Rattle.journal_slots.specs.Grammar.{Empty, Open, Bad, inputs_at, opened_at, parse_slot}
use Rattle.journal_slots.specs.Tops.{Newest, NoJournal, top_of}

-- an open gate, the generation 1, version 2 and the empty view: 21 bytes before the gate
abbrev fresh : List ℕ
fresh = 1 ∷ 0 ∷ 0 ∷ 0 ∷ 0 ∷ 0 ∷ 0 ∷ 0 ∷ 1 ∷ 2 ∷ 0 ∷ 0x80 ∷ 0xa3 ∷ 5 ∷ 0 ∷ 0 ∷ 0 ∷ 0 ∷ 0 ∷ 0 ∷ 0 ∷ []

abbrev first_start : Start
first_start = record { generation = 1; version = Two; view = empty_view }

abbrev tick : ℕ → Input
tick secs = record { secs = secs; word = 0; what = Tick }

start_is : 1 ∷ start.spell first_start ≡ fresh
unfolding start generation version view defs digits list_of eight
start_is = refl

-- sixteen bytes ff are an empty slot
sixteen_bytes : parse_slot (0xff ∷ 0xff ∷ 0xff ∷ 0xff ∷ 0xff ∷ 0xff ∷ 0xff ∷ 0xff ∷ 0xff ∷ 0xff ∷ 0xff ∷ 0xff ∷ 0xff ∷ 0xff ∷ 0xff ∷ 0xff ∷ []) ≡ Empty
unfolding parse_slot
sixteen_bytes = refl

-- of twenty the generation has no reading, at 1
twenty_bytes : parse_slot (0xff ∷ 0xff ∷ 0xff ∷ 0xff ∷ 0xff ∷ 0xff ∷ 0xff ∷ 0xff ∷ 0xff ∷ 0xff ∷ 0xff ∷ 0xff ∷ 0xff ∷ 0xff ∷ 0xff ∷ 0xff ∷ 0xff ∷ 0xff ∷ 0xff ∷ 0xff ∷ []) ≡ Bad 0 1
unfolding parse_slot opened_at start generation fixed_at
twenty_bytes = refl

-- seven bytes 00 and 01 are the generation 1, and ff is no version: bad at 9
bad_version : parse_slot (1 ∷ 0 ∷ 0 ∷ 0 ∷ 0 ∷ 0 ∷ 0 ∷ 0 ∷ 1 ∷ 0xff ∷ 0xff ∷ 0xff ∷ 0xff ∷ 0xff ∷ 0xff ∷ 0xff ∷ 0xff ∷ 0xff ∷ 0xff ∷ 0xff ∷ []) ≡ Bad 1 9
unfolding parse_slot opened_at start generation version fixed_at
bad_version = refl

-- the first input of an empty disk: a Tick at 100, and the closed gate at 25
one_tick : parse_slot (fresh ++ (1 ∷ 0x64 ∷ 0 ∷ 0 ∷ 0 ∷ [])) ≡ Open (record { start = first_start; inputs = tick 100 ∷ []; gate = 25 })
unfolding parse_slot opened_at inputs_at start generation version fixed_at view defs what input number_at digits_at list_at items_at jails_at each_list_at each_at
one_tick = refl

-- its gate still closed: what follows it is not looked at
not_yet : parse_slot (fresh ++ (0 ∷ 0x64 ∷ 0 ∷ 0 ∷ 0 ∷ [])) ≡ Open (record { start = first_start; inputs = []; gate = 21 })
unfolding parse_slot opened_at inputs_at start generation version fixed_at view defs what input number_at digits_at list_at items_at jails_at each_list_at each_at
not_yet = refl

-- any byte but 0 opens the gate
torn_gate : parse_slot (fresh ++ (7 ∷ 0x64 ∷ 0 ∷ 0 ∷ 0 ∷ [])) ≡ Open (record { start = first_start; inputs = tick 100 ∷ []; gate = 25 })
unfolding parse_slot opened_at inputs_at start generation version fixed_at view defs what input number_at digits_at list_at items_at jails_at each_list_at each_at
torn_gate = refl

-- a slot of version 1 is read too
old_version : parse_slot (1 ∷ 0 ∷ 0 ∷ 0 ∷ 0 ∷ 0 ∷ 0 ∷ 0 ∷ 1 ∷ 1 ∷ 0 ∷ 0x80 ∷ 0xa3 ∷ 5 ∷ 0 ∷ 0 ∷ 0 ∷ 0 ∷ 0 ∷ 0 ∷ 0 ∷ 0 ∷ [])
    ≡ Open (record { start = record { generation = 1; version = One; view = empty_view }; inputs = []; gate = 21 })
unfolding parse_slot opened_at inputs_at start generation version fixed_at view defs number_at digits_at list_at items_at jails_at each_list_at each_at
old_version = refl

-- the bytes end where a gate has to be: bad at their end
no_gate : parse_slot fresh ≡ Bad 1 21
unfolding parse_slot opened_at inputs_at start generation version fixed_at view defs number_at digits_at list_at items_at jails_at each_list_at each_at
no_gate = refl

-- the second generation counts
newer : top_of (Open (record { start = first_start; inputs = tick 100 ∷ []; gate = 25 })) (Open (record { start = record first_start { generation = 2 }; inputs = []; gate = 21 }))
    ≡ Newest 1 (record { start = record first_start { generation = 2 }; inputs = []; gate = 21 })
newer = refl

-- both of one generation: slot 1 at 1, also where it is bad further on
alike : top_of (Open (record { start = first_start; inputs = []; gate = 21 })) (Open (record { start = first_start; inputs = []; gate = 21 })) ≡ NoJournal 1 1
alike = refl

alike_bad : top_of (Open (record { start = first_start; inputs = []; gate = 21 })) (Bad 1 9) ≡ NoJournal 1 1
alike_bad = refl
