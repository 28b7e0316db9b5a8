-- A run and its journal, computed: the first input of an empty disk, a change of slots, faults, and what a second run loads.
use Rattle.std.proofs.Common.{ℕ, ◌≡◌, zero, suc, true, Option, Some, None, List, [], ◌∷◌, ◌++◌, take, replicate, refl, Ok, Err, Result}
use Rattle.std.specs.Fmt.{digits}
use Rattle.std.specs.Prelude.{codes}
use Rattle.f2b_base.specs.declared.input.Input.{Input}
use Rattle.f2b_base.specs.declared.input.What.TheVariants.{Config as Configured}
use Rattle.f2b_base.specs.declared.jail.Defs.{Defs}
use Rattle.f2b_world.specs.declared.answer.Len.TheVariants.{Failed as LenFailed}
use Rattle.f2b_world.specs.declared.answer.Said.TheVariants.{Done as SayDone}
use Rattle.f2b_world.specs.declared.answer.Synced.TheVariants.{Failed as SyncFailed}
use Rattle.f2b_world.specs.declared.answer.Wrote.TheVariants.{Failed as WroteFailed}
use Rattle.f2b_world.specs.declared.event.Event.{Event}
use Rattle.f2b_world.specs.declared.event.Event.TheVariants.{DiskLen, DiskSync, DiskWrite, Say}
use Rattle.journal_slots.specs.Grammar.{inputs_at, opened_at, parse_slot}
use Rattle.journal_slots.specs.Starts.{generation, start, version}
use Rattle.journal_slots.specs.declared.head.Head.TheVariants.{Short, Ajar}
use Rattle.record_codec.specs.Definitions.{defs as defs_codec}
use Rattle.record_codec.specs.Inputs.{input, what, config_at}
use Rattle.record_codec.specs.Views.{jails_at, view as view_codec}
use Rattle.record_fields.specs.Addresses.{eight, fixed_at}
use Rattle.record_fields.specs.Lists.{list_of, list_at, items_at, each_at, each_list_at}
use Rattle.record_fields.specs.Numbers.{digits as number_digits, digits_at, number_at}
use Rattle.run_law.specs.Calls.{AskListen, AskSay, AskWrite}
use Rattle.run_law.specs.Changes.{config_changes}
use Rattle.run_law.specs.Law.{next_call, opening}
use Rattle.reconcile.specs.Loads.{Loaded, loaded}
use Rattle.run_law.specs.News.{brings}
use Rattle.run_law.specs.Points.{Run, Over}
use Rattle.run_law.specs.Refusals.{error_line, status_lines}
use Rattle.run_law.specs.Said.{lines_of, ready_line, stamped}
use Rattle.run_law.specs.Start.{defined}
use Rattle.run_law.specs.declared.plan.Plan.{Plan}
use Rattle.run_law.specs.declared.status.Status.TheVariants.{DiskFault, JournalFull, NotAJournal}
use Rattle.law_rows.proofs.RowJails.{after_all, clock, listening, named_slots, no_slots}
use Rattle.slot_writes.specs.Writes.{Write, Put, Sync, done_events}
use Rattle.slot_writes.specs.declared.position.Position.{Position}

-- ---- a configuration of no jails, which is new by its purge

abbrev purging : ℕ → Defs
purging purge = record { purge = purge; jails = [] }

abbrev asked : ℕ → Plan
asked limit = record { root = codes "/c"; turns = 1; limit = limit }

-- a start with that configuration, over these slots
abbrev begun : ℕ → ℕ → (ℕ → List ℕ) → Run
begun limit purge slots = defined (Ok (record { defs = purging purge; socket = codes "/s" })) (opening (asked limit) slots)

abbrev to_the_clock : ℕ → List Event
to_the_clock secs = named_slots (codes "/s") ∷ listening (codes "/s") ∷ clock secs ∷ []

-- ---- the first input of an empty disk

-- the generation, version 2, the view before the first configuration, and a closed gate
abbrev first_body : List ℕ
first_body = 0 ∷ 0 ∷ 0 ∷ 0 ∷ 0 ∷ 0 ∷ 0 ∷ 1 ∷ 2 ∷ 0 ∷ 0x80 ∷ 0xa3 ∷ 5 ∷ 0 ∷ 0 ∷ 0 ∷ 0 ∷ 0 ∷ 0 ∷ 0 ∷ 0 ∷ []

-- at 1000, with the word 0, the configuration with a purge of 600
abbrev first_input : List ℕ
first_input = 0xe8 ∷ 7 ∷ 0 ∷ 3 ∷ 0xd8 ∷ 4 ∷ 0 ∷ []

abbrev first_calls : List Write
first_calls =
    Put 0 0 (replicate 16 0) ∷ Sync 0 ∷ Put 0 1 first_body ∷ Sync 0 ∷ Put 0 0 (1 ∷ []) ∷ Sync 0 ∷ Put 0 22 (first_input ++ 0 ∷ []) ∷ Sync 0 ∷ Put 0 21 (1 ∷ []) ∷ Sync 0 ∷ []

abbrev first : Run
first = after_all (begun 64 600 no_slots) (to_the_clock 1000)

is_ten_calls : first.writes ≡ first_calls
unfolding brings config_changes parse_slot input what defs_codec list_of view_codec start generation version eight number_digits
is_ten_calls = refl

-- up to the last of them nothing is said
writes_before_it_says : next_call (after_all first (take 9 (done_events first_calls))) ≡ Some (AskWrite (Sync 0))
unfolding brings config_changes parse_slot input what defs_codec list_of view_codec start generation version eight number_digits
writes_before_it_says = refl

says_once_it_is_closed : next_call (after_all first (done_events first_calls)) ≡ Some (AskSay (codes "1000 INFO Server ready\n"))
unfolding brings config_changes parse_slot input what defs_codec list_of view_codec start generation version eight number_digits lines_of ready_line stamped digits
says_once_it_is_closed = refl

abbrev configured : Input
configured = record { secs = 1000; word = 0; what = Configured (purging 600) }

is_not_closed_before : (after_all first (take 9 (done_events first_calls))).closed ≡ []
unfolding brings config_changes parse_slot input what defs_codec list_of view_codec start generation version eight number_digits
is_not_closed_before = refl

is_closed_then : (after_all first (done_events first_calls)).closed ≡ configured ∷ []
unfolding brings config_changes parse_slot input what defs_codec list_of view_codec start generation version eight number_digits
is_closed_then = refl

-- ---- faults of the disk

abbrev first_unsynced : Run
first_unsynced = after_all first (take 9 (done_events first_calls) ++ DiskSync 0 SyncFailed ∷ [])

-- the last sync fails: its lines are not said
says_that_the_disk_failed : next_call first_unsynced ≡ Some (AskSay (codes "1000 ERROR disk\n"))
unfolding brings config_changes parse_slot input what defs_codec list_of view_codec start generation version eight number_digits status_lines error_line stamped digits
says_that_the_disk_failed = refl

ends_with_the_disk : first_unsynced.point ≡ Over DiskFault
unfolding brings config_changes parse_slot input what defs_codec list_of view_codec start generation version eight number_digits
ends_with_the_disk = refl

keeps_it_unclosed : first_unsynced.unclosed ≡ Some configured
unfolding brings config_changes parse_slot input what defs_codec list_of view_codec start generation version eight number_digits
keeps_it_unclosed = refl

asks_no_more : next_call (after_all first (DiskWrite 0 0 (replicate 16 0) WroteFailed ∷ Say (codes "1000 ERROR disk\n") SayDone ∷ [])) ≡ None
unfolding brings config_changes parse_slot input what defs_codec list_of view_codec start generation version eight number_digits status_lines error_line stamped digits
asks_no_more = refl

-- ---- a second run

-- what the first one left
abbrev first_slots : ℕ → List ℕ
first_slots zero = 1 ∷ take 20 first_body ++ (1 ∷ first_input) ++ (0 ∷ [])
first_slots (suc n) = []

abbrev position_after : Result Loaded (ℕ × ℕ) → Option Position
position_after (Ok l) = Some l.position
position_after (Err place) = None

stands_behind_the_first : position_after (loaded 64 first_slots) ≡ Some (record { limit = 64; slot = 0; generation = 1; grows = true; gate = 29; head = Ajar; other = Short })
unfolding parse_slot opened_at inputs_at input what config_at defs_codec list_of list_at items_at each_at each_list_at view_codec jails_at start generation version eight fixed_at number_digits number_at digits_at
stands_behind_the_first = refl

-- the same configuration is no input
takes_nothing_twice : next_call (after_all (begun 64 600 first_slots) (to_the_clock 2000)) ≡ Some (AskSay (codes "2000 INFO Server ready\n"))
unfolding brings config_changes ready_line stamped digits parse_slot opened_at inputs_at input what config_at defs_codec list_of list_at items_at each_at each_list_at view_codec jails_at start generation version eight fixed_at number_digits number_at digits_at
takes_nothing_twice = refl

-- now begins with what was stored: a clock that went back does not take it back
begins_no_earlier : next_call (after_all (begun 64 600 first_slots) (to_the_clock 900)) ≡ Some (AskSay (codes "1000 INFO Server ready\n"))
unfolding brings config_changes ready_line stamped digits parse_slot opened_at inputs_at input what config_at defs_codec list_of list_at items_at each_at each_list_at view_codec jails_at start generation version eight fixed_at number_digits number_at digits_at
begins_no_earlier = refl

-- another one is added behind the first
abbrev second_input : List ℕ
second_input = 0xe9 ∷ 7 ∷ 0 ∷ 3 ∷ 0xbc ∷ 5 ∷ 0 ∷ []

is_four_calls : (after_all (begun 64 700 first_slots) (to_the_clock 1001)).writes ≡ Put 0 30 (second_input ++ 0 ∷ []) ∷ Sync 0 ∷ Put 0 29 (1 ∷ []) ∷ Sync 0 ∷ []
unfolding brings config_changes parse_slot opened_at inputs_at input what config_at defs_codec list_of list_at items_at each_at each_list_at view_codec jails_at start generation version eight fixed_at number_digits number_at digits_at
is_four_calls = refl

-- ---- a change of slots: it would end at 38

-- the next generation, version 2, the view that was stored, and a closed gate
abbrev second_body : List ℕ
second_body = 0 ∷ 0 ∷ 0 ∷ 0 ∷ 0 ∷ 0 ∷ 0 ∷ 2 ∷ 2 ∷ 0xe8 ∷ 7 ∷ 0xd8 ∷ 4 ∷ 0 ∷ 0 ∷ 0 ∷ 0 ∷ 0 ∷ 0 ∷ 0 ∷ 0 ∷ []

changes_slots : (after_all (begun 37 700 first_slots) (to_the_clock 1001)).writes
    ≡ Put 1 0 (replicate 16 0) ∷ Sync 1 ∷ Put 1 1 second_body ∷ Sync 1 ∷ Put 1 0 (1 ∷ []) ∷ Sync 1 ∷ Put 1 22 (second_input ++ 0 ∷ []) ∷ Sync 1 ∷ Put 1 21 (1 ∷ []) ∷ Sync 1 ∷ []
unfolding brings config_changes parse_slot opened_at inputs_at input what config_at defs_codec list_of list_at items_at each_at each_list_at view_codec jails_at start generation version eight fixed_at number_digits number_at digits_at
changes_slots = refl

-- and a slot with both has 30 bytes
has_no_room : (after_all (begun 29 700 first_slots) (to_the_clock 1001)).point ≡ Over (JournalFull 30 29)
unfolding brings config_changes parse_slot opened_at inputs_at input what config_at defs_codec list_of list_at items_at each_at each_list_at view_codec jails_at start generation version eight fixed_at number_digits number_at digits_at
has_no_room = refl

says_that_it_is_full : next_call (after_all (begun 29 700 first_slots) (to_the_clock 1001)) ≡ Some (AskSay (codes "1001 ERROR journal full: 30 of 29\n"))
unfolding brings config_changes parse_slot opened_at inputs_at input what config_at defs_codec list_of list_at items_at each_at each_list_at view_codec jails_at start generation version eight fixed_at number_digits number_at digits_at status_lines error_line stamped digits
says_that_it_is_full = refl

-- ---- slots that are no journal

-- so many bytes in slot 0
abbrev odd_slots : ℕ → ℕ → List ℕ
odd_slots n zero = replicate n 0xff
odd_slots n (suc m) = []

abbrev odd : Run
odd = after_all (begun 64 600 (odd_slots 20)) (named_slots (codes "/s") ∷ [])

says_where_it_is_none : next_call odd ≡ Some (AskSay (codes "0 ERROR not a journal: slot 0 at 1\n"))
unfolding parse_slot opened_at start generation eight fixed_at status_lines error_line stamped digits
says_where_it_is_none = refl

ends_where_it_is_none : odd.point ≡ Over (NotAJournal 0 1)
unfolding parse_slot opened_at start generation eight fixed_at
ends_where_it_is_none = refl

-- its slots may be read until that is said, and a fault is said in place of it
says_the_fault_alone : next_call (after_all odd (DiskLen 1 LenFailed ∷ [])) ≡ Some (AskSay (codes "0 ERROR disk\n"))
unfolding parse_slot opened_at start generation eight fixed_at status_lines error_line stamped digits
says_the_fault_alone = refl

-- sixteen bytes are no slot yet
takes_few_bytes_for_none : next_call (after_all (begun 64 600 (odd_slots 16)) (named_slots (codes "/s") ∷ [])) ≡ Some (AskListen (codes "/s"))
unfolding parse_slot
takes_few_bytes_for_none = refl
