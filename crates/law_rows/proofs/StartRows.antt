-- Starts, computed: refusals, patterns, names, and the first turn.
use Rattle.std.proofs.Common.{◌≡◌, true, Some, List, [], ◌∷◌, ◌++◌, refl, map, Ok}
use Rattle.std.specs.Fmt.{digits}
use Rattle.std.specs.Prelude.{codes}
use Rattle.std.specs.Str.{chars}
use Rattle.f2b_base.specs.declared.addr.Family.TheVariants.{Both}
use Rattle.f2b_base.specs.declared.jail.Defs.{Defs}
use Rattle.f2b_base.specs.declared.jail.JailDef.{JailDef}
use Rattle.f2b_base.specs.declared.jail.WatchDef.{WatchDef}
use Rattle.f2b_base.specs.declared.outside.TreeAnswer.TheVariants.{Failed as TreeFailed, TooLarge as TreeTooLarge}
use Rattle.f2b_world.specs.declared.answer.Listen.TheVariants.{Failed as ListenFailed}
use Rattle.f2b_world.specs.declared.answer.MakeAnswer.TheVariants.{Built, Syntax as WasSyntax}
use Rattle.f2b_world.specs.declared.answer.NamesAnswer.TheVariants.{Names as NamesGiven, Absent as NamesAbsent, Failed as NamesFailed}
use Rattle.f2b_world.specs.declared.answer.Said.TheVariants.{Done}
use Rattle.f2b_world.specs.declared.event.Event.{Event}
use Rattle.f2b_world.specs.declared.event.Event.TheVariants.{Say, Make, Config, Names, GateListen}
use Rattle.host_ident.specs.Expanded.{expanded as expanded_tags}
use Rattle.jail_conf.specs.declared.settings.Settings.{Settings}
use Rattle.journal_slots.specs.Grammar.{parse_slot}
use Rattle.journal_slots.specs.Starts.{generation, start, version}
use Rattle.record_codec.specs.Definitions.{ban_rule, date as date_codec, defs as defs_codec, jail_def, name as name_codec, watch_def}
use Rattle.record_codec.specs.Inputs.{input, what}
use Rattle.record_codec.specs.Views.{view as view_codec}
use Rattle.record_fields.specs.Addresses.{eight}
use Rattle.record_fields.specs.Lists.{list_of}
use Rattle.record_fields.specs.Numbers.{digits as number_digits}
use Rattle.record_fields.specs.Texts.{string_spelling}
use Rattle.run_law.specs.Calls.{AskSay, AskTree, AskMake, AskStore, AskListen, AskClock, AskNames, AskLook}
use Rattle.run_law.specs.Changes.{config_changes}
use Rattle.run_law.specs.Law.{begin, next_call, opening}
use Rattle.run_law.specs.News.{brings}
use Rattle.run_law.specs.Paths.{expanded, first_naming, named, with_paths}
use Rattle.run_law.specs.Points.{Run, Over}
use Rattle.run_law.specs.Refusals.{error_line, pattern_refusal, status_lines}
use Rattle.run_law.specs.Said.{lines_of, ready_line, stamped, unread_line}
use Rattle.run_law.specs.Start.{defined}
use Rattle.run_law.specs.Turn.{to_accept, to_children, to_end, to_logs, to_starts}
use Rattle.run_law.specs.declared.status.Status.TheVariants.{ConfTooLarge, GateFault}
use Rattle.law_rows.proofs.RowJails.{after_all, changed, clock, from_head, jail, last_input, listening, named_slots, no_slots, plan}

-- ---- words

abbrev asked : Run
asked = begin (codes "--conf" ∷ codes "/c" ∷ codes "--turns" ∷ codes "1" ∷ []) no_slots

reads_the_configuration_first : next_call asked ≡ Some (AskTree (codes "/c"))
unfolding digits
reads_the_configuration_first = refl

refuses_a_word_alone : next_call (begin (codes "--conf" ∷ []) no_slots) ≡ Some (AskSay (codes "0 ERROR usage\n"))
unfolding status_lines error_line stamped digits
refuses_a_word_alone = refl

refuses_a_leading_zero : next_call (begin (codes "--conf" ∷ codes "/c" ∷ codes "--turns" ∷ codes "01" ∷ []) no_slots) ≡ Some (AskSay (codes "0 ERROR usage\n"))
unfolding status_lines error_line stamped digits
refuses_a_leading_zero = refl

-- ---- the configuration

says_that_it_is_not_read : next_call (after_all asked (Config (codes "/c") TreeFailed ∷ [])) ≡ Some (AskSay (codes "0 ERROR configuration not read\n"))
unfolding status_lines error_line stamped digits
says_that_it_is_not_read = refl

ends_where_it_is_too_large : (after_all asked (Config (codes "/c") TreeTooLarge ∷ [])).point ≡ Over ConfTooLarge
unfolding digits
ends_where_it_is_too_large = refl

abbrev of_jails : List JailDef → Settings
of_jails jails = record { defs = record { purge = 86400; jails = jails }; socket = codes "/s" }

abbrev with_action : JailDef
with_action = record (jail (codes "a") [] []) { actions = record { name = codes "fw"; family = Both; start = []; stop = []; ban = []; unban = []; check = []; timeout = 60 } ∷ [] }

takes_an_action : next_call (defined (Ok (of_jails (jail (codes "b") [] [] ∷ with_action ∷ []))) (opening plan no_slots)) ≡ Some (AskStore (codes "/s"))
unfolding expanded_tags
takes_an_action = refl

-- ---- patterns, jail by jail

abbrev making : Run
making = defined (Ok (of_jails (jail (codes "a") (codes "x" ∷ codes "y" ∷ []) [] ∷ jail (codes "b") (codes "z" ∷ []) [] ∷ []))) (opening plan no_slots)

makes_the_second_pattern : next_call (after_all making (Make (codes "x") Built ∷ [])) ≡ Some (AskMake (codes "y"))
unfolding expanded_tags
makes_the_second_pattern = refl

says_which_pattern_is_refused : next_call (after_all making (Make (codes "x") Built ∷ Make (codes "y") Built ∷ Make (codes "z") WasSyntax ∷ []))
    ≡ Some (AskSay (codes "0 ERROR Pattern refused: b failregex 1 Syntax\n"))
unfolding expanded_tags status_lines error_line pattern_refusal stamped digits
says_which_pattern_is_refused = refl

abbrev made : List Event
made = Make (codes "x") Built ∷ Make (codes "y") Built ∷ Make (codes "z") Built ∷ []

names_the_slots_behind_the_last : next_call (after_all making made) ≡ Some (AskStore (codes "/s"))
unfolding expanded_tags
names_the_slots_behind_the_last = refl

lets_clients_connect_behind_them : next_call (after_all making (made ++ named_slots (codes "/s") ∷ [])) ≡ Some (AskListen (codes "/s"))
unfolding expanded_tags parse_slot
lets_clients_connect_behind_them = refl

reads_the_clock_then : next_call (after_all making (made ++ named_slots (codes "/s") ∷ listening (codes "/s") ∷ [])) ≡ Some AskClock
unfolding expanded_tags parse_slot
reads_the_clock_then = refl

-- ---- a configuration of nothing is no input

abbrev empty : Run
empty = defined (Ok (of_jails [])) (opening plan no_slots)

says_that_it_is_ready : next_call (after_all empty (named_slots (codes "/s") ∷ listening (codes "/s") ∷ clock 1000 ∷ [])) ≡ Some (AskSay (codes "1000 INFO Server ready\n"))
unfolding brings config_changes ready_line stamped digits parse_slot
says_that_it_is_ready = refl

takes_no_configuration_of_nothing : last_input (after_all empty (named_slots (codes "/s") ∷ listening (codes "/s") ∷ clock 1000 ∷ [])).point ≡ Some 0
unfolding brings config_changes parse_slot
takes_no_configuration_of_nothing = refl

-- ---- clients cannot connect

abbrev unheard : Run
unheard = after_all empty (named_slots (codes "/s") ∷ GateListen (codes "/s") ListenFailed ∷ [])

says_that_nobody_can_connect : next_call unheard ≡ Some (AskSay (codes "0 ERROR socket\n"))
unfolding parse_slot status_lines error_line stamped digits
says_that_nobody_can_connect = refl

ends_where_nobody_can_connect : unheard.point ≡ Over GateFault
unfolding parse_slot
ends_where_nobody_can_connect = refl

-- ---- names in place of wildcards

abbrev followed : JailDef
followed = jail (codes "a") [] (from_head (codes "/var/log/a*.log") ∷ from_head (codes "/var/log/b.log") ∷ record { path = codes "/c?"; tail = true } ∷ [])

abbrev defs : Defs
defs = record { purge = 86400; jails = followed ∷ [] }

abbrev naming : Run
naming = defined (Ok (record { defs = defs; socket = [] })) (opening plan no_slots)

asks_for_the_names_of_the_first : next_call (after_all naming (named_slots [] ∷ listening [] ∷ clock 1000 ∷ [])) ≡ Some (AskNames (codes "/var/log"))
unfolding brings parse_slot
asks_for_the_names_of_the_first = refl

abbrev given : Event
given = Names (codes "/var/log") (NamesGiven (codes "a1.log" ∷ codes "a2.log" ∷ codes "b.log" ∷ []))

-- the path between has no wildcard, and the last one stands in the root
asks_for_those_in_the_root : next_call (after_all naming (named_slots [] ∷ listening [] ∷ clock 1000 ∷ given ∷ [])) ≡ Some (AskNames (codes "/"))
unfolding brings expanded chars parse_slot
asks_for_those_in_the_root = refl

-- that the root cannot be listed is said first, and the start last, in one call
abbrev named_all : List Event
named_all = named_slots [] ∷ listening [] ∷ clock 1000 ∷ given ∷ Names (codes "/") NamesFailed ∷ []

says_what_it_cannot_list_and_is_ready : next_call (after_all naming (named_all ++ changed)) ≡ Some (AskSay (codes "1000 WARNING [a] cannot read /c?\n1000 INFO Server ready\n"))
unfolding brings expanded chars config_changes lines_of unread_line ready_line stamped digits parse_slot input what defs_codec jail_def name_codec watch_def date_codec ban_rule string_spelling list_of view_codec start generation version eight number_digits
says_what_it_cannot_list_and_is_ready = refl

takes_the_configuration : last_input (after_all naming named_all).point ≡ Some 1000
unfolding brings expanded chars config_changes parse_slot input what defs_codec jail_def name_codec watch_def date_codec ban_rule string_spelling list_of view_codec start generation version eight number_digits
takes_the_configuration = refl

-- the first log is the first name that fits
abbrev begun : List Event
begun = named_all ++ changed ++ Say (codes "1000 WARNING [a] cannot read /c?\n1000 INFO Server ready\n") Done ∷ clock 1001 ∷ []

looks_at_the_first_name : next_call (after_all naming begun) ≡ Some (AskLook (codes "/var/log/a1.log") 64 0 65536)
unfolding brings expanded chars config_changes lines_of unread_line ready_line stamped digits to_logs to_children to_accept to_starts to_end parse_slot input what defs_codec jail_def name_codec watch_def date_codec ban_rule string_spelling list_of view_codec start generation version eight number_digits
looks_at_the_first_name = refl

-- a directory that is not there has no names, and nothing is said of it
says_nothing_of_an_absent_directory : next_call (after_all naming (named_slots [] ∷ listening [] ∷ clock 1000 ∷ Names (codes "/var/log") NamesAbsent ∷ Names (codes "/") NamesAbsent ∷ changed)) ≡ Some (AskSay (codes "1000 INFO Server ready\n"))
unfolding brings expanded chars config_changes lines_of ready_line stamped digits parse_slot input what defs_codec jail_def name_codec watch_def date_codec ban_rule string_spelling list_of view_codec start generation version eight number_digits
says_nothing_of_an_absent_directory = refl

-- of names in any order the first in byte order come first, and a path that a pattern gives again is one log
paths : map (λ (d : JailDef). map (λ (w : WatchDef). w.path) d.watches) (with_paths (record defs { jails = record followed { watches = from_head (codes "/v/*") ∷ from_head (codes "/v/a") ∷ [] } ∷ [] })
    (named (codes "b" ∷ codes "a" ∷ []) (first_naming (record defs { jails = record followed { watches = from_head (codes "/v/*") ∷ from_head (codes "/v/a") ∷ [] } ∷ [] }))).found).jails
    ≡ (codes "/v/a" ∷ codes "/v/b" ∷ []) ∷ []
unfolding expanded chars
paths = refl
