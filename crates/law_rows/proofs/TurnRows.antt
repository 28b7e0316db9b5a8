-- Parts of turns, computed: two jails with a log each.
use Rattle.std.proofs.Common.{ℕ, ◌≡◌, true, false, Some, None, List, [], ◌∷◌, ◌++◌, refl}
use Rattle.std.specs.Fmt.{digits}
use Rattle.std.specs.Prelude.{codes}
use Rattle.f2b_base.specs.Addresses.{printed, octets}
use Rattle.f2b_base.specs.declared.jail.Place.{Place}
use Rattle.f2b_base.specs.declared.jail.Place.TheVariants.{Tail, Pos}
use Rattle.f2b_base.specs.declared.view.View.{View}
use Rattle.f2b_world.specs.declared.answer.Look.TheVariants.{File, Absent, Failed as LookFailed}
use Rattle.f2b_world.specs.declared.answer.Said.TheVariants.{Done, Failed as SayFailed}
use Rattle.f2b_world.specs.declared.event.Event.{Event}
use Rattle.f2b_world.specs.declared.event.Event.TheVariants.{Say, Pause}
use Rattle.log_follow.specs.Lines.{rest_of, pieces_of}
use Rattle.log_set.specs.Logs.{Watching}
use Rattle.run_law.specs.Calls.{AskAccept, AskSay, AskClock, AskLook, AskPause}
use Rattle.run_law.specs.Law.{next_call}
use Rattle.run_law.specs.Logs.{logs_of}
use Rattle.run_law.specs.Looks.{look_taken}
use Rattle.run_law.specs.News.{brings}
use Rattle.run_law.specs.Points.{Run, Over}
use Rattle.run_law.specs.Refusals.{error_line, status_lines}
use Rattle.run_law.specs.Said.{line_of, lines_of, rotated_line, stamped, unread_line}
use Rattle.run_law.specs.Server.{Server, jails}
use Rattle.run_law.specs.Turn.{to_accept, to_children, to_end, to_logs, to_starts}
use Rattle.run_law.specs.declared.status.Status.TheVariants.{TurnsSpent, SinkFault}
use Rattle.record_codec.specs.Definitions.{name as name_codec, place as place_codec}
use Rattle.record_codec.specs.Inputs.{input, what}
use Rattle.record_fields.specs.Lists.{list_of}
use Rattle.record_fields.specs.Numbers.{digits as number_digits}
use Rattle.record_fields.specs.Texts.{string_spelling}
use Rattle.law_rows.proofs.RowJails.{added, after_all, clock, eighth, last_input, log, look, nobody_comes, server, seventh, shown, turning, view_of_two}

-- ---- a log from which nine bytes were read, and one that is new

abbrev nine : Place
nine = Pos 9 (codes "123456789")

abbrev view : View
view = view_of_two (shown (codes "a") false (record { path = codes "/a"; place = nine } ∷ []) []) (shown (codes "b") false (record { path = codes "/b"; place = Pos 0 [] } ∷ []) [])

abbrev two_logs : Server
two_logs = server view (log (codes "a") (codes "/a") nine [] ∷ log (codes "b") (codes "/b") (Pos 0 []) [] ∷ []) 2

abbrev run : Run
run = turning two_logs

looks_behind_what_was_read : next_call (after_all run (clock 1000 ∷ [])) ≡ Some (AskLook (codes "/a") 64 9 65536)
unfolding brings to_logs to_children to_accept to_starts to_end
looks_behind_what_was_read = refl

-- the log is shorter than what was read of it
abbrev rotated : List Event
rotated = clock 1000 ∷ look (codes "/a") 9 (File (record { size = 2; head = codes "ab"; bytes = [] })) ∷ []

says_that_it_rotated : next_call (after_all run (rotated ++ added)) ≡ Some (AskSay (codes "1000 INFO [a] rotated /a\n"))
unfolding brings to_logs to_children to_accept to_starts to_end look_taken rotated_line stamped digits rest_of pieces_of lines_of input what name_codec place_codec string_spelling list_of number_digits
says_that_it_rotated = refl

-- and it is an input, since its place changes
takes_the_rotation : last_input (after_all run rotated).point ≡ Some 1000
unfolding brings to_logs to_children to_accept to_starts to_end look_taken rest_of pieces_of input what name_codec place_codec string_spelling list_of number_digits
takes_the_rotation = refl

then_looks_at_the_second_jail : next_call (after_all run (rotated ++ added ++ Say (codes "1000 INFO [a] rotated /a\n") Done ∷ [])) ≡ Some (AskLook (codes "/b") 64 0 65536)
unfolding brings to_logs to_children to_accept to_starts to_end look_taken rotated_line stamped digits rest_of pieces_of lines_of input what name_codec place_codec string_spelling list_of number_digits
then_looks_at_the_second_jail = refl

-- the new log is read from its start in the next turn
abbrev behind_a_rotation : List Event
behind_a_rotation = rotated ++ added ++ Say (codes "1000 INFO [a] rotated /a\n") Done ∷ look (codes "/b") 0 Absent ∷ nobody_comes ∷ Pause 250 ∷ clock 1001 ∷ []

reads_the_new_log_from_its_start : next_call (after_all run behind_a_rotation) ≡ Some (AskLook (codes "/a") 64 0 65536)
unfolding brings to_logs to_children to_accept to_starts to_end look_taken rotated_line stamped digits rest_of pieces_of lines_of input what name_codec place_codec string_spelling list_of number_digits
reads_the_new_log_from_its_start = refl

-- ---- half a line of a log at its start is lost: the line is said, and nothing is an input

abbrev half_read : Run
half_read = turning (record two_logs { logs = log (codes "b") (codes "/b") (Pos 0 []) (codes "abc") ∷ [] })

abbrev half_lost : List Event
half_lost = clock 1000 ∷ look (codes "/b") 3 (File (record { size = 2; head = codes "xy"; bytes = [] })) ∷ []

says_the_loss : next_call (after_all half_read half_lost) ≡ Some (AskSay (codes "1000 INFO [b] rotated /b\n"))
unfolding brings to_logs to_children to_accept to_starts to_end look_taken rotated_line stamped digits rest_of pieces_of lines_of
says_the_loss = refl

takes_no_loss : last_input (after_all half_read half_lost).point ≡ Some 900
unfolding brings to_logs to_children to_accept to_starts to_end look_taken rest_of pieces_of
takes_no_loss = refl

-- ---- logs that were followed before: one goes on with its half line, and one whose jail has it no more is let go

abbrev followed_before : List Watching
followed_before = log (codes "b") (codes "/b") (Pos 0 []) (codes "abc") ∷ log (codes "b") (codes "/a") (Pos 5 (codes "abcde")) [] ∷ []

goes_on_with_half_a_line : logs_of followed_before (jails two_logs) ≡ log (codes "a") (codes "/a") nine [] ∷ log (codes "b") (codes "/b") (Pos 0 []) (codes "abc") ∷ []
goes_on_with_half_a_line = refl

-- ---- a log that cannot be read, and one that is not there

says_what_it_cannot_read : next_call (after_all run (clock 1000 ∷ look (codes "/a") 9 LookFailed ∷ [])) ≡ Some (AskSay (codes "1000 WARNING [a] cannot read /a\n"))
unfolding brings to_logs to_children to_accept to_starts to_end unread_line stamped digits
says_what_it_cannot_read = refl

says_nothing_of_what_is_absent : next_call (after_all run (clock 1000 ∷ look (codes "/a") 9 Absent ∷ [])) ≡ Some (AskLook (codes "/b") 64 0 65536)
unfolding brings to_logs to_children to_accept to_starts to_end
says_nothing_of_what_is_absent = refl

-- ---- a log that is followed from its end: its first look is an input, and the next one begins there

abbrev from_end : Run
from_end = turning (server (record view { jails = shown (codes "a") false (record { path = codes "/a"; place = Tail } ∷ []) [] ∷ shown (codes "b") true [] [] ∷ [] }) (log (codes "a") (codes "/a") Tail [] ∷ []) 2)

abbrev placed : List Event
placed = clock 1000 ∷ look (codes "/a") 0 (File (record { size = 5; head = codes "abcde"; bytes = codes "abcde" })) ∷ added ++ nobody_comes ∷ Pause 250 ∷ clock 1001 ∷ []

takes_the_end_as_its_place : last_input (after_all from_end placed).point ≡ Some 1000
unfolding brings to_logs to_children to_accept to_starts to_end look_taken rest_of pieces_of lines_of input what name_codec place_codec string_spelling list_of number_digits
takes_the_end_as_its_place = refl

reads_on_from_the_end : next_call (after_all from_end placed) ≡ Some (AskLook (codes "/a") 64 5 65536)
unfolding brings to_logs to_children to_accept to_starts to_end look_taken rest_of pieces_of lines_of input what name_codec place_codec string_spelling list_of number_digits
reads_on_from_the_end = refl

-- ---- a jail that is idle, and a server that is stopping

abbrev idle : Run
idle = turning (record two_logs { state = (server (record view { jails = shown (codes "a") true [] [] ∷ shown (codes "b") false [] [] ∷ [] }) [] 2).state })

passes_an_idle_jail_over : next_call (after_all idle (clock 1000 ∷ [])) ≡ Some (AskLook (codes "/b") 64 0 65536)
unfolding brings to_logs to_children to_accept to_starts to_end
passes_an_idle_jail_over = refl

abbrev stopping : Run
stopping = turning (record two_logs { state = (server (record view { stopping = true }) [] 2).state })

looks_at_none_while_stopping : next_call (after_all stopping (clock 1000 ∷ [])) ≡ Some AskAccept
unfolding brings to_logs to_children to_accept to_starts to_end
looks_at_none_while_stopping = refl

-- ---- two bans that are due at once

abbrev banned : ℕ → Server
banned next = server (record view { jails = shown (codes "a") false [] (seventh 1600 ∷ eighth 1600 ∷ []) ∷ shown (codes "b") false [] [] ∷ []; next_ban = next }) [] 2

not_due_before : next_call (after_all (turning (banned 2)) (clock 1599 ∷ nobody_comes ∷ [])) ≡ Some (AskPause 250)
unfolding brings to_logs to_children to_accept to_starts to_end
not_due_before = refl

-- their lines are one call
both_end : next_call (after_all (turning (banned 2)) (clock 1600 ∷ added)) ≡ Some (AskSay (codes "1600 NOTICE [a] Unban 192.0.2.7\n1600 NOTICE [a] Unban 192.0.2.8\n"))
unfolding brings to_logs to_children to_accept to_starts to_end lines_of line_of stamped digits printed octets input what number_digits
both_end = refl

-- now never goes back
abbrev back_in_time : List Event
back_in_time = clock 1599 ∷ nobody_comes ∷ Pause 250 ∷ clock 950 ∷ []

stays_at_its_moment : (after_all (turning (banned 2)) back_in_time).owed ≡ []
unfolding brings to_logs to_children to_accept to_starts to_end
stays_at_its_moment = refl

-- no serial is left: nothing is taken, and the run ends
ends_where_numbers_are_spent : next_call (after_all (turning (banned 4611686018427387905)) (clock 1600 ∷ [])) ≡ Some (AskSay (codes "1600 ERROR numbers spent\n"))
unfolding brings to_logs to_children to_accept to_starts to_end status_lines error_line stamped digits
ends_where_numbers_are_spent = refl

-- ---- a line that cannot be said

abbrev unsaid : Run
unsaid = after_all (turning (banned 2)) (clock 1600 ∷ added ++ Say (codes "1600 NOTICE [a] Unban 192.0.2.7\n1600 NOTICE [a] Unban 192.0.2.8\n") SayFailed ∷ [])

ends_with_the_fault : unsaid.point ≡ Over SinkFault
unfolding brings to_logs to_children to_accept to_starts to_end lines_of line_of stamped digits printed octets input what number_digits
ends_with_the_fault = refl

says_no_more : next_call unsaid ≡ None
unfolding brings to_logs to_children to_accept to_starts to_end lines_of line_of stamped digits printed octets input what number_digits
says_no_more = refl

counts_none_as_said : unsaid.said ≡ []
unfolding brings to_logs to_children to_accept to_starts to_end lines_of line_of stamped digits printed octets input what number_digits
counts_none_as_said = refl

-- ---- the turns that are left

abbrev quiet : List Event
quiet = clock 1000 ∷ look (codes "/a") 9 Absent ∷ look (codes "/b") 0 Absent ∷ nobody_comes ∷ []

pauses_where_nobody_comes : next_call (after_all run quiet) ≡ Some (AskPause 250)
unfolding brings to_logs to_children to_accept to_starts to_end
pauses_where_nobody_comes = refl

begins_a_second_turn : next_call (after_all run (quiet ++ Pause 250 ∷ [])) ≡ Some AskClock
unfolding brings to_logs to_children to_accept to_starts to_end
begins_a_second_turn = refl

ends_behind_the_last_turn : (after_all run (quiet ++ Pause 250 ∷ quiet ++ Pause 250 ∷ [])).point ≡ Over TurnsSpent
unfolding brings to_logs to_children to_accept to_starts to_end
ends_behind_the_last_turn = refl
