-- Clients of a turn, computed: who is let in, what is read and replied, who is closed, and a stop.
use Rattle.std.proofs.Common.{ℕ, ◌≡◌, true, false, Some, List, [], ◌∷◌, ◌++◌, refl, take, map}
use Rattle.std.specs.Char.{encode_utf8}
use Rattle.std.specs.Fmt.{digits}
use Rattle.std.specs.Net.Reader.{read_ipv4, read_octet, read_number}
use Rattle.std.specs.Prelude.{codes}
use Rattle.std.specs.Str.{chars, is_utf8}
use Rattle.f2b_base.specs.Addresses.{octets, octets_number, printed, read_addr, written_addr}
use Rattle.f2b_base.specs.Span.{plain_span, span_of}
use Rattle.f2b_base.specs.declared.view.View.{View}
use Rattle.f2b_world.specs.declared.answer.Accept.TheVariants.{Conn}
use Rattle.f2b_world.specs.declared.answer.GateRead.TheVariants as read
use Rattle.f2b_world.specs.declared.answer.GateWrite.TheVariants as write
use Rattle.f2b_world.specs.declared.answer.Said.TheVariants.{Done}
use Rattle.f2b_world.specs.declared.event.Event.{Event}
use Rattle.f2b_world.specs.declared.event.Event.TheVariants.{GateAccept, GateClose, GateRead, GateWrite, Pause, Say}
use Rattle.client_frames.specs.Comes.{first_word, heard, missing, said_length, words_in}
use Rattle.client_frames.specs.Frames.{four_bytes, framed, reply as reply_frame, reply_body, spelling, two_bytes, word_spelling}
use Rattle.client_replies.specs.Changes.{effect}
use Rattle.client_replies.specs.Refusals.{refusal}
use Rattle.client_replies.specs.Replies.{reply}
use Rattle.client_table.specs.Clients.{Client, accepted}
use Rattle.client_words.specs.Commands.{command_of}
use Rattle.client_words.specs.Verbs.{verb_of}
use Rattle.record_codec.specs.Definitions.{name as name_codec}
use Rattle.record_codec.specs.Inputs.{input, what}
use Rattle.record_fields.specs.Lists.{list_of}
use Rattle.record_fields.specs.Numbers.{digits as number_digits}
use Rattle.record_fields.specs.Texts.{string_spelling}
use Rattle.run_law.specs.Calls.{AskAccept, AskClose, AskPause, AskRead, AskSay, AskSend}
use Rattle.run_law.specs.Law.{next_call}
use Rattle.run_law.specs.News.{brings}
use Rattle.run_law.specs.Points.{Run, Over}
use Rattle.run_law.specs.Requests.{to_heard}
use Rattle.run_law.specs.Said.{line_of, lines_of, stamped, stopping_line}
use Rattle.run_law.specs.Turn.{to_accept, to_children, to_end, to_logs, to_starts}
use Rattle.run_law.specs.declared.status.Status.TheVariants.{Stopped}
use Rattle.law_rows.proofs.RowJails.{added, after_all, clock, jail, last_input, nobody_comes, server, shown, turning}

-- a view of no jails at 900
abbrev pub view : View
view = record { at = 900; defs = record { purge = 86400; jails = [] }; stopping = false; up = []; jails = []; jobs = []; next_job = 0; next_ban = 0 }

-- a run of that view with these clients, before a turn
abbrev pub run : View → List Client → Run
run v clients = turning (record (server v [] 9) { clients = clients })

abbrev comes : ℕ → Event
comes conn = GateAccept (Conn conn)

-- ---- who is let in

lets_one_in : next_call (after_all (run view []) (clock 910 ∷ [])) ≡ Some AskAccept
unfolding brings to_logs to_children to_accept to_starts to_end
lets_one_in = refl

-- the four bytes of a length are read first
serves_it_in_the_same_turn : next_call (after_all (run view []) (clock 910 ∷ comes 7 ∷ [])) ≡ Some (AskRead 7 4)
unfolding brings to_logs to_children to_accept to_starts to_end missing said_length
serves_it_in_the_same_turn = refl

serves_it_before_greater_numbers : next_call (after_all (run view (accepted 7 900 ∷ [])) (clock 910 ∷ comes 3 ∷ [])) ≡ Some (AskRead 3 4)
unfolding brings to_logs to_children to_accept to_starts to_end missing said_length
serves_it_before_greater_numbers = refl

serves_it_behind_the_others : next_call (after_all (run view (accepted 7 900 ∷ [])) (clock 910 ∷ comes 8 ∷ GateRead 7 4 read.Quiet ∷ [])) ≡ Some (AskRead 8 4)
unfolding brings to_logs to_children to_accept to_starts to_end missing said_length to_heard
serves_it_behind_the_others = refl

-- ---- sixteen are there

abbrev others : List ℕ
others = 2 ∷ 3 ∷ 4 ∷ 5 ∷ 6 ∷ 7 ∷ 8 ∷ 9 ∷ 10 ∷ 11 ∷ 12 ∷ 13 ∷ 14 ∷ 15 ∷ 16 ∷ []

abbrev full : Run
full = run view (map (λ conn. accepted conn 900) (1 ∷ others))

lets_none_in : next_call (after_all full (clock 910 ∷ [])) ≡ Some (AskRead 1 4)
unfolding brings to_logs to_children to_accept to_starts to_end missing said_length
lets_none_in = refl

-- the first one ends
abbrev one_ends : List Event
one_ends = clock 910 ∷ GateRead 1 4 read.End ∷ []

closes_it_at_once : next_call (after_all full one_ends) ≡ Some (AskClose 1)
unfolding brings to_logs to_children to_accept to_starts to_end missing said_length to_heard
closes_it_at_once = refl

serves_the_next_in_its_place : next_call (after_all full (one_ends ++ GateClose 1 ∷ [])) ≡ Some (AskRead 2 4)
unfolding brings to_logs to_children to_accept to_starts to_end missing said_length to_heard
serves_the_next_in_its_place = refl

abbrev one_closed : List Event
one_closed = one_ends ++ GateClose 1 ∷ map (λ conn. GateRead conn 4 read.Quiet) others ++ Pause 250 ∷ clock 911 ∷ []

lets_one_in_then : next_call (after_all full one_closed) ≡ Some AskAccept
unfolding brings to_logs to_children to_accept to_starts to_end missing said_length to_heard
lets_one_in_then = refl

-- ---- a ping, whose length says six bytes

abbrev pinged : List Event
pinged =
    clock 910
    ∷ comes 7
    ∷ GateRead 7 4 (read.Bytes (0 ∷ 0 ∷ 0 ∷ 6 ∷ []))
    ∷ Pause 250
    ∷ clock 911
    ∷ nobody_comes
    ∷ GateRead 7 6 (read.Bytes (0 ∷ 4 ∷ codes "ping"))
    ∷ []

reads_what_the_length_says : next_call (after_all (run view []) (take 6 pinged)) ≡ Some (AskRead 7 6)
unfolding brings to_logs to_children to_accept to_starts to_end missing said_length heard to_heard
reads_what_the_length_says = refl

serves_each_once_a_turn : next_call (after_all (run view []) pinged) ≡ Some (AskPause 250)
unfolding brings to_logs to_children to_accept to_starts to_end missing said_length heard words_in first_word is_utf8 chars encode_utf8 to_heard verb_of command_of effect refusal reply reply_frame framed four_bytes reply_body
serves_each_once_a_turn = refl

takes_no_ping : last_input (after_all (run view []) pinged).point ≡ Some 900
unfolding brings to_logs to_children to_accept to_starts to_end missing said_length heard words_in first_word is_utf8 chars encode_utf8 to_heard verb_of command_of effect refusal reply reply_frame framed four_bytes reply_body
takes_no_ping = refl

abbrev replying : List Event
replying = pinged ++ Pause 250 ∷ clock 912 ∷ nobody_comes ∷ []

replies_in_the_next_turn : next_call (after_all (run view []) replying) ≡ Some (AskSend 7 (0 ∷ 0 ∷ 0 ∷ 5 ∷ 0 ∷ codes "pong"))
unfolding brings to_logs to_children to_accept to_starts to_end missing said_length heard words_in first_word is_utf8 chars encode_utf8 to_heard verb_of command_of effect refusal reply reply_frame framed four_bytes reply_body
replies_in_the_next_turn = refl

-- it takes six of the nine bytes
abbrev partly_taken : List Event
partly_taken = replying ++ GateWrite 7 (0 ∷ 0 ∷ 0 ∷ 5 ∷ 0 ∷ codes "pong") (write.Took 6) ∷ Pause 250 ∷ clock 913 ∷ nobody_comes ∷ []

offers_the_rest_in_the_next_turn : next_call (after_all (run view []) partly_taken) ≡ Some (AskSend 7 (codes "ong"))
unfolding brings to_logs to_children to_accept to_starts to_end missing said_length heard words_in first_word is_utf8 chars encode_utf8 to_heard verb_of command_of effect refusal reply reply_frame framed four_bytes reply_body
offers_the_rest_in_the_next_turn = refl

-- ---- a frame that is cut

-- of its request the length came, which says so many bytes
abbrev pub asking : ℕ → Client
asking count = record (accepted 7 900) { hearing = record { came = 0 ∷ 0 ∷ 0 ∷ count ∷ []; refused = false } }

abbrev cut : List Event
cut = clock 910 ∷ nobody_comes ∷ GateRead 7 6 (read.Bytes (0 ∷ 4 ∷ codes "p")) ∷ Pause 250 ∷ clock 911 ∷ nobody_comes ∷ []

waits_for_the_rest : next_call (after_all (run view (asking 6 ∷ [])) cut) ≡ Some (AskRead 7 3)
unfolding brings to_logs to_children to_accept to_starts to_end missing said_length heard to_heard
waits_for_the_rest = refl

-- ---- words that are no command

-- these words come behind their length
abbrev pub asked : ℕ → List (List ℕ) → List Event
asked count words = clock 910 ∷ nobody_comes ∷ GateRead 7 count (read.Bytes (spelling words)) ∷ []

abbrev pub next_turn : List Event
next_turn = Pause 250 ∷ clock 911 ∷ nobody_comes ∷ []

says_that_there_is_no_such_command : next_call (after_all (run view (asking 6 ∷ [])) (asked 6 (codes "pong" ∷ []) ++ next_turn)) ≡ Some (AskSend 7 (0 ∷ 0 ∷ 0 ∷ 16 ∷ 1 ∷ codes "Invalid command"))
unfolding brings to_logs to_children to_accept to_starts to_end missing said_length heard words_in first_word is_utf8 chars encode_utf8 to_heard verb_of command_of reply_frame framed four_bytes reply_body spelling word_spelling two_bytes
says_that_there_is_no_such_command = refl

takes_no_wrong_words : last_input (after_all (run view (asking 6 ∷ [])) (asked 6 (codes "pong" ∷ []))).point ≡ Some 900
unfolding brings to_logs to_children to_accept to_starts to_end missing said_length heard words_in first_word is_utf8 chars encode_utf8 to_heard verb_of command_of reply_frame framed four_bytes reply_body spelling word_spelling two_bytes
takes_no_wrong_words = refl

-- ---- a length of 65,537 bytes, one more than a request may have

abbrev too_long : List Event
too_long = clock 910 ∷ comes 7 ∷ GateRead 7 4 (read.Bytes (0 ∷ 1 ∷ 0 ∷ 1 ∷ [])) ∷ next_turn

says_that_it_is_too_long : next_call (after_all (run view []) too_long) ≡ Some (AskSend 7 (0 ∷ 0 ∷ 0 ∷ 15 ∷ 1 ∷ codes "Frame too long"))
unfolding brings to_logs to_children to_accept to_starts to_end missing said_length heard to_heard reply_frame framed four_bytes reply_body
says_that_it_is_too_long = refl

closes_it_once_that_is_written : next_call (after_all (run view []) (too_long ++ GateWrite 7 (0 ∷ 0 ∷ 0 ∷ 15 ∷ 1 ∷ codes "Frame too long") (write.Took 19) ∷ [])) ≡ Some (AskClose 7)
unfolding brings to_logs to_children to_accept to_starts to_end missing said_length heard to_heard reply_frame framed four_bytes reply_body
closes_it_once_that_is_written = refl

-- ---- 30 seconds without a byte

-- one that was let in at 900 is read once more
abbrev silent : List Event
silent = clock 930 ∷ nobody_comes ∷ []

reads_it_once_more : next_call (after_all (run view (accepted 7 900 ∷ [])) silent) ≡ Some (AskRead 7 4)
unfolding brings to_logs to_children to_accept to_starts to_end missing said_length
reads_it_once_more = refl

closes_it_for_its_silence : next_call (after_all (run view (accepted 7 900 ∷ [])) (silent ++ GateRead 7 4 read.Quiet ∷ [])) ≡ Some (AskClose 7)
unfolding brings to_logs to_children to_accept to_starts to_end missing said_length to_heard
closes_it_for_its_silence = refl

keeps_it_for_a_byte : next_call (after_all (run view (accepted 7 900 ∷ [])) (silent ++ GateRead 7 4 (read.Bytes (0 ∷ [])) ∷ [])) ≡ Some (AskPause 250)
unfolding brings to_logs to_children to_accept to_starts to_end missing said_length heard to_heard
keeps_it_for_a_byte = refl

closes_none_a_second_sooner : next_call (after_all (run view (accepted 7 901 ∷ [])) (silent ++ GateRead 7 4 read.Quiet ∷ [])) ≡ Some (AskPause 250)
unfolding brings to_logs to_children to_accept to_starts to_end missing said_length to_heard
closes_none_a_second_sooner = refl

-- ---- a ban by hand

abbrev pub with_jail : View
with_jail = record view { defs = record { purge = 86400; jails = jail (codes "a") [] [] ∷ [] }; jails = shown (codes "a") false [] [] ∷ [] }

abbrev banning : List Event
banning = asked 26 (codes "set" ∷ codes "a" ∷ codes "banip" ∷ codes "192.0.2.7" ∷ [])

takes_the_ban : last_input (after_all (run with_jail (asking 26 ∷ [])) banning).point ≡ Some 910
unfolding brings to_logs to_children to_accept to_starts to_end missing said_length heard words_in first_word is_utf8 chars encode_utf8 to_heard verb_of command_of read_addr written_addr octets_number read_ipv4 read_octet read_number effect refusal reply reply_frame framed four_bytes reply_body spelling word_spelling two_bytes plain_span span_of input what name_codec string_spelling list_of number_digits
takes_the_ban = refl

says_the_ban : next_call (after_all (run with_jail (asking 26 ∷ [])) (banning ++ added)) ≡ Some (AskSay (codes "910 NOTICE [a] Ban 192.0.2.7\n"))
unfolding brings to_logs to_children to_accept to_starts to_end missing said_length heard words_in first_word is_utf8 chars encode_utf8 to_heard verb_of command_of read_addr written_addr octets_number read_ipv4 read_octet read_number effect refusal reply reply_frame framed four_bytes reply_body spelling word_spelling two_bytes plain_span span_of input what name_codec string_spelling list_of number_digits lines_of line_of stamped digits printed octets
says_the_ban = refl

replies_how_many_are_banned : next_call (after_all (run with_jail (asking 26 ∷ [])) (banning ++ added ++ Say (codes "910 NOTICE [a] Ban 192.0.2.7\n") Done ∷ next_turn)) ≡ Some (AskSend 7 (0 ∷ 0 ∷ 0 ∷ 2 ∷ 0 ∷ codes "1"))
unfolding brings to_logs to_children to_accept to_starts to_end missing said_length heard words_in first_word is_utf8 chars encode_utf8 to_heard verb_of command_of read_addr written_addr octets_number read_ipv4 read_octet read_number effect refusal reply reply_frame framed four_bytes reply_body spelling word_spelling two_bytes plain_span span_of input what name_codec string_spelling list_of number_digits lines_of line_of stamped digits printed octets
replies_how_many_are_banned = refl

-- ---- a stop

abbrev stopping : List Event
stopping = asked 6 (codes "stop" ∷ []) ++ added

says_that_it_stops : next_call (after_all (run view (asking 6 ∷ [])) stopping) ≡ Some (AskSay (codes "910 INFO Stopping\n"))
unfolding brings to_logs to_children to_accept to_starts to_end missing said_length heard words_in first_word is_utf8 chars encode_utf8 to_heard verb_of command_of effect refusal reply reply_frame framed four_bytes reply_body spelling word_spelling two_bytes input what number_digits lines_of stopping_line stamped digits
says_that_it_stops = refl

-- the reply is not written yet
goes_on_until_it_has_replied : next_call (after_all (run view (asking 6 ∷ [])) (stopping ++ Say (codes "910 INFO Stopping\n") Done ∷ [])) ≡ Some (AskPause 250)
unfolding brings to_logs to_children to_accept to_starts to_end missing said_length heard words_in first_word is_utf8 chars encode_utf8 to_heard verb_of command_of effect refusal reply reply_frame framed four_bytes reply_body spelling word_spelling two_bytes input what number_digits lines_of stopping_line stamped digits
goes_on_until_it_has_replied = refl

abbrev shutdown_begun : List ℕ
shutdown_begun = 0 ∷ 0 ∷ 0 ∷ 15 ∷ 0 ∷ codes "Shutdown begun"

abbrev stopped : List Event
stopped = stopping ++ Say (codes "910 INFO Stopping\n") Done ∷ next_turn ++ GateWrite 7 shutdown_begun (write.Took 19) ∷ []

is_over_once_the_reply_is_taken : (after_all (run view (asking 6 ∷ [])) stopped).point ≡ Over Stopped
unfolding brings to_logs to_children to_accept to_starts to_end missing said_length heard words_in first_word is_utf8 chars encode_utf8 to_heard verb_of command_of effect refusal reply reply_frame framed four_bytes reply_body spelling word_spelling two_bytes input what number_digits lines_of stopping_line stamped digits
is_over_once_the_reply_is_taken = refl

-- ---- while the server is stopping

abbrev unbanning : Run
unbanning = after_all (run (record view { stopping = true }) (asking 14 ∷ [])) (asked 14 (codes "unban" ∷ codes "--all" ∷ []))

takes_no_unban_while_stopping : last_input unbanning.point ≡ Some 900
unfolding brings to_logs to_children to_accept to_starts to_end missing said_length heard words_in first_word is_utf8 chars encode_utf8 to_heard verb_of command_of effect refusal reply reply_frame framed four_bytes reply_body spelling word_spelling two_bytes
takes_no_unban_while_stopping = refl

says_that_it_is_stopping : next_call (after_all unbanning next_turn) ≡ Some (AskSend 7 (0 ∷ 0 ∷ 0 ∷ 19 ∷ 1 ∷ codes "Server is stopping"))
unfolding brings to_logs to_children to_accept to_starts to_end missing said_length heard words_in first_word is_utf8 chars encode_utf8 to_heard verb_of command_of effect refusal reply reply_frame framed four_bytes reply_body spelling word_spelling two_bytes
says_that_it_is_stopping = refl
