-- A configuration that is read again for a client, computed: one that is taken, one that cannot be read, one with a pattern that is refused, and none
-- while the server is stopping.
use Rattle.std.proofs.Common.{◌≡◌, true, Some, List, [], ◌∷◌, ◌++◌, refl}
use Rattle.std.specs.Char.{encode_utf8}
use Rattle.std.specs.Fmt.{digits}
use Rattle.std.specs.Prelude.{codes}
use Rattle.std.specs.Str.{chars, is_utf8}
use Rattle.f2b_base.specs.declared.outside.TreeAnswer.TheVariants.{Tree as TreeGiven, Failed as TreeFailed, TooLarge as TreeTooLarge}
use Rattle.f2b_world.specs.declared.answer.MakeAnswer.TheVariants.{Built, Syntax as WasSyntax}
use Rattle.f2b_world.specs.declared.answer.NamesAnswer.TheVariants.{Failed as NamesFailed}
use Rattle.f2b_world.specs.declared.answer.Said.TheVariants.{Done}
use Rattle.f2b_world.specs.declared.event.Event.{Event}
use Rattle.f2b_world.specs.declared.event.Event.TheVariants.{Config, Make, Names, Say}
use Rattle.client_frames.specs.Comes.{first_word, heard, missing, said_length, words_in}
use Rattle.client_frames.specs.Frames.{four_bytes, framed, reply as reply_frame, reply_body, spelling, two_bytes, word_spelling}
use Rattle.client_replies.specs.Refusals.{refusal}
use Rattle.client_table.specs.Clients.{accepted}
use Rattle.client_words.specs.Commands.{command_of}
use Rattle.client_words.specs.Verbs.{verb_of}
use Rattle.host_ident.specs.Expanded.{expanded as expanded_tags}
use Rattle.ini_interp.specs.Files.{file_of, meaning_of}
use Rattle.ini_interp.specs.Joins.{joined}
use Rattle.ini_interp.specs.Merges.{files_of, read_with, all_read, merged_in}
use Rattle.ini_interp.specs.Sections.{items_of, raw, opened, with_raw}
use Rattle.jail_conf.specs.Conf.{settings_in}
use Rattle.jail_conf.specs.Sources.{text_in, own}
use Rattle.jail_conf.specs.declared.settings.Settings.{Settings}
use Rattle.record_codec.specs.Definitions.{defs as defs_codec}
use Rattle.record_codec.specs.Inputs.{input, what}
use Rattle.record_fields.specs.Lists.{list_of}
use Rattle.record_fields.specs.Numbers.{digits as number_digits}
use Rattle.run_law.specs.Calls.{AskMake, AskNames, AskPause, AskRead, AskSay, AskSend, AskTree}
use Rattle.run_law.specs.Changes.{config_changes}
use Rattle.run_law.specs.Law.{next_call}
use Rattle.run_law.specs.News.{brings}
use Rattle.run_law.specs.Paths.{expanded}
use Rattle.run_law.specs.Patterns.{patterns_of}
use Rattle.run_law.specs.Points.{Run}
use Rattle.run_law.specs.Refusals.{error_line, pattern_refusal}
use Rattle.run_law.specs.Reload.{left_for}
use Rattle.run_law.specs.Requests.{to_heard}
use Rattle.run_law.specs.Said.{lines_of, reloaded_line, stamped, unread_line}
use Rattle.run_law.specs.Server.{Server}
use Rattle.run_law.specs.Turn.{to_accept, to_children, to_end, to_logs, to_starts}
use Rattle.law_rows.proofs.ClientRows.{asked, asking, next_turn, run, view, with_jail}
use Rattle.law_rows.proofs.RowJails.{added, after_all, from_head, jail, last_input, server, turning}

-- a client asks for it at 910
abbrev reload : List Event
reload = asked 8 (codes "reload" ∷ [])

reads_the_configuration : next_call (after_all (run view (asking 8 ∷ [])) reload) ≡ Some (AskTree (codes "/c"))
unfolding brings to_logs to_children to_accept to_starts to_end missing said_length heard words_in first_word is_utf8 chars encode_utf8 to_heard verb_of command_of refusal spelling word_spelling two_bytes
reads_the_configuration = refl

-- ---- it is taken

abbrev no_files : Event
no_files = Config (codes "/c") (TreeGiven (record { files = [] }))

abbrev unchanged : Run
unchanged = after_all (run view (asking 8 ∷ [])) (reload ++ no_files ∷ [])

says_that_it_is_taken : next_call unchanged ≡ Some (AskSay (codes "910 INFO Reloaded\n"))
unfolding brings to_logs to_children to_accept to_starts to_end missing said_length heard words_in first_word is_utf8 chars encode_utf8 to_heard verb_of command_of refusal spelling word_spelling two_bytes settings_in own text_in files_of file_of meaning_of read_with all_read merged_in joined items_of raw opened with_raw config_changes reply_frame framed four_bytes reply_body reloaded_line stamped digits
says_that_it_is_taken = refl

takes_no_input_where_nothing_changes : last_input unchanged.point ≡ Some 900
unfolding brings to_logs to_children to_accept to_starts to_end missing said_length heard words_in first_word is_utf8 chars encode_utf8 to_heard verb_of command_of refusal spelling word_spelling two_bytes settings_in own text_in files_of file_of meaning_of read_with all_read merged_in joined items_of raw opened with_raw config_changes reply_frame framed four_bytes reply_body reloaded_line stamped digits
takes_no_input_where_nothing_changes = refl

tells_the_client : next_call (after_all unchanged (Say (codes "910 INFO Reloaded\n") Done ∷ next_turn)) ≡ Some (AskSend 7 (0 ∷ 0 ∷ 0 ∷ 3 ∷ 0 ∷ codes "OK"))
unfolding brings to_logs to_children to_accept to_starts to_end missing said_length heard words_in first_word is_utf8 chars encode_utf8 to_heard verb_of command_of refusal spelling word_spelling two_bytes settings_in own text_in files_of file_of meaning_of read_with all_read merged_in joined items_of raw opened with_raw config_changes reply_frame framed four_bytes reply_body reloaded_line stamped digits
tells_the_client = refl

-- the jail is in it no longer
abbrev without_jail : Run
without_jail = after_all (run with_jail (asking 8 ∷ [])) (reload ++ no_files ∷ [])

takes_an_input_where_something_changes : last_input without_jail.point ≡ Some 910
unfolding brings to_logs to_children to_accept to_starts to_end missing said_length heard words_in first_word is_utf8 chars encode_utf8 to_heard verb_of command_of refusal spelling word_spelling two_bytes settings_in own text_in files_of file_of meaning_of read_with all_read merged_in joined items_of raw opened with_raw config_changes reply_frame framed four_bytes reply_body reloaded_line stamped digits input what defs_codec list_of number_digits lines_of
takes_an_input_where_something_changes = refl

says_it_once_the_input_is_written : next_call (after_all without_jail added) ≡ Some (AskSay (codes "910 INFO Reloaded\n"))
unfolding brings to_logs to_children to_accept to_starts to_end missing said_length heard words_in first_word is_utf8 chars encode_utf8 to_heard verb_of command_of refusal spelling word_spelling two_bytes settings_in own text_in files_of file_of meaning_of read_with all_read merged_in joined items_of raw opened with_raw config_changes reply_frame framed four_bytes reply_body reloaded_line stamped digits input what defs_codec list_of number_digits lines_of
says_it_once_the_input_is_written = refl

-- ---- it cannot be read

abbrev unread : Run
unread = after_all (run with_jail (asking 8 ∷ accepted 8 900 ∷ [])) (reload ++ Config (codes "/c") TreeFailed ∷ [])

says_that_it_is_not_read : next_call unread ≡ Some (AskSay (codes "910 ERROR Configuration not read\n"))
unfolding brings to_logs to_children to_accept to_starts to_end missing said_length heard words_in first_word is_utf8 chars encode_utf8 to_heard verb_of command_of refusal spelling word_spelling two_bytes reply_frame framed four_bytes reply_body error_line stamped digits
says_that_it_is_not_read = refl

takes_nothing_of_it : last_input unread.point ≡ Some 900
unfolding brings to_logs to_children to_accept to_starts to_end missing said_length heard words_in first_word is_utf8 chars encode_utf8 to_heard verb_of command_of refusal spelling word_spelling two_bytes reply_frame framed four_bytes reply_body error_line stamped digits
takes_nothing_of_it = refl

serves_the_next_client_behind_it : next_call (after_all unread (Say (codes "910 ERROR Configuration not read\n") Done ∷ [])) ≡ Some (AskRead 8 4)
unfolding brings to_logs to_children to_accept to_starts to_end missing said_length heard words_in first_word is_utf8 chars encode_utf8 to_heard verb_of command_of refusal spelling word_spelling two_bytes reply_frame framed four_bytes reply_body error_line stamped digits
serves_the_next_client_behind_it = refl

abbrev unread_alone : List Event
unread_alone = reload ++ Config (codes "/c") TreeTooLarge ∷ Say (codes "910 ERROR Configuration too large\n") Done ∷ next_turn

tells_the_client_why : next_call (after_all (run view (asking 8 ∷ [])) unread_alone) ≡ Some (AskSend 7 (0 ∷ 0 ∷ 0 ∷ 24 ∷ 1 ∷ codes "Configuration too large"))
unfolding brings to_logs to_children to_accept to_starts to_end missing said_length heard words_in first_word is_utf8 chars encode_utf8 to_heard verb_of command_of refusal spelling word_spelling two_bytes reply_frame framed four_bytes reply_body error_line stamped digits
tells_the_client_why = refl

-- ---- patterns and names

-- a server at 910 with that client
abbrev there : Server
there = record (server with_jail [] 9) { clients = accepted 7 900 ∷ []; now = 910 }

-- its run with settings of which all patterns are left
abbrev building : Settings → Run
building settings = left_for 0 there settings (patterns_of settings.defs) (turning there)

abbrev patterned : Settings
patterned = record { defs = record { purge = 86400; jails = jail (codes "a") (codes "x" ∷ codes "y" ∷ []) [] ∷ [] }; socket = codes "/s" }

makes_the_next_pattern : next_call (after_all (building patterned) (Make (codes "x") Built ∷ [])) ≡ Some (AskMake (codes "y"))
unfolding expanded_tags
makes_the_next_pattern = refl

abbrev second_refused : List Event
second_refused = Make (codes "x") Built ∷ Make (codes "y") WasSyntax ∷ []

says_which_pattern_is_refused : next_call (after_all (building patterned) second_refused) ≡ Some (AskSay (codes "910 ERROR Pattern refused: a failregex 2 Syntax\n"))
unfolding expanded_tags brings to_starts to_end reply_frame framed four_bytes reply_body error_line pattern_refusal stamped digits
says_which_pattern_is_refused = refl

takes_nothing_of_it_then : last_input (after_all (building patterned) second_refused).point ≡ Some 900
unfolding expanded_tags brings to_starts to_end reply_frame framed four_bytes reply_body error_line pattern_refusal stamped digits
takes_nothing_of_it_then = refl

-- a wildcard whose directory is the root
abbrev wild : Settings
wild = record { defs = record { purge = 86400; jails = jail (codes "a") [] (from_head (codes "/c?") ∷ []) ∷ [] }; socket = codes "/s" }

asks_for_names_behind_the_patterns : next_call (building wild) ≡ Some (AskNames (codes "/"))
unfolding expanded_tags brings
asks_for_names_behind_the_patterns = refl

says_what_it_cannot_list_first : next_call (after_all (building wild) (Names (codes "/") NamesFailed ∷ [])) ≡ Some (AskSay (codes "910 WARNING [a] cannot read /c?\n910 INFO Reloaded\n"))
unfolding expanded_tags brings expanded config_changes to_starts to_end reply_frame framed four_bytes reply_body unread_line reloaded_line stamped digits
says_what_it_cannot_list_first = refl

-- ---- while the server is stopping

abbrev refused : Run
refused = after_all (run (record view { stopping = true }) (asking 8 ∷ [])) reload

reads_none_while_stopping : next_call refused ≡ Some (AskPause 250)
unfolding brings to_logs to_children to_accept to_starts to_end missing said_length heard words_in first_word is_utf8 chars encode_utf8 to_heard verb_of command_of refusal reply_frame framed four_bytes reply_body spelling word_spelling two_bytes
reads_none_while_stopping = refl

says_that_it_is_stopping : next_call (after_all refused next_turn) ≡ Some (AskSend 7 (0 ∷ 0 ∷ 0 ∷ 19 ∷ 1 ∷ codes "Server is stopping"))
unfolding brings to_logs to_children to_accept to_starts to_end missing said_length heard words_in first_word is_utf8 chars encode_utf8 to_heard verb_of command_of refusal reply_frame framed four_bytes reply_body spelling word_spelling two_bytes
says_that_it_is_stopping = refl
