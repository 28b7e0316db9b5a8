-- Whole starts from the files of a configuration, computed.
use Rattle.std.proofs.Common.{◌≡◌, Some, None, List, [], ◌∷◌, refl}
use Rattle.std.specs.Char.{encode_utf8}
use Rattle.std.specs.Fmt.{digits}
use Rattle.std.specs.Prelude.{codes}
use Rattle.std.specs.Str.{is_utf8, chars}
use Rattle.f2b_base.specs.declared.outside.Tree.{Tree}
use Rattle.f2b_base.specs.declared.outside.TreeAnswer.TheVariants.{Tree as TreeGiven}
use Rattle.f2b_world.specs.declared.answer.Said.TheVariants.{Done}
use Rattle.f2b_world.specs.declared.event.Event.{Event}
use Rattle.f2b_world.specs.declared.event.Event.TheVariants.{Say, Config, Pause}
use Rattle.ini_interp.specs.Files.{file_of, meaning_of}
use Rattle.ini_interp.specs.Joins.{joined}
use Rattle.ini_interp.specs.Known.{known_replaced}
use Rattle.ini_interp.specs.Lines.{trimmed_start, trimmed_end, opened_by, item_of, content_form, form_of}
use Rattle.ini_interp.specs.Merges.{files_of, read_with, all_read, merged_in}
use Rattle.ini_interp.specs.Sections.{items_of, raw, opened, with_raw}
use Rattle.ini_interp.specs.Values.{replaced}
use Rattle.jail_conf.specs.Conf.{settings_in}
use Rattle.jail_conf.specs.Sources.{text_in, own}
use Rattle.journal_slots.specs.Grammar.{parse_slot}
use Rattle.run_law.specs.Calls.{AskSay, AskStore}
use Rattle.run_law.specs.Changes.{config_changes}
use Rattle.run_law.specs.Law.{begin, next_call}
use Rattle.run_law.specs.News.{brings}
use Rattle.run_law.specs.Points.{Run, Over}
use Rattle.run_law.specs.Refusals.{conf_refusal, error_line, status_lines}
use Rattle.run_law.specs.Said.{ready_line, stamped}
use Rattle.run_law.specs.Turn.{to_accept, to_children, to_end, to_logs, to_starts}
use Rattle.run_law.specs.declared.status.Status.TheVariants.{TurnsSpent}
use Rattle.law_rows.proofs.RowJails.{after_all, clock, listening, named_slots, no_slots, nobody_comes}

abbrev asked : Run
asked = begin (codes "--conf" ∷ codes "/c" ∷ codes "--turns" ∷ codes "1" ∷ []) no_slots

abbrev given : Tree → Event
given tree = Config (codes "/c") (TreeGiven tree)

-- an item stands before any section
abbrev without_section : Tree
without_section = record { files = record { path = codes "jail.conf"; content = codes "a = 1\n" } ∷ [] }

refuses_an_item_without_a_section : next_call (after_all asked (given without_section ∷ [])) ≡ Some (AskSay (codes "0 ERROR Configuration refused: jail.conf [] : NoSection 1\n"))
unfolding settings_in own text_in files_of file_of meaning_of read_with all_read merged_in joined known_replaced items_of raw opened with_raw replaced trimmed_start trimmed_end opened_by item_of content_form form_of is_utf8 chars encode_utf8 conf_refusal status_lines error_line stamped digits
refuses_an_item_without_a_section = refl

-- ---- no files at all, and one turn

abbrev no_files : Tree
no_files = record { files = [] }

abbrev one_turn : List Event
one_turn =
    given no_files
    ∷ named_slots (codes "/var/run/fail2ban/fail2ban.sock")
    ∷ listening (codes "/var/run/fail2ban/fail2ban.sock")
    ∷ clock 1000
    ∷ Say (codes "1000 INFO Server ready\n") Done
    ∷ clock 1000
    ∷ nobody_comes
    ∷ Pause 250
    ∷ []

names_the_slots_behind_no_files : next_call (after_all asked (given no_files ∷ [])) ≡ Some (AskStore (codes "/var/run/fail2ban/fail2ban.sock"))
unfolding settings_in own text_in files_of file_of meaning_of read_with all_read merged_in joined items_of raw opened with_raw digits
names_the_slots_behind_no_files = refl

is_over_after_a_turn : (after_all asked one_turn).point ≡ Over TurnsSpent
unfolding settings_in own text_in files_of file_of meaning_of read_with all_read merged_in joined items_of raw opened with_raw brings config_changes ready_line stamped digits to_logs to_children to_accept to_starts to_end parse_slot
is_over_after_a_turn = refl

has_said_that_it_is_ready : (after_all asked one_turn).said ≡ codes "1000 INFO Server ready\n" ∷ []
unfolding settings_in own text_in files_of file_of meaning_of read_with all_read merged_in joined items_of raw opened with_raw brings config_changes ready_line stamped digits to_logs to_children to_accept to_starts to_end parse_slot
has_said_that_it_is_ready = refl

owes_and_asks_no_more : next_call (after_all asked one_turn) ≡ None
unfolding settings_in own text_in files_of file_of meaning_of read_with all_read merged_in joined items_of raw opened with_raw brings config_changes ready_line stamped digits to_logs to_children to_accept to_starts to_end parse_slot
owes_and_asks_no_more = refl
