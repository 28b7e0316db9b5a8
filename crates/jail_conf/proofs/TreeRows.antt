-- A worked configuration whole: what its files come to, by the definitions alone.
use Rattle.std.proofs.Common.{◌≡◌, refl}
use Rattle.std.specs.Prelude.{List, [], ◌∷◌, ◌++◌, map, length, Result, Ok, Err, codes}
use Rattle.std.specs.Str.{is_utf8, chars}
use Rattle.std.specs.Char.{encode_utf8}
use Rattle.std.specs.Fmt.{digits}
use Rattle.std.specs.Net.Reader.{read_ipv4, read_octet, read_number, read_ipv6, read_segments, read_segment}
use Rattle.f2b_base.specs.declared.jail.JailDef.{JailDef}
use Rattle.f2b_base.specs.declared.outside.Tree.{Tree}
use Rattle.f2b_base.specs.Addresses.{octets_number, groups_number, read_addr, written_addr}
use Rattle.f2b_base.specs.Masks.{read_cidr, read_bits}
use Rattle.date_words.specs.Directives.{is_date_pattern, times}
use Rattle.host_ident.specs.Expanded.{hosts_in}
use Rattle.ini_interp.specs.Files.{file_of, meaning_of}
use Rattle.ini_interp.specs.Joins.{joined}
use Rattle.ini_interp.specs.Known.{known_replaced}
use Rattle.ini_interp.specs.Lines.{trimmed_start, trimmed_end, opened_by, item_of, content_form, form_of}
use Rattle.ini_interp.specs.Merges.{files_of, read_with, all_read, merged_in}
use Rattle.ini_interp.specs.References.{referred, percent_piece, piece_at, pieces_from}
use Rattle.ini_interp.specs.Sections.{items_of, raw, opened, with_raw}
use Rattle.ini_interp.specs.Values.{replaced}
use Rattle.tag_subst.specs.Tags.{read}
use Rattle.jail_conf.specs.declared.conf_error.ConfError.{ConfError}
use Rattle.jail_conf.specs.declared.settings.Settings.{Settings}
use Rattle.jail_conf.specs.Actions.{lane, lane_of_both, lane_of_each, named_action, action_of, actions_of}
use Rattle.jail_conf.specs.Conf.{is_enabled, next_jail, settings_in, conf}
use Rattle.jail_conf.specs.Jails.{named_filter, filter_of, ignored_of, lines_of, counts_of, rule_of, unsupported_in, jail_with, jail_of}
use Rattle.jail_conf.specs.Options.{named}
use Rattle.jail_conf.specs.Sources.{text_in, own, own_or}
use Rattle.jail_conf.specs.Times.{time_word}

abbrev worked_tree : Tree
worked_tree = record {
  files =
      record {
        path = codes "action.d/note.conf";
        content =
            codes "[Definition]\n"
            ++ codes "actionstart = echo start <name>\n"
            ++ codes "actionstop = echo stop <name>\n"
            ++ codes "actionban = echo ban <ip> <port> <failures> <bantime>\n"
            ++ codes "actionunban = echo unban <ip> <port>\n";
      }
      ∷ record {
        path = codes "filter.d/sshd.conf";
        content =
            codes "[Definition]\n"
            ++ codes "prefregex = ^\\s*\\S+ sshd(?:-session)?\\[[0-9]+\\]: <F-CONTENT>.+</F-CONTENT>$\n"
            ++ codes "failregex = ^Failed \\S+ for (?:invalid user )?<F-USER>.*</F-USER> from <HOST> port [0-9]+(?: ssh2)?$\n"
            ++ codes "    ^Invalid user <F-USER>.*</F-USER> from <HOST>(?: port [0-9]+)?$\n"
            ++ codes "    ^Connection closed by authenticating user <F-USER>.*</F-USER> <HOST> port [0-9]+ \\[preauth\\]$\n"
            ++ codes "ignoreregex =\n";
      }
      ∷ record {
        path = codes "jail.conf";
        content =
            codes "[INCLUDES]\n"
            ++ codes "before = paths.conf\n"
            ++ codes "[DEFAULT]\n"
            ++ codes "ignoreip = 127.0.0.1/8 ::1\n"
            ++ codes "bantime  = 10m\n"
            ++ codes "findtime = 10m\n"
            ++ codes "maxretry = 5\n"
            ++ codes "backend = auto\n"
            ++ codes "usedns = warn\n"
            ++ codes "logencoding = auto\n"
            ++ codes "mode = normal\n"
            ++ codes "filter = %(__name__)s[mode=%(mode)s]\n"
            ++ codes "banaction = note\n"
            ++ codes "action_ = %(banaction)s[port=\"%(port)s\"]\n"
            ++ codes "action = %(action_)s\n"
            ++ codes "[sshd]\n"
            ++ codes "port = ssh\n"
            ++ codes "logpath = %(sshd_log)s\n";
      }
      ∷ record {
        path = codes "jail.local";
        content =
            codes "[sshd]\n"
            ++ codes "enabled = true\n"
            ++ codes "maxretry = 3\n";
      }
      ∷ record {
        path = codes "paths.conf";
        content =
            codes "[INCLUDES]\n"
            ++ codes "after = paths-overrides.local\n"
            ++ codes "[DEFAULT]\n"
            ++ codes "sshd_log = /var/log/auth.log\n";
      }
      ∷ [];
}

-- what each jail has in a place
abbrev of_jails : {A : Type 0} → (JailDef → A) → Result Settings ConfError → Result (List A) ConfError
of_jails field (Ok settings) = Ok (map field settings.defs.jails)
of_jails field (Err refusal) = Err refusal

pub three_failures : of_jails (λ jail. jail.maxretry) (conf worked_tree) ≡ Ok (3 ∷ [])
unfolding trimmed_start trimmed_end opened_by item_of content_form form_of items_of raw opened with_raw referred percent_piece piece_at pieces_from replaced read hosts_in read_cidr read_bits written_addr read_addr octets_number groups_number read_ipv4 read_octet read_number read_ipv6 read_segments read_segment digits files_of file_of meaning_of read_with all_read merged_in joined known_replaced is_utf8 chars encode_utf8 time_word named is_date_pattern times text_in own own_or named_filter filter_of ignored_of lines_of counts_of rule_of unsupported_in jail_with jail_of lane lane_of_both lane_of_each named_action action_of actions_of is_enabled next_jail settings_in
three_failures = refl

pub one_log : of_jails (λ jail. map (λ watch. watch.path) jail.watches) (conf worked_tree) ≡ Ok ((codes "/var/log/auth.log" ∷ []) ∷ [])
unfolding trimmed_start trimmed_end opened_by item_of content_form form_of items_of raw opened with_raw referred percent_piece piece_at pieces_from replaced read hosts_in read_cidr read_bits written_addr read_addr octets_number groups_number read_ipv4 read_octet read_number read_ipv6 read_segments read_segment digits files_of file_of meaning_of read_with all_read merged_in joined known_replaced is_utf8 chars encode_utf8 time_word named is_date_pattern times text_in own own_or named_filter filter_of ignored_of lines_of counts_of rule_of unsupported_in jail_with jail_of lane lane_of_both lane_of_each named_action action_of actions_of is_enabled next_jail settings_in
one_log = refl

pub command_of_a_ban : of_jails (λ jail. map (λ action. action.ban) jail.actions) (conf worked_tree) ≡ Ok ((codes "echo ban <ip> ssh <failures> <bantime>" ∷ []) ∷ [])
unfolding trimmed_start trimmed_end opened_by item_of content_form form_of items_of raw opened with_raw referred percent_piece piece_at pieces_from replaced read hosts_in read_cidr read_bits written_addr read_addr octets_number groups_number read_ipv4 read_octet read_number read_ipv6 read_segments read_segment digits files_of file_of meaning_of read_with all_read merged_in joined known_replaced is_utf8 chars encode_utf8 time_word named is_date_pattern times text_in own own_or named_filter filter_of ignored_of lines_of counts_of rule_of unsupported_in jail_with jail_of lane lane_of_both lane_of_each named_action action_of actions_of is_enabled next_jail settings_in
command_of_a_ban = refl

pub command_of_a_start : of_jails (λ jail. map (λ action. action.start) jail.actions) (conf worked_tree) ≡ Ok ((codes "echo start sshd" ∷ []) ∷ [])
unfolding trimmed_start trimmed_end opened_by item_of content_form form_of items_of raw opened with_raw referred percent_piece piece_at pieces_from replaced read hosts_in read_cidr read_bits written_addr read_addr octets_number groups_number read_ipv4 read_octet read_number read_ipv6 read_segments read_segment digits files_of file_of meaning_of read_with all_read merged_in joined known_replaced is_utf8 chars encode_utf8 time_word named is_date_pattern times text_in own own_or named_filter filter_of ignored_of lines_of counts_of rule_of unsupported_in jail_with jail_of lane lane_of_both lane_of_each named_action action_of actions_of is_enabled next_jail settings_in
command_of_a_start = refl

pub three_patterns : of_jails (λ jail. length jail.fail) (conf worked_tree) ≡ Ok (3 ∷ [])
unfolding trimmed_start trimmed_end opened_by item_of content_form form_of items_of raw opened with_raw referred percent_piece piece_at pieces_from replaced read hosts_in read_cidr read_bits written_addr read_addr octets_number groups_number read_ipv4 read_octet read_number read_ipv6 read_segments read_segment digits files_of file_of meaning_of read_with all_read merged_in joined known_replaced is_utf8 chars encode_utf8 time_word named is_date_pattern times text_in own own_or named_filter filter_of ignored_of lines_of counts_of rule_of unsupported_in jail_with jail_of lane lane_of_both lane_of_each named_action action_of actions_of is_enabled next_jail settings_in
three_patterns = refl

pub never_banned : of_jails (λ jail. map (λ mask. mask.bits) jail.ignore) (conf worked_tree) ≡ Ok ((8 ∷ 128 ∷ 8 ∷ 128 ∷ []) ∷ [])
unfolding trimmed_start trimmed_end opened_by item_of content_form form_of items_of raw opened with_raw referred percent_piece piece_at pieces_from replaced read hosts_in read_cidr read_bits written_addr read_addr octets_number groups_number read_ipv4 read_octet read_number read_ipv6 read_segments read_segment digits files_of file_of meaning_of read_with all_read merged_in joined known_replaced is_utf8 chars encode_utf8 time_word named is_date_pattern times text_in own own_or named_filter filter_of ignored_of lines_of counts_of rule_of unsupported_in jail_with jail_of lane lane_of_both lane_of_each named_action action_of actions_of is_enabled next_jail settings_in
never_banned = refl
