use Rattle.std.proofs.Common.{◌≡◌, codes, option_copied}
use Rattle.std.specs.List.{list_any}
use Rattle.std.specs.Str.{str_eq_ignore_ascii_case}
use Rattle.jail_conf.specs.Words.{is_among_bytes, parts_of, is_one_of}
use Rattle.jail_conf.proofs.PartLemmas.{left_of}
use Rattle.jail_conf.proofs.words.is_one_of.Given as goal

abbrev pub invariant-words : goal.invariant-words
invariant-words l =
    list_any (str_eq_ignore_ascii_case l.word) (parts_of (is_among_bytes (codes " ")) (option_copied l.left)) ≡ is_one_of l.listed l.word

abbrev pub decreases-words : goal.decreases-words
decreases-words l = left_of (option_copied l.left)
