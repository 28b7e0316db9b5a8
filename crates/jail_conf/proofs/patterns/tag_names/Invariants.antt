use Rattle.std.proofs.Common.{◌≡◌, ◌++◌, codes, option_copied}
use Rattle.jail_conf.specs.Patterns.{names_after, tag_names}
use Rattle.jail_conf.specs.Words.{is_among_bytes, parts_of}
use Rattle.jail_conf.proofs.PartLemmas.{left_of}
use Rattle.jail_conf.proofs.patterns.tag_names.Given as goal

abbrev pub invariant-parts : goal.invariant-parts
invariant-parts l = l.names ++ names_after l.before (parts_of (is_among_bytes (codes "<")) (option_copied l.left)) ≡ tag_names l.pattern

abbrev pub decreases-parts : goal.decreases-parts
decreases-parts l = left_of (option_copied l.left)
