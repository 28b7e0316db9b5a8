use Rattle.std.proofs.Common.{◌≡◌, ◌==◌, ◌++◌, not, filter, length, option_copied}
use Rattle.jail_conf.specs.Words.{is_among_bytes, parts_of, words_by}
use Rattle.jail_conf.proofs.PartLemmas.{left_of}
use Rattle.jail_conf.proofs.words.words.Given as goal

abbrev pub invariant-parts : goal.invariant-parts
invariant-parts l =
    l.words ++ filter (λ word. not (length word == 0)) (parts_of (is_among_bytes l.dividers) (option_copied l.left)) ≡ words_by l.dividers l.fn.text

abbrev pub decreases-parts : goal.decreases-parts
decreases-parts l = left_of (option_copied l.left)
