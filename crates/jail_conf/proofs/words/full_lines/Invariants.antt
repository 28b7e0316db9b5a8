use Rattle.std.proofs.Common.{◌≡◌, ◌==◌, ◌++◌, not, filter, map, length, option_copied, codes}
use Rattle.ini_interp.specs.Lines.{trimmed}
use Rattle.jail_conf.specs.Words.{is_among_bytes, parts_of, full_lines}
use Rattle.jail_conf.proofs.PartLemmas.{left_of}
use Rattle.jail_conf.proofs.words.full_lines.Given as goal

abbrev pub invariant-parts : goal.invariant-parts
invariant-parts l =
    l.lines ++ filter (λ line. not (length line == 0)) (map trimmed (parts_of (is_among_bytes (codes "\n")) (option_copied l.left))) ≡ full_lines l.fn.text

abbrev pub decreases-parts : goal.decreases-parts
decreases-parts l = left_of (option_copied l.left)
