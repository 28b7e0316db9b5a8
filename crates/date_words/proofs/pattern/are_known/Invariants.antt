use Rattle.std.proofs.Common.{◌≡◌, false, length, drop}
use Rattle.std.specs.Str.{chars}
use Rattle.date_words.specs.Directives.{are_known}
use Rattle.date_words.proofs.pattern.are_known.Given as goal

abbrev pub invariant-loop-c : goal.invariant-loop-c
invariant-loop-c l = are_known l.after (drop (length l.yielded) (chars l.text)) ≡ are_known false (chars l.text)
