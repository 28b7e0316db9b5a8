use Rattle.std.proofs.Common.{◌≡◌, ◌+◌, ◌≤◌, min, length, drop}
use Rattle.std.specs.Str.{chars}
use Rattle.date_words.specs.Directives.{times_in, times}
use Rattle.date_words.proofs.pattern.times.Given as goal

abbrev pub invariant-loop-c : goal.invariant-loop-c
invariant-loop-c l =
    (min (l.count + times_in l.letter l.after (drop (length l.yielded) (chars l.text))) 255 ≡ min (times l.letter l.text) 255)
    × (l.count ≤ 255)
