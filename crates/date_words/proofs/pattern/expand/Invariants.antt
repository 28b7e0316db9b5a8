use Rattle.std.proofs.Common.{◌≡◌, ◌++◌, length, drop, string_bytes}
use Rattle.std.specs.Str.{chars}
use Rattle.date_words.specs.Directives.{written, expanded}
use Rattle.date_words.proofs.pattern.expand.Given as goal

abbrev pub invariant-loop-c : goal.invariant-loop-c
invariant-loop-c l =
    string_bytes l.written ++ written l.after (drop (length l.yielded) (chars l.text)) ≡ expanded l.text
