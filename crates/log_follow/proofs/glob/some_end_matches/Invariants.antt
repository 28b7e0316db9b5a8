use Rattle.std.proofs.Common.{◌≡◌, length, ◌+◌}
use denote.Text.{Utf8}
use denote.Shadow.{shadow}
use Rattle.std.specs.Str.{chars}
use Rattle.log_follow.specs.Globs.{globs, any_end}
use Rattle.log_follow.proofs.glob.some_end_matches.Given as goal

-- it is the same question still
abbrev pub invariant-loop-behind : goal.invariant-loop-behind
invariant-loop-behind l = shadow (Utf8 l.pattern) × shadow (Utf8 l.name)
    × (any_end (globs (chars l.fn.pattern)) (chars l.fn.name) ≡ any_end (globs (chars l.pattern)) (chars l.name))

abbrev pub decreases-loop-behind : goal.decreases-loop-behind
decreases-loop-behind l = length l.pattern + length l.name
