use Rattle.std.proofs.Common.{length, ◌≤◌}
use denote.Text.{Utf8}
use denote.Shadow.{shadow}
use Rattle.std.specs.Str.{chars}
use Rattle.log_follow.proofs.GlobLemmas.{IsAlong}
use Rattle.log_follow.proofs.glob.walk_along.Given as goal

-- so far each character fits
abbrev pub invariant-loop-wanted : goal.invariant-loop-wanted
invariant-loop-wanted l = shadow (Utf8 l.pattern) × shadow (Utf8 l.name) × IsAlong (chars l.fn.pattern) (chars l.fn.name) (chars l.pattern) (chars l.name)
    × (length l.pattern ≤ length l.fn.pattern) × (length l.name ≤ length l.fn.name)

abbrev pub decreases-loop-wanted : goal.decreases-loop-wanted
decreases-loop-wanted l = length l.pattern
