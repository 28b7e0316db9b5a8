use Rattle.std.proofs.Common.{◌≡◌, length}
use Rattle.ini_interp.specs.Merges.{has_dots}
use Rattle.ini_interp.proofs.names.has_dots.Given as goal

abbrev pub invariant-loop-first : goal.invariant-loop-first
invariant-loop-first l = has_dots l.name ≡ has_dots l.rest

abbrev pub decreases-loop-first : goal.decreases-loop-first
decreases-loop-first l = length l.rest
