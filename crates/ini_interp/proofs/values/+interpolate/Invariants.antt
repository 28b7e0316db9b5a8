use Rattle.std.proofs.Common.{length}
use denote.Text.{Utf8}
use denote.Shadow.{shadow}
use Rattle.ini_interp.specs.Values.{text_of, replaced}
use Rattle.ini_interp.proofs.ValuesLemmas.{IsSoFar}
use Rattle.ini_interp.proofs.values.+interpolate.Given as goal

abbrev pub decreases-interpolate : goal.decreases-interpolate
decreases-interpolate l = l.depth

abbrev pub invariant-loop-cut : goal.invariant-loop-cut
invariant-loop-cut l = shadow (Utf8 l.rest) × IsSoFar (text_of (replaced l.sections l.scope l.depth)) l.raw l.rest l.initial.out l.out

abbrev pub decreases-loop-cut : goal.decreases-loop-cut
decreases-loop-cut l = length l.rest
