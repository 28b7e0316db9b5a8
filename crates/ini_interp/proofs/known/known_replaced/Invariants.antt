use Rattle.std.proofs.Common.{length}
use denote.Text.{Utf8}
use denote.Shadow.{shadow}
use Rattle.ini_interp.specs.Known.{known_text}
use Rattle.ini_interp.proofs.KnownLemmas.{IsRespelled}
use Rattle.ini_interp.proofs.known.known_replaced.Given as goal

abbrev pub invariant-loop-cut : goal.invariant-loop-cut
invariant-loop-cut l = shadow (Utf8 l.rest) × IsRespelled (known_text l.before l.section) l.raw l.rest l.text

abbrev pub decreases-loop-cut : goal.decreases-loop-cut
decreases-loop-cut l = length l.rest
