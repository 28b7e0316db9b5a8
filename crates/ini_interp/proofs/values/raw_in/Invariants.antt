use Rattle.std.proofs.Common.{◌≡◌, drop}
use Rattle.ini_interp.specs.Values.{raw_in}
use Rattle.ini_interp.proofs.values.raw_in.Given as goal

abbrev pub invariant-loop-section : goal.invariant-loop-section
invariant-loop-section l = raw_in l.sections l.scope l.name ≡ raw_in l.sections (drop l.section-index l.scope) l.name
