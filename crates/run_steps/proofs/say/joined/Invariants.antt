use Rattle.std.proofs.Common.{◌≡◌, take}
use Rattle.run_law.specs.Said.{joined}
use Rattle.run_steps.proofs.say.joined.Given as goal

abbrev pub invariant-loop-line : goal.invariant-loop-line
invariant-loop-line l = l.bytes ≡ joined (take l.line-index l.lines)
