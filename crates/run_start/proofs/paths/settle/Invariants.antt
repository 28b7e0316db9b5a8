use Rattle.std.proofs.Common.{◌≡◌, drop}
use Rattle.run_law.specs.Paths.{settled}
use Rattle.run_start.proofs.paths.settle.Given as goal

abbrev pub invariant-loop-index : goal.invariant-loop-index
invariant-loop-index l = settled l.initial.found l.paths ≡ settled l.found (drop l.index l.paths)
