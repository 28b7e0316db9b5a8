use Rattle.std.proofs.Common.{drop}
use Rattle.run_start.specs.Found.{AreTexts}
use Rattle.run_start.proofs.found.see_paths.Given as goal

abbrev pub invariant-loop-path : goal.invariant-loop-path
invariant-loop-path l = AreTexts (drop l.path-index l.paths) → AreTexts l.paths
