use Rattle.std.proofs.Common.{◌≡◌, ◌++◌, map, drop}
use Rattle.ini_interp.specs.declared.frames.Step.TheVariants.{Include}
use Rattle.ini_interp.proofs.frames.push_includes.Given as goal

abbrev pub invariant-loop-name : goal.invariant-loop-name
invariant-loop-name l = l.steps.items ++ map Include (drop l.name-index l.names) ≡ l.initial.steps.items ++ map Include l.names
