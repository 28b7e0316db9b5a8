use Rattle.std.proofs.Common.{◌≡◌, ◌++◌, drop}
use Rattle.ini_interp.specs.Joins.{settings}
use Rattle.ini_interp.specs.Changes.{settings_of}
use Rattle.ini_interp.proofs.joins.changes.Given as goal

abbrev pub invariant-loop-index : goal.invariant-loop-index
invariant-loop-index l = settings_of l.changes ++ settings l.before (drop l.index l.file) ≡ settings l.before l.file
