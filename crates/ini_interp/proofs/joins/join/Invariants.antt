use Rattle.std.proofs.Common.{◌≡◌, drop}
use Rattle.std.specs.List.{fold}
use Rattle.ini_interp.specs.Joins.{with_setting, joined}
use Rattle.ini_interp.specs.Changes.{settings_of}
use Rattle.ini_interp.proofs.joins.join.Given as goal

abbrev pub invariant-loop-change : goal.invariant-loop-change
invariant-loop-change l = joined l.fn.sections l.file ≡ fold with_setting l.sections (settings_of (drop l.change-index l.change-items))
