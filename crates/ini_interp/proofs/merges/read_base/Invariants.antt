use Rattle.std.proofs.Common.{[], drop}
use Rattle.ini_interp.specs.Frames.{IsKept}
use Rattle.ini_interp.specs.InTurn.{in_turn}
use Rattle.ini_interp.specs.Merges.{base_file, base_files}
use Rattle.ini_interp.proofs.merges.read_base.Given as goal

abbrev pub invariant-loop-path : goal.invariant-loop-path
invariant-loop-path l =
    IsKept (in_turn (base_file l.files) (base_files l.files l.base)) (in_turn (base_file l.files) (drop l.path-index l.path-items)) [] l.sections
