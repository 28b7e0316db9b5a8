use Rattle.std.proofs.Common.{◌≡◌, ◌++◌, [], ◌+◌, length}
use Rattle.std.specs.Option.{option_map_or, option_copied}
use Rattle.ini_interp.specs.Merges.{includes, lines_of}
use Rattle.ini_interp.proofs.includes.includes.Given as goal

abbrev pub invariant-loop-left : goal.invariant-loop-left
invariant-loop-left l = includes l.file l.name ≡ l.names ++ lines_of (option_copied l.left)

abbrev pub decreases-loop-left : goal.decreases-loop-left
decreases-loop-left l = option_map_or (λ text. length text.now + 1) l.left 0
