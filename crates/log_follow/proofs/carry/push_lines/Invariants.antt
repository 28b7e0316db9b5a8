use Rattle.std.proofs.Common.{◌≡◌, ◌≤◌, ◌++◌, length}
use Rattle.log_follow.specs.Lines.{lines_of}
use Rattle.log_follow.proofs.carry.push_lines.Given as goal

-- the lines so far and those that are left are those that were there and those of the bytes
abbrev pub invariant-loop-end : goal.invariant-loop-end
invariant-loop-end l = record {
  within : length l.rest ≤ length l.bytes;
  lines : l.lines.items ++ lines_of l.rest ≡ l.initial.lines.items ++ lines_of l.bytes;
}

abbrev pub decreases-loop-end : goal.decreases-loop-end
decreases-loop-end l = length l.rest
