use Rattle.std.proofs.Common.{◌≡◌, ◌++◌, length}
use Rattle.log_follow.specs.Decoded.{decoded}
use Rattle.log_follow.proofs.decode.decode.Given as goal

-- the text so far and that of the bytes that are left are the whole text
abbrev pub invariant-loop-whole : goal.invariant-loop-whole
invariant-loop-whole l = l.text ++ decoded l.rest ≡ decoded l.bytes

abbrev pub decreases-loop-whole : goal.decreases-loop-whole
decreases-loop-whole l = length l.rest
