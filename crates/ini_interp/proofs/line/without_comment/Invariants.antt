use Rattle.std.proofs.Common.{◌≡◌, ℕ, ◌<◌, suc, false}
use Rattle.ini_interp.proofs.LineLemmas.{begins_comment}
use Rattle.ini_interp.proofs.line.without_comment.Given as goal

abbrev pub invariant-loop-place : goal.invariant-loop-place
invariant-loop-place l = (k : ℕ) → suc k < l.place → begins_comment l.line k ≡ false
