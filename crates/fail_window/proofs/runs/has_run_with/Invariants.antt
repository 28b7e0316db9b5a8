use Rattle.std.proofs.Common.{ℕ, ◌<◌, ◌≤◌}
use Rattle.fail_window.specs.Times.{IsRunAt}
use Rattle.fail_window.proofs.runs.has_run_with.Given as goal

abbrev pub invariant-loop-index : goal.invariant-loop-index
invariant-loop-index l = (k : ℕ) → l.first ≤ k → k < l.index → IsRunAt l.findtime l.maxretry l.kept.items k → ⊥
