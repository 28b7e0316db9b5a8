use Rattle.std.proofs.Common.{◌≡◌, map}
use Rattle.fail_window.proofs.kept.copied.Given as goal

abbrev pub invariant-loop-failure : goal.invariant-loop-failure
invariant-loop-failure l = l.copies.items ≡ map (λ failure. failure.now) l.yielded
