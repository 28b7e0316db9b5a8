use Rattle.std.proofs.Common.{◌≡◌, ◌≤◌}
use Rattle.f2b_base.specs.declared.ban.Failure.{Failure}
use Rattle.f2b_model.specs.Lists.{AllOf}
use Rattle.jail_moves.proofs.windows_tests.fed.Given as goal

abbrev pub invariant-loop-index : goal.invariant-loop-index
invariant-loop-index l = record { past : AllOf (λ (f : Failure). f.time ≤ l.last) l.windows.failures; findtime : l.windows.findtime ≡ l.findtime }
