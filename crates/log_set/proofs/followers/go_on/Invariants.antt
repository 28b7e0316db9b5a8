use Rattle.std.proofs.Common.{◌≡◌}
use Rattle.log_set.specs.Followers.{taken_over}
use Rattle.log_set.proofs.followers.go_on.Given as goal

abbrev pub invariant-loop-log : goal.invariant-loop-log
invariant-loop-log l = l.logs ≡ taken_over l.yielded l.initial.logs
