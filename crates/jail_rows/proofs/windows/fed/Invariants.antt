use Rattle.std.proofs.Common.{◌≡◌}
use Rattle.jail_rows.specs.declared.windows.TheConstants.{ADDR}
use Rattle.fail_window.proofs.FollowLemmas.{Follows}
use Rattle.jail_rows.proofs.windows.fed.Given as goal

abbrev pub invariant-loop-index : goal.invariant-loop-index
invariant-loop-index l = record { follows : Follows ADDR l.last l.window; findtime : l.window.findtime ≡ l.findtime }
