use Rattle.std.proofs.Common.{◌≤◌}
use Rattle.jail_moves.specs.Rooms.{IsKeptJail}
use Rattle.jail_moves.proofs.matches_tests.told_of.Given as goal

abbrev pub invariant-loop-addr : goal.invariant-loop-addr
invariant-loop-addr l = record { kept : IsKeptJail 300 l.serial l.definition l.room; below : l.serial ≤ l.addr-index }
