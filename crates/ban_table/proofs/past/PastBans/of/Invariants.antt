use Rattle.std.proofs.Common.{◌≡◌, ◌≤◌, length, take}
use Rattle.ban_table.proofs.past.PastBans.of.Given as goal

abbrev pub invariant-loop-entry : goal.invariant-loop-entry
invariant-loop-entry l = (l.past.items ≡ take l.entry-index l.entries) × (length l.entries ≤ l.past.room)
