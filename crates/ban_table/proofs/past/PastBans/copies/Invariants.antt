use Rattle.std.proofs.Common.{◌≡◌, map}
use Rattle.ban_table.proofs.past.PastBans.copies.Given as goal

abbrev pub invariant-loop-entry : goal.invariant-loop-entry
invariant-loop-entry l = l.entries ≡ map (λ entry. entry.now) l.yielded
