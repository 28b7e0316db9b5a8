use Rattle.std.proofs.Common.{[], take}
use Rattle.ban_table.specs.Counts.{IsCountOf}
use Rattle.ban_table.proofs.counts.Counts.of_past.Given as goal

abbrev pub invariant-loop-entry : goal.invariant-loop-entry
invariant-loop-entry l = IsCountOf l.counts [] (take l.entry-index l.entries)
