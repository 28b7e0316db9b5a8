use Rattle.std.proofs.Common.{[], take, length-take, refl, arith}
use Rattle.ban_table.proofs.CountLemmas.{counted_below}
use Rattle.ban_table.proofs.counts.Counts.of_past.Goals as goal

pub more-requires : goal.more-requires
more-requires c =
    let before = take c.loop-entry.entry-index c.args.entries.now in
    let len = length-take c.loop-entry.entry-index c.args.entries.now in
    let within = c.loop-entry-test.true in
    counted_below c.loop-entry.counts _ [] before _ refl c.loop-entry.invariant (omega arith)
