use Rattle.std.proofs.Common.{arith}
use Rattle.ban_table.proofs.FillLemmas.{fill_free, fill_new, fill_next}
use Rattle.ban_table.proofs.table.BanTable.of.Goals as goal

pub start-requires-clause-free : goal.start-requires-clause-free
start-requires-clause-free c =
    fill_free c.as_slice-ban-items.result.now c.args.lists.now.past c.loop-ban.ban-index _ c.loop-ban.table (omega arith) (rw c.as_slice-ban-items.ensures c.requires.once) c.loop-ban.invariant

pub start-requires-clause-serial : goal.start-requires-clause-serial
start-requires-clause-serial c =
    fill_new c.as_slice-ban-items.result.now c.args.lists.now.past c.loop-ban.ban-index _ c.loop-ban.table (omega arith) (rw c.as_slice-ban-items.ensures c.requires.rising) c.loop-ban.invariant

pub loop-ban-preserved : goal.loop-ban-preserved
loop-ban-preserved c =
    fill_next c.as_slice-ban-items.result.now c.args.lists.now.past c.loop-ban.ban-index _ c.loop-ban.table c.start.new.self (omega arith) (rw c.as_slice-ban-items.ensures c.requires.rising)
    c.loop-ban.invariant c.in_ok-start.ensures.ok
