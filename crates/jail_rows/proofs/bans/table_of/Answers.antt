use Rattle.std.proofs.Common.{not, refl, sym, ◌∙◌, ap}
use Rattle.f2b_model.specs.Moves.{ban_of}
use Rattle.ban_table.proofs.BanLemmas.{none_found}
use Rattle.ban_table.proofs.TestLemmas.{none_lent, all_apart, all_below_begun, all_below_more}
use Rattle.jail_rows.proofs.bans.table_of.Goals as goal
use Rattle.jail_rows.proofs.bans.table_of.Goals.{then-is_none+in_ok-start, else-is_none}

pub start-requires-clause-free : goal.start-requires-clause-free
start-requires-clause-free c = none_found (ban_of _) c.loop-index.table.active (sym c.active.ensures ∙ none_lent c.active.result (c.is_none.ensures ∙ ap not c.if-is_none.true))

pub start-requires-clause-serial : goal.start-requires-clause-serial
start-requires-clause-serial c = all_apart c.loop-index.index c.loop-index.table.active c.loop-index.invariant

pub loop-index-preserved : goal.loop-index-preserved
loop-index-preserved c =
    elim c.if-is_none.branch [
      | then-is_none+in_ok-start w ↦ rw (w.table-is, w.in_ok-start.ensures.ok) (all_below_begun c.loop-index.index _ c.loop-index.table.active c.loop-index.invariant refl)
      | else-is_none w ↦ rw (w.table-is) (all_below_more c.loop-index.index c.loop-index.table.active c.loop-index.invariant)
    ]
