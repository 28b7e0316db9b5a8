use Rattle.std.proofs.Common.{not, refl, sym, ◌∙◌, ap}
use Rattle.f2b_model.specs.Moves.{ban_of}
use Rattle.ban_table.proofs.BanLemmas.{none_found}
use Rattle.ban_table.proofs.TestLemmas.{none_lent, all_apart, all_below_begun, all_below_ended, all_below_more}
use Rattle.jail_rows.proofs.bans.table_after.Goals as goal
use Rattle.jail_rows.proofs.bans.table_after.Goals.{in-Start+then-is_none+in_ok-start-in-Start, in-Start+else-is_none, in-End, in-Purge}

pub start-requires-clause-free : goal.start-requires-clause-free
start-requires-clause-free c = none_found (ban_of _) c.loop-index.table.active (sym c.active.ensures ∙ none_lent c.active.result (c.is_none.ensures ∙ ap not c.if-is_none.true))

pub start-requires-clause-serial : goal.start-requires-clause-serial
start-requires-clause-serial c = all_apart c.loop-index.index c.loop-index.table.active c.loop-index.invariant

pub loop-index-preserved : goal.loop-index-preserved
loop-index-preserved c =
    let i = c.loop-index.index in
    let bans = c.loop-index.table.active in
    let below = c.loop-index.invariant in
    elim c.match-step.branch [
      | in-Start+then-is_none+in_ok-start-in-Start w ↦ rw (w.table-is, w.in_ok-start-in-Start.ensures.ok) (all_below_begun i _ bans below refl)
      | in-Start+else-is_none w ↦ rw (w.table-is) (all_below_more i bans below)
      | in-End w ↦ rw (w.table-is, w.end.ensures.lists) (all_below_ended i _ _ c.loop-index.table below)
      | in-Purge w ↦ rw (w.table-is, w.purge.ensures) (all_below_more i bans below)
    ]
