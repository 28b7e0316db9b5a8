use Rattle.std.proofs.Common.{◌-◌, arith}
use Rattle.f2b_model.proofs.FullLemmas.{le_true}
use Rattle.ban_table.proofs.PastLemmas.{rising_push}
use Rattle.ban_table.proofs.past.PastBans.stays_in_order.Goals as goal

pub returns-then-self : goal.returns-then-self
returns-then-self c = λ behind.
    let w = c.self.inside in
    let last = c.in-Some.last.now in
    rw (← c.self.view_is)
    (rising_push w.entries.items (w.entries.len - 1) last c.args.entry (omega arith) (c.self.invariant c.if-self.true) c.in-Some.ensures.lookup (le_true last.end c.args.entry.end behind))
