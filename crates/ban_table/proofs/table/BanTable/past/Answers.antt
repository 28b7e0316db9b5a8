use Rattle.std.proofs.Common.{◌≡◌, ◌-◌, min, ◌∙◌, ap₂, arith}
use Rattle.std.specs.Map.{values_of}
use Rattle.ban_table.specs.Counts.{past_count}
use Rattle.ban_table.proofs.CountLemmas.{active_and_past}
use Rattle.ban_table.proofs.table.BanTable.past.Goals as goal

pub overflow_sub-of : goal.overflow_sub-of
overflow_sub-of c =
    let w = c.self.inside in
    let parts = active_and_past w.counts c.args.addr (values_of w.bans.entries) w.past.items c.serial_of.result c.is_some.result c.self.invariant.1
    (c.serial_of.ensures _ c.self.invariant.0.found) c.is_some.ensures in
    omega (arith, c.of.ensures, c.from-active.ensures)

pub returns : goal.returns
returns c =
    let w = c.self.inside in
    let parts = active_and_past w.counts c.args.addr (values_of w.bans.entries) w.past.items c.serial_of.result c.is_some.result c.self.invariant.1
    (c.serial_of.ensures _ c.self.invariant.0.found) c.is_some.ensures in
    let left : c.of.result - c.from-active.result ≡ past_count c.args.addr w.past.items = omega (arith, c.of.ensures, c.from-active.ensures) in
    rw (← c.self.view_is) (c.min.ensures ∙ ap₂ (λ m n. min m n) left c.from.ensures)
