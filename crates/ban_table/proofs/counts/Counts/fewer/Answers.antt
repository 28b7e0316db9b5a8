-- A number is put in that is not 0, or its address goes.
use Rattle.std.proofs.Common.{◌≡◌, Some, None, ◌-◌, cond, ◌∙◌, ap, arith}
use Rattle.f2b_base.specs.Addresses.{same_addr}
use Rattle.ban_table.specs.Counts.{counted}
use Rattle.ban_table.proofs.CountLemmas.{counted_there, not_failed, number_put, one_fewer, some_left, some_put}
use Rattle.ban_table.proofs.counts.Counts.fewer.Goals as goal

pub invariant_of-self : goal.invariant_of-self
invariant_of-self c = record {
  some = some_put c.insert.result c.key_of.result (c.of-count.result - 1) c.args.self.now.by_addr.entries c.insert.new.self.entries c.insert.ensures.entries c.insert.ensures.err
      (omega (arith, c.if-count-gt1.true)) c.args.self.now.some;
}

pub invariant_of-self-else-count-gt1 : goal.invariant_of-self-else-count-gt1
invariant_of-self-else-count-gt1 c = record {
  some = some_left c.key_of-else-count-gt1.result c.args.self.now.by_addr.entries c.remove.new.self.entries c.remove.ensures.entries c.args.self.now.some;
}

pub returns-then-count-gt1 : goal.returns-then-count-gt1
returns-then-count-gt1 c =
    let old = c.args.self.now in
    let some = c.if-count-gt1.true in
    one_fewer old.by_addr c.insert.new.self c.args.addr
    (λ other. number_put old.by_addr c.insert.new.self c.args.addr (Some (c.of-count.result - 1))
    (rw (c.key_of.ensures) at (not_failed c.insert.result _ _ c.insert.ensures.updates c.insert.ensures.absent (λ none. counted_there old c.args.addr (omega (arith, c.of-count.ensures)) (rw (c.key_of.ensures) at none))).0) other
    ∙ ap (λ n. cond (same_addr c.args.addr other) (n - 1) (counted old other)) c.of-count.ensures)

pub returns-else-count-gt1 : goal.returns-else-count-gt1
returns-else-count-gt1 c =
    let old = c.args.self.now in
    let zero_left : 0 ≡ counted old c.args.addr - 1 = omega (arith, c.of-count.ensures, c.if-count-gt1.false) in
    one_fewer old.by_addr c.remove.new.self c.args.addr
    (λ other. number_put old.by_addr c.remove.new.self c.args.addr None (rw (c.key_of-else-count-gt1.ensures) at c.remove.ensures.updates.0) other
    ∙ ap (λ n. cond (same_addr c.args.addr other) n (counted old other)) zero_left)
