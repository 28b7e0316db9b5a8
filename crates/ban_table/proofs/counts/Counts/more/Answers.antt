-- A number is put in that is not 0.
use Rattle.std.proofs.Common.{◌+◌, Some, cond, ap, ◌∙◌, arith}
use Rattle.f2b_base.specs.Addresses.{same_addr}
use Rattle.ban_table.specs.Counts.{counted}
use Rattle.ban_table.proofs.CountLemmas.{number_put, one_more, some_put}
use Rattle.ban_table.proofs.counts.Counts.more.Goals as goal

pub invariant_of-self : goal.invariant_of-self
invariant_of-self c = record {
  some = some_put c.insert.result c.key_of.result (c.of-count.result + 1) c.args.self.now.by_addr.entries c.insert.new.self.entries c.insert.ensures.entries c.insert.ensures.err (omega arith)
      c.args.self.now.some;
}

pub returns-clause-ok : goal.returns-clause-ok
returns-clause-ok c =
    one_more c.args.self.now.by_addr c.insert.new.self c.args.addr
    (λ other. number_put c.args.self.now.by_addr c.insert.new.self c.args.addr (Some (c.of-count.result + 1)) (rw (c.key_of.ensures) at c.in_ok-insert.ensures.updates.0) other
    ∙ ap (λ n. cond (same_addr c.args.addr other) (n + 1) (counted c.args.self.now other)) c.of-count.ensures)
