-- The first window of an address.
use Rattle.std.proofs.Common.{arith}
use Rattle.jail_moves.proofs.WindowCounts.{entered_first, first_not_before}
use Rattle.jail_moves.proofs.addresses.begin.Goals as goal

pub returns-clause-ok : goal.returns-clause-ok
returns-clause-ok c =
    entered_first c.args.findtime c.args.maxretry c.args.now c.args.failure c.args.windows.now.entries c.insert.new.self.entries c.new.result c.add.new.self c.in_ok-full.full
    c.requires.held c.requires.recent c.requires.absent c.new.ensures c.in_ok-full.ensures.ok (rw (c.key_of.ensures) at c.in_ok-insert.ensures.entries) c.in_ok-insert.ensures.ordered
    (rw (c.key_of.ensures) at c.in_ok-insert.ensures.updates.0)

pub returns-clause-latest : goal.returns-clause-latest
returns-clause-latest c = λ time le a.
    let grown = c.in_ok-full.ensures.ok.latest in
    first_not_before time c.key_of.result c.add.new.self c.args.windows.now.entries c.insert.new.self.entries c.in_ok-insert.ensures.entries (omega arith) a
