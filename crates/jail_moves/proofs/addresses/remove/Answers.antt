-- The map without the key.
use Rattle.jail_moves.proofs.WindowCounts.{not_before_gone}
use Rattle.jail_moves.proofs.WindowLosses.{lost}
use Rattle.jail_moves.proofs.addresses.remove.Goals as goal

pub returns-clause-loses : goal.returns-clause-loses
returns-clause-loses c = λ findtime maxretry windows.
    lost findtime maxretry c.args.addr c.args.windows.now.entries c.remove.new.self.entries windows (rw (c.key_of.ensures) at c.remove.ensures.entries) c.remove.ensures.ordered
    (rw (c.key_of.ensures) at c.remove.ensures.updates.0)

pub returns-clause-latest : goal.returns-clause-latest
returns-clause-latest c = λ time a. not_before_gone time c.key_of.result c.args.windows.now.entries c.remove.new.self.entries c.remove.ensures.entries a
