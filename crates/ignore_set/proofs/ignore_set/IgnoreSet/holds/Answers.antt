use Rattle.f2b_base.specs.Masks.{holds}
use Rattle.ignore_set.proofs.TableLemmas.{decides}
use Rattle.ignore_set.proofs.ignore_set.IgnoreSet.holds.Goals as goal

pub returns-in-V4 : goal.returns-in-V4
returns-in-V4 c = decides (λ mask. holds mask c.args.addr) c.args.self.now c.holds.result (rw (c.in-V4.is, c.holds.ensures, c.from.ensures, ← c.self.view_is) (c.self.invariant.0.v4 c.in-V4.number))

pub returns-in-V6 : goal.returns-in-V6
returns-in-V6 c = decides (λ mask. holds mask c.args.addr) c.args.self.now c.holds-in-V6.result (rw (c.in-V6.is, c.holds-in-V6.ensures, ← c.self.view_is) (c.self.invariant.0.v6 c.in-V6.number))
