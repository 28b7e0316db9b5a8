-- The prefix keeps an address out of ::ffff:0:0/96.
use Rattle.std.proofs.Common.{◌-◌, arith}
use Rattle.f2b_base.proofs.MaskLemmas.{unmapped-cleared, cleared_twice}
use Rattle.f2b_base.proofs.addr.Cidr.masked_v6.Goals as goal

pub returns-clause-bounds : goal.returns-clause-bounds
returns-clause-bounds c =
    let value = c.cleared.ensures.value in
    let other = unmapped-cleared c.args.number (128 - c.args.bits) c.requires in
    ((omega arith, rw value other), (omega arith, rw value (cleared_twice c.args.number (128 - c.args.bits))))
