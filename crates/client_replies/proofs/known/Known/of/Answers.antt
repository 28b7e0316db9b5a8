use Rattle.client_replies.proofs.KnownLemmas.{among_all, among_more, known_as}
use Rattle.client_replies.proofs.known.Known.of.Goals as goal

pub loop-addr-preserved : goal.loop-addr-preserved
loop-addr-preserved c =
    known_as _ _ _ (c.in_ok-add.ensures _ c.loop-addr.invariant) (λ addr. among_more c.args.addrs.now c.loop-addr.addr-index _ addr c.loop-addr-test.true)

pub returns : goal.returns
returns c = known_as _ _ _ c.loop-addr.invariant (λ addr. among_all c.args.addrs.now c.loop-addr.addr-index addr c.loop-addr-test.false)
