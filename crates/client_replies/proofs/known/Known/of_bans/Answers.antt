use Rattle.client_replies.proofs.KnownLemmas.{banned_all, banned_more, known_as}
use Rattle.client_replies.proofs.known.Known.of_bans.Goals as goal

pub loop-ban-preserved : goal.loop-ban-preserved
loop-ban-preserved c =
    known_as _ _ _ (c.in_ok-add.ensures _ c.loop-ban.invariant) (λ addr. banned_more c.args.bans.now c.loop-ban.ban-index _ addr c.loop-ban-test.true)

pub returns : goal.returns
returns c = known_as _ _ _ c.loop-ban.invariant (λ addr. banned_all c.args.bans.now c.loop-ban.ban-index addr c.loop-ban-test.false)
