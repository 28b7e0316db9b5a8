use Rattle.std.proofs.Common.{◌∙◌, sym}
use Rattle.client_replies.proofs.KnownLemmas.{so_far_known, so_far_new}
use Rattle.client_replies.proofs.known.new_addrs.Goals as goal
use Rattle.client_replies.proofs.known.new_addrs.Goals.{then-not-has+in_ok-add+in_ok-push, else-not-has}

pub loop-addr-preserved : goal.loop-addr-preserved
loop-addr-preserved c =
    elim c.if-not-has.branch [
      | then-not-has+in_ok-add+in_ok-push w ↦
          rw (w.known-is, w.new-is)
          (so_far_new c.args.bans.now c.args.addrs.now c.loop-addr.known w.add.new.self c.loop-addr.new w.push.new.self c.loop-addr.addr-index _ c.loop-addr-test.true
          c.loop-addr.invariant (λ test is. sym w.if-not-has.true ∙ c.has.ensures test is) w.in_ok-add.ensures w.in_ok-push.ensures.ok)
      | else-not-has w ↦
          rw (w.known-is, w.new-is)
          (so_far_known c.args.bans.now c.args.addrs.now c.loop-addr.known c.loop-addr.new c.loop-addr.addr-index _ c.loop-addr-test.true
          c.loop-addr.invariant (λ test is. sym w.if-not-has.false ∙ c.has.ensures test is))
    ]
