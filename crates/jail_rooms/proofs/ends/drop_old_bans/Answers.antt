use Rattle.std.proofs.Common.{◌≡◌, length, sym, subst, arith}
use Rattle.f2b_model.specs.declared.jail_now.JailNow.{JailNow}
use Rattle.f2b_model.specs.NowMoves.{dropped_now}
use Rattle.jail_rooms.specs.Moved.{AreMoved, IsMoved}
use Rattle.jail_rooms.specs.declared.jail.Jail.{Jail}
use Rattle.jail_rooms.proofs.MovedLemmas.{one_more}
use Rattle.jail_rooms.proofs.ends.drop_old_bans.Goals as goal

pub loop-index-preserved : goal.loop-index-preserved
loop-index-preserved c =
    let move : JailNow → JailNow = dropped_now c.args.at c.args.purge in
    let j : Jail = c.index-jails-index.result in
    let own = c.index-jails-index.is in
    one_more move c.args.at c.loop-index.index c.args.jails.now c.loop-index.jails j c.drop_past.new.self c.loop-index-test.true c.loop-index.invariant own
    (subst (λ (r : Jail). IsMoved move c.args.at r c.drop_past.new.self) (sym own) c.drop_past.ensures)

pub returns : goal.returns
returns c =
    let all : c.loop-index.index ≡ length c.args.jails.now = omega (arith, c.loop-index-test.false, c.loop-index.auto.index-end) in
    subst (λ k. AreMoved (dropped_now c.args.at c.args.purge) c.args.at k c.args.jails.now c.loop-index.jails) all c.loop-index.invariant
