use Rattle.std.proofs.Common.{arith}
use Rattle.run_law.proofs.CauseLemmas.{steady_on}
use Rattle.server_top.proofs.TurnLemmas.{next_is, turns_asked, turns_on}
use Rattle.server_top.proofs.turns.make_turns.Goals as goal

pub returns-in-Some-asked-clause-ok : goal.returns-in-Some-asked-clause-ok
returns-in-Some-asked-clause-ok g c =
    turns_asked (g.W.Outside.stands c.args.world.now) (g.W.Outside.stands c.turns.world) c.args.running c.turns.running c.turns.invariant.moves (g.W.Outside.stands c.end_turn.new.world)
    c.in_ok-next.field-0 c.in-Some.next c.in-Some.is c.in_ok-next.ensures.ok (g.W.Outside.stands c.begin_turn.new.world) c.in_ok-after.asked c.in_ok-after.after c.in_ok-after.ensures.ok
    c.in-Some-asked.place c.in-Some-asked.is

pub returns-in-Some-asked-clause-steady : goal.returns-in-Some-asked-clause-steady
returns-in-Some-asked-clause-steady g c = steady_on _ _ _ (steady_on _ _ _ c.turns.invariant.steady c.end_turn.ensures.steady) c.begin_turn.ensures.steady

pub turns-preserved : goal.turns-preserved
turns-preserved g c =
    let next = next_is c.turns.running c.in_ok-next.field-0 c.in-Some.next c.in-Some.is c.in_ok-next.ensures.next in
    let same = c.in_ok-after.ensures.left in
    record {
      moves = turns_on (g.W.Outside.stands c.args.world.now) (g.W.Outside.stands c.turns.world) c.args.running c.turns.running c.turns.invariant.moves (g.W.Outside.stands c.end_turn.new.world)
          c.in_ok-next.field-0 c.in-Some.next c.in-Some.is c.in_ok-next.ensures.ok (g.W.Outside.stands c.begin_turn.new.world) c.in_ok-after.asked c.in_ok-after.after c.in_ok-after.ensures.ok
          c.in_default-asked.is;
      steady = steady_on _ _ _ (steady_on _ _ _ c.turns.invariant.steady c.end_turn.ensures.steady) c.begin_turn.ensures.steady;
      placed = c.in_ok-after.ensures.placed;
      some = omega (arith, same, next.0);
      less = omega (arith, same, next.1, c.turns.invariant.less);
    }
