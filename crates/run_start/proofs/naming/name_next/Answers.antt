use Rattle.std.proofs.Common.{◌≡◌, Err, arith, rules}
use Rattle.run_law.specs.declared.status.Status.TheVariants.{NoMemory}
use Rattle.run_law.proofs.CauseLemmas.{steady_placed}
use Rattle.run_start.proofs.PathLemmas.{walk_shorter}
use Rattle.run_start.proofs.WalkLemmas.{listed_memory, slice_brought}
use Rattle.run_start.proofs.naming.name_next.Goals as goal

pub returns-in_err-names-clause-err : goal.returns-in_err-names-clause-err
returns-in_err-names-clause-err g c =
    let shown : c.as_slice.result.now ≡ c.args.walk.before = first_of (assumption c.as_slice.ensures, cc (c.as_slice.ensures, c.before-2.view_is), grind (arith, c.as_slice.ensures, c.before-2.view_is)) in
    let outcome : c.from_residual-in_err-names.result ≡ Err NoMemory = search rules in
    rw outcome
    (listed_memory (g.W.Outside.stands c.args.world.now) (g.W.Outside.stands c.bring.new.world) c.args.settings.now c.args.walk c.in_ok-clocked.clocked c.first_of.result.0.now c.first_of.result.1.now c.first_of.ensures
    (slice_brought (g.W.Outside.stands c.args.world.now) (g.W.Outside.stands c.bring.new.world) c.as_slice.result.now c.args.walk c.in_ok-clocked.clocked
    shown c.in_ok-clocked.ensures.ok)
    (g.W.Outside.stands c.list.new.world) c.in_err-names.ensures.asks)

pub returns-in_err-push_expanded-clause-err : goal.returns-in_err-push_expanded-clause-err
returns-in_err-push_expanded-clause-err g c =
    let shown : c.as_slice.result.now ≡ c.args.walk.before = first_of (assumption c.as_slice.ensures, cc (c.as_slice.ensures, c.before-2.view_is), grind (arith, c.as_slice.ensures, c.before-2.view_is)) in
    let outcome : c.from_residual-in_err-push_expanded.result ≡ Err NoMemory = search rules in
    rw outcome
    (listed_memory (g.W.Outside.stands c.args.world.now) (g.W.Outside.stands c.bring.new.world) c.args.settings.now c.args.walk c.in_ok-clocked.clocked c.first_of.result.0.now c.first_of.result.1.now c.first_of.ensures
    (slice_brought (g.W.Outside.stands c.args.world.now) (g.W.Outside.stands c.bring.new.world) c.as_slice.result.now c.args.walk c.in_ok-clocked.clocked
    shown c.in_ok-clocked.ensures.ok)
    (g.W.Outside.stands c.list.new.world) c.in_ok-names.ensures.asks)

pub returns-in_err-left-clause-err : goal.returns-in_err-left-clause-err
returns-in_err-left-clause-err g c =
    let shown : c.as_slice.result.now ≡ c.args.walk.before = first_of (assumption c.as_slice.ensures, cc (c.as_slice.ensures, c.before-2.view_is), grind (arith, c.as_slice.ensures, c.before-2.view_is)) in
    let outcome : c.from_residual-in_err-left.result ≡ Err NoMemory = search rules in
    rw outcome
    (listed_memory (g.W.Outside.stands c.args.world.now) (g.W.Outside.stands c.bring.new.world) c.args.settings.now c.args.walk c.in_ok-clocked.clocked c.first_of.result.0.now c.first_of.result.1.now c.first_of.ensures
    (slice_brought (g.W.Outside.stands c.args.world.now) (g.W.Outside.stands c.bring.new.world) c.as_slice.result.now c.args.walk c.in_ok-clocked.clocked
    shown c.in_ok-clocked.ensures.ok)
    (g.W.Outside.stands c.list.new.world) c.in_ok-names.ensures.asks)

pub returns-clause-shorter : goal.returns-clause-shorter
returns-clause-shorter g c =
    walk_shorter _ c.first_of.result.1.now _ c.in_ok-left.left.now c.args.walk.left.now c.first_of.result.0.now c.in_ok-left.ensures.settled c.first_of.ensures

pub returns-clause-placed : goal.returns-clause-placed
returns-clause-placed g c =
    steady_placed c.in_ok-clocked.clocked.engine.journal (g.W.Outside.stands c.bring.new.world) (g.W.Outside.stands c.list.new.world) c.list.ensures.steady c.in_ok-clocked.ensures.placed
