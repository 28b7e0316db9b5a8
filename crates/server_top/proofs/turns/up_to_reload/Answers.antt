use Rattle.std.proofs.Common.{ℕ, ◌≤◌, Option, Some, sym, subst, arith}
use Rattle.std.specs.Prelude.{IfErr, IfOk, IfSome}
use Rattle.run_law.specs.Stages.{MoveFails, Moves}
use Rattle.run_steps.specs.Keeping.{KeepsRunning}
use Rattle.server_top.specs.Turns.{GoesOn, left_from, left_of}
use Rattle.server_top.proofs.TurnLemmas.{turn_none}
use Rattle.turn_clients.specs.Serving.{served_to}
use Rattle.server_top.proofs.turns.up_to_reload.Goals as goal

pub returns-in-Some-clause-ok : goal.returns-in-Some-clause-ok
returns-in-Some-clause-ok g c =
    let a = g.W.Outside.stands c.args.world.now in
    let P : Option ℕ → Type 0 = λ x. Moves KeepsRunning a a (served_to x) (served_to (Some c.in-Some.place)) c.args.running c.args.running in
    subst P (sym c.in-Some.is) (turn_none a (served_to (Some c.in-Some.place)) c.args.running)

pub returns-in-Some-clause-fewer : goal.returns-in-Some-clause-fewer
returns-in-Some-clause-fewer g c =
    let P : Option ℕ → Type 0 = λ x. left_of c.args.running c.in-Some.place ≤ left_from x c.args.running in
    subst P (sym c.in-Some.is) (omega (arith))

pub returns-in-None-clause-ok : goal.returns-in-None-clause-ok
returns-in-None-clause-ok g c =
    let P : Option ℕ → Type 0 = λ x. IfOk c.make_turns.result (GoesOn (g.W.Outside.stands c.args.world.now) (g.W.Outside.stands c.make_turns.new.world) (served_to x) c.args.running) in
    subst P (sym c.in-None.is) c.make_turns.ensures.ok

pub returns-in-None-clause-err : goal.returns-in-None-clause-err
returns-in-None-clause-err g c =
    let P : Option ℕ → Type 0 = λ x. IfErr c.make_turns.result (MoveFails KeepsRunning (g.W.Outside.stands c.args.world.now) (g.W.Outside.stands c.make_turns.new.world) (served_to x) c.args.running) in
    subst P (sym c.in-None.is) c.make_turns.ensures.err

pub returns-in-None-clause-fewer : goal.returns-in-None-clause-fewer
returns-in-None-clause-fewer g c =
    let P : Option ℕ → Type 0 = λ x. IfOk c.make_turns.result (λ o. IfSome o (λ r. left_of r.0 r.1 ≤ left_from x c.args.running)) in
    subst P (sym c.in-None.is) c.make_turns.ensures.fewer
