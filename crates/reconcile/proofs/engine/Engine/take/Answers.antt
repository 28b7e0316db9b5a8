use Rattle.std.proofs.Common.{arith, rules, Err}
use Rattle.reconcile.specs.declared.engine_error.EngineError.TheVariants.{Spent}
use Rattle.reconcile.proofs.AnswerLemmas.{took_spent, took_free, took_opens, took_closed, took_lasts}
use Rattle.reconcile.proofs.engine.Engine.take.Goals as goal

pub returns-then-spent-clause-opens : goal.returns-then-spent-clause-opens
returns-then-spent-clause-opens g c =
    let world = g.D.Outside.stands c.args.disk.now in
    took_opens c.args.self c.args.input world world (Err Spent)
    (took_spent c.args.self _ c.args.input world c.spent.result c.self.view_is (first_of (omega arith, search rules)) c.self.invariant c.requires.storable c.spent.ensures c.if-spent.true)

pub returns-clause-opens : goal.returns-clause-opens
returns-clause-opens g c =
    let old = g.D.Outside.stands c.args.disk.now in
    let new = g.D.Outside.stands c.taken.new.disk in
    took_opens c.args.self c.args.input old new c.taken.result
    (took_free c.args.self _ c.args.input old new c.spent.result c.taken.result c.self.view_is (first_of (omega arith, search rules)) c.self.invariant c.requires.storable c.spent.ensures c.if-spent.false
    c.taken.ensures.answer c.taken.ensures.core)

pub returns-clause-closed : goal.returns-clause-closed
returns-clause-closed g c =
    let old = g.D.Outside.stands c.args.disk.now in
    let new = g.D.Outside.stands c.taken.new.disk in
    took_closed c.args.self c.args.input old new c.taken.result
    (took_free c.args.self _ c.args.input old new c.spent.result c.taken.result c.self.view_is (first_of (omega arith, search rules)) c.self.invariant c.requires.storable c.spent.ensures c.if-spent.false
    c.taken.ensures.answer c.taken.ensures.core)

pub returns-clause-lasts : goal.returns-clause-lasts
returns-clause-lasts g c =
    let old = g.D.Outside.stands c.args.disk.now in
    let new = g.D.Outside.stands c.taken.new.disk in
    took_lasts c.args.self c.args.input old new c.taken.result
    (took_free c.args.self _ c.args.input old new c.spent.result c.taken.result c.self.view_is (first_of (omega arith, search rules)) c.self.invariant c.requires.storable c.spent.ensures c.if-spent.false
    c.taken.ensures.answer c.taken.ensures.core)
