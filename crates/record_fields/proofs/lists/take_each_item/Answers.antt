use Rattle.std.proofs.lemmas.Result.{err_from_is_err_and}
use Rattle.record_fields.specs.Lists.{each_at}
use Rattle.record_fields.proofs.ItemLemmas.{each_on, each_ends, each_done}
use Rattle.record_fields.proofs.lists.take_each_item.Goals as goal

pub returns-in_err-item : goal.returns-in_err-item
returns-in_err-item g c =
    let p = err_from_is_err_and c.from_residual.result c.from_residual.ensures.1 in
    rw (p.1, p.2) (each_ends (g.I.ItemsBy.reading c.args.by.now) c.args.definitions.now c.in_err-item.field-0.0 c.loop-definition.items c.loop-definition.definition-index c.definition-item.result c.loop-definition.rest.now (each_at (g.I.ItemsBy.reading c.args.by.now) c.args.definitions.now c.args.bytes.now) c.loop-definition-test.true c.definition-item.is c.in_err-item.ensures c.loop-definition.invariant)

pub loop-definition-preserved : goal.loop-definition-preserved
loop-definition-preserved g c =
    rw c.in_ok-push.ensures.ok (each_on (g.I.ItemsBy.reading c.args.by.now) c.args.definitions.now c.loop-definition.items c.loop-definition.definition-index c.definition-item.result c.loop-definition.rest.now c.in_ok-item.item c.in_ok-item.after.now (each_at (g.I.ItemsBy.reading c.args.by.now) c.args.definitions.now c.args.bytes.now) c.loop-definition-test.true c.definition-item.is c.in_ok-item.ensures c.loop-definition.invariant)

pub returns : goal.returns
returns g c = each_done (g.I.ItemsBy.reading c.args.by.now) c.args.definitions.now c.loop-definition.items c.loop-definition.definition-index c.loop-definition.rest.now (each_at (g.I.ItemsBy.reading c.args.by.now) c.args.definitions.now c.args.bytes.now) c.loop-definition-test.false c.loop-definition.invariant
