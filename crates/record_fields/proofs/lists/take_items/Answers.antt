use Rattle.std.proofs.Common.{◌≡◌, false, true, rules, tests, []}
use Rattle.std.proofs.lemmas.Result.{err_from_is_err_and}
use Rattle.record_fields.specs.Lists.{items_at}
use Rattle.record_fields.proofs.ItemLemmas.{goes_on, ends, is_refused, is_done}
use Rattle.record_fields.proofs.lists.take_items.Goals as goal

pub returns-in_err-item : goal.returns-in_err-item
returns-in_err-item g c =
    let p = err_from_is_err_and c.from_residual.result c.from_residual.ensures.1 in
    rw (p.1, p.2) (ends (g.I.Items.allowed c.args.by.now) (g.I.Items.reading c.args.by.now) c.in_err-item.field-0.0 c.loop.items c.args.count c.loop.counter c.loop.rest.now (items_at (g.I.Items.allowed c.args.by.now) (g.I.Items.reading c.args.by.now) [] c.args.count c.args.bytes.now) c.loop-test.true c.in_err-item.ensures c.loop.invariant)

pub returns-then-not-allows : goal.returns-then-not-allows
returns-then-not-allows g c =
    let may : g.I.Items.allowed c.args.by.now c.loop.items c.in_ok-item.item ≡ false = search (rules, tests) in
    is_refused (g.I.Items.allowed c.args.by.now) (g.I.Items.reading c.args.by.now) c.loop.items c.args.count c.loop.counter c.loop.rest.now c.in_ok-item.item c.in_ok-item.after.now (items_at (g.I.Items.allowed c.args.by.now) (g.I.Items.reading c.args.by.now) [] c.args.count c.args.bytes.now) c.loop-test.true c.in_ok-item.ensures may c.loop.invariant

pub loop-preserved : goal.loop-preserved
loop-preserved g c =
    let may : g.I.Items.allowed c.args.by.now c.loop.items c.in_ok-item.item ≡ true = search (rules, tests) in
    rw c.in_ok-push.ensures.ok (goes_on (g.I.Items.allowed c.args.by.now) (g.I.Items.reading c.args.by.now) c.loop.items c.args.count c.loop.counter c.loop.rest.now c.in_ok-item.item c.in_ok-item.after.now (items_at (g.I.Items.allowed c.args.by.now) (g.I.Items.reading c.args.by.now) [] c.args.count c.args.bytes.now) c.loop-test.true c.in_ok-item.ensures may c.loop.invariant)

pub returns : goal.returns
returns g c = is_done (g.I.Items.allowed c.args.by.now) (g.I.Items.reading c.args.by.now) c.loop.items c.args.count c.loop.counter c.loop.rest.now (items_at (g.I.Items.allowed c.args.by.now) (g.I.Items.reading c.args.by.now) [] c.args.count c.args.bytes.now) c.loop-test.false c.loop.invariant
