use Rattle.std.proofs.Common.{length}
use Rattle.record_fields.specs.Numbers.{digits}
use Rattle.record_fields.proofs.LengthLemmas.{length_begun, length_more}
use Rattle.record_fields.proofs.lists.list_len.Goals as goal

pub loop-item-init : goal.loop-item-init
loop-item-init g c = length_begun (digits 10 (length c.args.items.now)) c.number_len-total.result c.number_len-total.ensures

pub loop-item-preserved : goal.loop-item-preserved
loop-item-preserved g c =
    length_more g.S.Spell.spelling (digits 10 (length c.args.items.now)) c.args.items.now c.loop-item.item-index c.item-item.result c.loop-item.total c.len.result c.saturating_add-total.result
    c.loop-item-test.true c.item-item.is c.loop-item.invariant c.len.ensures c.saturating_add-total.ensures
