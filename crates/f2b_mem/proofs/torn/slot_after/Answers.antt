use Rattle.std.proofs.Common.{sym, subst, take}
use Rattle.f2b_world.specs.Slots.{Slot, settled, slot_after}
use Rattle.f2b_mem.specs.Torn.{IsKept}
use Rattle.f2b_mem.proofs.TornLemmas.{slot_after_more}
use Rattle.f2b_mem.proofs.torn.slot_after.Goals as goal

pub loop-event-preserved : goal.loop-event-preserved
loop-event-preserved c =
    let before : Slot = slot_after c.args.slot (settled c.args.first.now) (take c.loop-event.event-index c.args.events.now) in
    let P : Slot → Type 0 = λ s. IsKept s c.step.new.kept in
    subst P (sym (slot_after_more c.args.slot (settled c.args.first.now) c.args.events.now c.loop-event.event-index c.event-item.result c.loop-event-test.true c.event-item.is))
    (c.in_ok-step.ensures before c.loop-event.invariant)
