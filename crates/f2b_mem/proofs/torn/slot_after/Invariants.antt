use Rattle.std.proofs.Common.{take}
use Rattle.f2b_world.specs.Slots.{settled, slot_after}
use Rattle.f2b_mem.specs.Torn.{IsKept}
use Rattle.f2b_mem.proofs.torn.slot_after.Given as goal

abbrev pub invariant-loop-event : goal.invariant-loop-event
invariant-loop-event l = IsKept (slot_after l.slot (settled l.first) (take l.event-index l.events)) l.kept
