use Rattle.std.proofs.Common.{◌≡◌, ◌++◌, length, take}
use Rattle.std.specs.List.{flat_map}
use Rattle.record_fields.specs.Numbers.{digits}
use Rattle.record_fields.proofs.lists.put_list.Given as goal

abbrev pub invariant-loop-item : goal.invariant-loop-item
invariant-loop-item g l = l.out ≡ l.fn.out ++ (digits 10 (length l.items) ++ flat_map g.S.Spell.spelling (take l.item-index l.items))
