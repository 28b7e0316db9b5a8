use Rattle.std.proofs.Common.{◌≡◌, take}
use Rattle.jail_conf.specs.Sources.{with_items}
use Rattle.jail_conf.proofs.sources.put_items.Given as goal

abbrev pub invariant-loop-item : goal.invariant-loop-item
invariant-loop-item l = l.sections ≡ with_items l.section (take l.item-index l.items) l.fn.sections
