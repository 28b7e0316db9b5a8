use Rattle.std.proofs.Common.{◌≡◌, drop}
use Rattle.record_fields.specs.Lists.{each_at}
use Rattle.record_fields.proofs.ItemLemmas.{with_front}
use Rattle.record_fields.proofs.lists.take_each_item.Given as goal

abbrev pub invariant-loop-definition : goal.invariant-loop-definition
invariant-loop-definition g l = with_front l.items (each_at (g.I.ItemsBy.reading l.by) (drop l.definition-index l.definitions) l.rest) ≡ each_at (g.I.ItemsBy.reading l.by) l.definitions l.bytes
