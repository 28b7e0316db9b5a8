use Rattle.std.proofs.Common.{◌≡◌, ◌-◌, []}
use Rattle.record_fields.specs.Lists.{items_at}
use Rattle.record_fields.proofs.ItemLemmas.{with_front}
use Rattle.record_fields.proofs.lists.take_items.Given as goal

abbrev pub invariant-loop : goal.invariant-loop
invariant-loop g l = with_front l.items (items_at (g.I.Items.allowed l.by) (g.I.Items.reading l.by) l.items (l.count - l.counter) l.rest) ≡ items_at (g.I.Items.allowed l.by) (g.I.Items.reading l.by) [] l.count l.bytes
