use Rattle.std.proofs.Common.{◌≡◌, ◌++◌, take}
use Rattle.std.specs.List.{flat_map}
use Rattle.client_replies.proofs.text.push_others.Given as goal

abbrev pub invariant-loop-item : goal.invariant-loop-item
invariant-loop-item g l = l.reply ≡ l.fn.reply ++ flat_map (λ item. l.before ++ g.T.Listed.text item) (take l.item-index l.items)
