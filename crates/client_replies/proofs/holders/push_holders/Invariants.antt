use Rattle.std.proofs.Common.{◌≡◌, ◌++◌, take}
use Rattle.std.specs.List.{flat_map}
use Rattle.client_replies.specs.Texts.{view_held}
use Rattle.client_replies.proofs.holders.push_holders.Given as goal

abbrev pub invariant-loop-jail : goal.invariant-loop-jail
invariant-loop-jail l = l.line ≡ l.fn.line ++ flat_map (view_held l.addr) (take l.jail-index l.jails)
