use Rattle.std.proofs.Common.{◌≡◌, take}
use Rattle.ban_table.proofs.TableLemmas.{lists_of}
use Rattle.ban_table.proofs.table.BanTable.of.Given as goal

abbrev pub invariant-loop-ban : goal.invariant-loop-ban
invariant-loop-ban l = l.table ≡ lists_of (take l.ban-index l.ban-items) l.lists.past
