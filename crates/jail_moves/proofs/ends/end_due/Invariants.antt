use Rattle.std.proofs.Common.{◌≡◌, ◌++◌, map, length}
use Rattle.std.specs.List.{filter}
use Rattle.f2b_model.specs.Steps.{is_due, own_end}
use Rattle.f2b_model.specs.declared.happening.Happening.TheVariants.{Ends}
use Rattle.jail_moves.specs.Rooms.{all_ended}
use Rattle.jail_moves.proofs.EndLemmas.{due_in_order}
use Rattle.jail_moves.proofs.ends.end_due.Given as goal

abbrev pub invariant-loop-ban : goal.invariant-loop-ban
invariant-loop-ban l =
    (all_ended own_end (due_in_order l.at l.table.active) l.table ≡ all_ended own_end (due_in_order l.at l.initial.table.active) l.initial.table)
    × (l.told ++ map (Ends l.name) (due_in_order l.at l.table.active) ≡ l.initial.told ++ map (Ends l.name) (due_in_order l.at l.initial.table.active))

abbrev pub decreases-loop-ban : goal.decreases-loop-ban
decreases-loop-ban l = length (filter (is_due l.at) l.table.active)
