use Rattle.std.proofs.Common.{rules, ◌≡◌, ◌<◌, false, length}
use Rattle.child_table.specs.Children.{has, jobs_of, most_children}
use Rattle.child_table.specs.Places.{place_for}
use Rattle.child_table.proofs.OrderLemmas.{children_more}
use Rattle.child_table.proofs.table.ChildTable.start.Goals as goal

pub invariant_of-self-2 : goal.invariant_of-self-2
invariant_of-self-2 c =
    let place : c.place_for-place.result ≡ place_for c.args.child.job c.self.inside.running = search rules in
    let room : length c.self.inside.running < most_children = (rw (← c.self.view_is) at c.requires.room) in
    let apart : has c.args.child.job (jobs_of c.self.inside.running) ≡ false = (rw (← c.self.view_is) at c.requires.apart) in
    rw c.in_ok-insert.ensures.ok (children_more _ _ _ place room apart c.self.invariant)
