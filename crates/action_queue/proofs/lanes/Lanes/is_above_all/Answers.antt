-- The last id is the greatest.
use Rattle.action_queue.proofs.KeyLemmas.{last_test}
use Rattle.action_queue.proofs.lanes.Lanes.is_above_all.Goals as goal

pub returns-in-Some : goal.returns-in-Some
returns-in-Some c = last_test c.args.id c.self.inside.jobs.entries (c.in-Some.last.now, c.in-Some.field-0-1.now) c.args.self.now c.self.invariant.keyed c.self.view_is c.in-Some.ensures.last
