-- The number at the front of the queue of the job's lane.
use Rattle.std.proofs.Common.{sym, ap, ◌∙◌}
use Rattle.std.specs.Prelude.{slice_get}
use Rattle.action_queue.specs.Queues.{ids_of}
use Rattle.action_queue.specs.Queues.{is_number}
use Rattle.action_queue.proofs.IndexLemmas.{head_test, head_test_none}
use Rattle.action_queue.proofs.lanes.Lanes.is_head.Goals as goal

pub returns-in-Some : goal.returns-in-Some
returns-in-Some c =
    c.is_number.ensures
    ∙ ap (is_number c.args.id) (c.first_id.ensures ∙ ap (λ qs. slice_get (ids_of c.in-Some.job.now.lane qs) 0) c.deref.ensures.value)
    ∙ head_test c.args.id c.in-Some.job.now c.self.inside.jobs.entries c.self.inside.queues.items c.args.self.now c.self.invariant c.self.view_is (sym c.in-Some.ensures.value)

pub returns-in-None : goal.returns-in-None
returns-in-None c = head_test_none c.args.id c.self.inside.jobs.entries c.args.self.now c.self.invariant.keyed c.self.view_is (sym c.in-None.ensures.value)
