-- The front of the queue of the job's lane, and the job's kind.
use Rattle.std.proofs.Common.{cond, ◌&&◌, Some, None, sym, ap, ◌∙◌}
use Rattle.std.specs.Prelude.{slice_get}
use Rattle.f2b_model.specs.Checks.{has_check}
use Rattle.action_queue.specs.Queues.{is_number, ids_of}
use Rattle.action_queue.proofs.CheckLemmas.{checked_is, checked_none}
use Rattle.action_queue.proofs.lanes.Lanes.checked.Goals as goal

pub returns-in-Some : goal.returns-in-Some
returns-in-Some c =
    c.checked_lane.ensures
    ∙ ap (λ qs. cond (is_number c.args.id (slice_get (ids_of c.in-Some.job.now.lane qs) 0) && has_check c.in-Some.job.now.kind) (Some c.in-Some.job.now.lane) None) c.deref.ensures.value
    ∙ sym (checked_is c.args.id c.in-Some.job.now c.self.inside.jobs.entries c.self.inside.queues.items c.args.self.now c.self.invariant c.self.view_is (sym c.in-Some.ensures.value))

pub returns-in-None : goal.returns-in-None
returns-in-None c = sym (checked_none c.args.id c.self.inside.jobs.entries c.args.self.now c.self.invariant.keyed c.self.view_is (sym c.in-None.ensures.value))
