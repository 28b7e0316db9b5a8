-- The job under the number that the lane's queue begins with.
use Rattle.std.proofs.Common.{sym, ap, ◌∙◌}
use Rattle.std.specs.Prelude.{slice_get}
use Rattle.f2b_model.specs.Jobs.{head}
use Rattle.action_queue.specs.Queues.{ids_of}
use Rattle.action_queue.proofs.IndexLemmas.{head_by_id, head_missing, ids_head}
use Rattle.action_queue.proofs.lanes.Lanes.head.Goals as goal

pub returns-in-Some : goal.returns-in-Some
returns-in-Some c =
    c.get.ensures.value
    ∙ head_by_id c.args.lane.now c.self.inside.jobs.entries c.in-Some.id c.self.invariant.keyed
    (sym c.in-Some.is ∙ c.first_id.ensures ∙ ap (λ qs. slice_get (ids_of c.args.lane.now qs) 0) c.deref.ensures.value
    ∙ ap (λ ids. slice_get ids 0) (c.self.invariant.lists c.args.lane.now) ∙ ids_head c.args.lane.now _)
    ∙ ap (head c.args.lane.now) c.self.view_is

pub returns-in-None : goal.returns-in-None
returns-in-None c =
    head_missing (head c.args.lane.now _)
    (sym c.in-None.is ∙ c.first_id.ensures ∙ ap (λ qs. slice_get (ids_of c.args.lane.now qs) 0) c.deref.ensures.value
    ∙ ap (λ ids. slice_get ids 0) (c.self.invariant.lists c.args.lane.now) ∙ ids_head c.args.lane.now _)
    ∙ ap (head c.args.lane.now) c.self.view_is
