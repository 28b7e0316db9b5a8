-- The last Stop of the lane's queue.
use Rattle.std.proofs.Common.{ap, ◌∙◌}
use Rattle.std.specs.Prelude.{is_some}
use Rattle.f2b_model.specs.Checks.{is_closing}
use Rattle.action_queue.specs.Index.{jobs_of}
use Rattle.action_queue.specs.Queues.{stop_of}
use Rattle.action_queue.proofs.IndexLemmas.{closing_stop}
use Rattle.action_queue.proofs.lanes.Lanes.closing.Goals as goal

pub returns : goal.returns
returns c =
    c.is_closing.ensures ∙ ap (λ qs. is_some (stop_of c.args.lane.now qs)) c.deref.ensures.value ∙ ap (λ o. is_some o) (c.self.invariant.stops c.args.lane.now)
    ∙ closing_stop c.args.lane.now (jobs_of c.self.inside.jobs.entries) ∙ ap (is_closing c.args.lane.now) c.self.view_is
