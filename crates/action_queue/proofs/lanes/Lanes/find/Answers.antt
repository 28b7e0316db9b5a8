-- The job under the number.
use Rattle.std.proofs.Common.{ap, ◌∙◌}
use Rattle.f2b_model.specs.Jobs.{job_by_id}
use Rattle.action_queue.proofs.KeyLemmas.{by_id}
use Rattle.action_queue.proofs.lanes.Lanes.find.Goals as goal

pub returns : goal.returns
returns c = c.get.ensures.value ∙ by_id c.args.id c.self.inside.jobs.entries c.self.invariant.keyed ∙ ap (job_by_id c.args.id) c.self.view_is
