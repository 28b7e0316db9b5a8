-- The job under the least number.
use Rattle.std.proofs.Common.{sym, ap, ◌∙◌, subst, List}
use Rattle.f2b_model.specs.Jobs.{next_due}
use Rattle.action_queue.specs.Index.{jobs_of}
use Rattle.action_queue.specs.Due.{IsLeastDue}
use Rattle.action_queue.specs.declared.queue.Queue.{Queue}
use Rattle.action_queue.proofs.IndexLemmas.{head_missing}
use Rattle.action_queue.proofs.DueLemmas.{due_is_next, next_by_id}
use Rattle.action_queue.proofs.lanes.Lanes.next_due.Goals as goal

pub returns-in-Some : goal.returns-in-Some
returns-in-Some c =
    let least : IsLeastDue c.least_due.result c.args.now c.args.running.now c.self.inside.jobs.entries c.self.inside.queues.items =
    subst (λ (qs : List Queue). IsLeastDue c.least_due.result c.args.now c.args.running.now c.self.inside.jobs.entries qs) c.deref.ensures.value c.least_due.ensures in
    c.get.ensures.value
    ∙ next_by_id c.args.now c.args.running.now c.self.inside.jobs.entries c.in-Some.id c.self.invariant.keyed
    (sym c.in-Some.is ∙ due_is_next c.args.now c.args.running.now c.self.inside.jobs.entries c.self.inside.queues.items c.least_due.result c.self.invariant least)
    ∙ ap (next_due c.args.now c.args.running.now) c.self.view_is

pub returns-in-None : goal.returns-in-None
returns-in-None c =
    let least : IsLeastDue c.least_due.result c.args.now c.args.running.now c.self.inside.jobs.entries c.self.inside.queues.items =
    subst (λ (qs : List Queue). IsLeastDue c.least_due.result c.args.now c.args.running.now c.self.inside.jobs.entries qs) c.deref.ensures.value c.least_due.ensures in
    head_missing (next_due c.args.now c.args.running.now (jobs_of c.self.inside.jobs.entries))
    (sym c.in-None.is ∙ due_is_next c.args.now c.args.running.now c.self.inside.jobs.entries c.self.inside.queues.items c.least_due.result c.self.invariant least)
    ∙ ap (next_due c.args.now c.args.running.now) c.self.view_is
