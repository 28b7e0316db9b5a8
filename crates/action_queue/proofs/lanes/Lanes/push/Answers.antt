-- A job more, and its id last in its lane.
use Rattle.std.proofs.Common.{◌≡◌, sym, ap, ◌∙◌, subst, ◌++◌, ◌∷◌, [], Some, None}
use Rattle.f2b_model.specs.Jobs.{AllIdsBelow}
use Rattle.action_queue.specs.Index.{jobs_of, job_at, with_job}
use Rattle.action_queue.proofs.KeyLemmas.{insert_last, remove_last, last_at, jobs_last}
use Rattle.action_queue.proofs.IndexLemmas.{index_push, index_same}
use Rattle.action_queue.proofs.lanes.Lanes.push.Goals as goal

pub invariant_of-self-in-Ok : goal.invariant_of-self-in-Ok
invariant_of-self-in-Ok c =
    let below : AllIdsBelow c.args.job.id (jobs_of c.self.inside.jobs.entries) = subst (AllIdsBelow c.args.job.id) (sym c.self.view_is) c.requires in
    let entries : c.insert.new.self.entries ≡ c.self.inside.jobs.entries ++ (c.args.job.id, c.args.job) ∷ [] = c.in_ok-insert.ensures.entries ∙ insert_last c.args.job.id c.args.job 0 c.self.inside.jobs.entries c.self.invariant.keyed below in
    let there : job_at c.args.job.id c.insert.new.self.entries ≡ Some c.args.job = ap (job_at c.args.job.id) entries ∙ last_at c.args.job.id c.args.job 0 c.self.inside.jobs.entries c.self.invariant.keyed below in
    rw entries (index_push c.args.job c.self.inside.jobs.entries c.self.inside.queues.items c.enter.new.queues.items c.self.invariant below (c.in-Ok.ensures.ok c.args.job there))

pub returns-in-Ok-clause-ok : goal.returns-in-Ok-clause-ok
returns-in-Ok-clause-ok c =
    let below : AllIdsBelow c.args.job.id (jobs_of c.self.inside.jobs.entries) = subst (AllIdsBelow c.args.job.id) (sym c.self.view_is) c.requires in
    ap jobs_of (c.in_ok-insert.ensures.entries ∙ insert_last c.args.job.id c.args.job 0 c.self.inside.jobs.entries c.self.invariant.keyed below)
    ∙ jobs_last c.args.job.id c.args.job c.self.inside.jobs.entries
    ∙ ap (λ jobs. jobs ++ c.args.job ∷ []) c.self.view_is

pub invariant_of-self-in-Err : goal.invariant_of-self-in-Err
invariant_of-self-in-Err c =
    let below : AllIdsBelow c.args.job.id (jobs_of c.self.inside.jobs.entries) = subst (AllIdsBelow c.args.job.id) (sym c.self.view_is) c.requires in
    rw (c.remove.ensures.entries, c.in_ok-insert.ensures.entries, insert_last c.args.job.id c.args.job 0 c.self.inside.jobs.entries c.self.invariant.keyed below, remove_last c.args.job.id c.args.job 0 c.self.inside.jobs.entries c.self.invariant.keyed below)
    (index_same c.self.inside.jobs.entries c.self.inside.queues.items c.enter.new.queues.items c.self.invariant c.in-Err.ensures.err)

pub returns-in-Err-clause-err : goal.returns-in-Err-clause-err
returns-in-Err-clause-err c =
    let below : AllIdsBelow c.args.job.id (jobs_of c.self.inside.jobs.entries) = subst (AllIdsBelow c.args.job.id) (sym c.self.view_is) c.requires in
    ap jobs_of (c.remove.ensures.entries
    ∙ ap (with_job c.args.job.id None) (c.in_ok-insert.ensures.entries ∙ insert_last c.args.job.id c.args.job 0 c.self.inside.jobs.entries c.self.invariant.keyed below)
    ∙ remove_last c.args.job.id c.args.job 0 c.self.inside.jobs.entries c.self.invariant.keyed below)
    ∙ c.self.view_is
