-- The job that was checked goes, and then those behind it.
use Rattle.std.proofs.Common.{ℕ, ◌≡◌, cond, Some, None, List, sym, ap, ◌∙◌, subst}
use Rattle.std.specs.Prelude.{is_some}
use Rattle.std.proofs.lemmas.Option.{same_Some}
use Rattle.f2b_base.specs.declared.job.Job.{Job}
use Rattle.f2b_model.specs.Checks.{is_closing}
use Rattle.action_queue.specs.declared.checks.CheckEnd.TheVariants.{Closing, Open}
use Rattle.action_queue.specs.Checks.{Voids}
use Rattle.action_queue.specs.Index.{jobs_of, job_at, with_job, IsIndex}
use Rattle.action_queue.specs.Queues.{stop_of}
use Rattle.action_queue.proofs.CheckLemmas.{checked_gone, checked_voids, end_is}
use Rattle.action_queue.proofs.checks.fail.Goals as goal

pub void-requires : goal.void-requires
void-requires c =
    let there : job_at c.args.id c.args.jobs.now.entries ≡ Some c.in-Some.job = sym c.take_out.ensures.job ∙ c.in-Some.is in
    subst (λ (es : List (ℕ × Job)). IsIndex es c.take_out.new.queues.items) (sym c.take_out.ensures.jobs)
    (checked_gone c.args.id c.in-Some.job c.args.jobs.now.entries c.args.queues.now.items c.take_out.new.queues.items c.requires.index there (c.requires.checked c.in-Some.job there) (c.take_out.ensures.queues c.in-Some.job there))

pub returns-in-Some-clause-jobs : goal.returns-in-Some-clause-jobs
returns-in-Some-clause-jobs c =
    let there : job_at c.args.id c.args.jobs.now.entries ≡ Some c.in-Some.job = sym c.take_out.ensures.job ∙ c.in-Some.is in
    let rest : Voids c.in-Some.job.lane (with_job c.args.id None c.args.jobs.now.entries) c.void.new.jobs.entries c.void.new.queues.items =
    subst (λ (es : List (ℕ × Job)). Voids c.in-Some.job.lane es c.void.new.jobs.entries c.void.new.queues.items) c.take_out.ensures.jobs c.void.ensures in
    let voids : Voids c.in-Some.job.lane c.args.jobs.now.entries c.void.new.jobs.entries c.void.new.queues.items =
    checked_voids c.args.id c.in-Some.job c.args.jobs.now.entries c.void.new.jobs.entries c.void.new.queues.items c.requires.index.keyed there (c.requires.checked c.in-Some.job there) rest in
    λ j at. subst (λ (x : Job). Voids x.lane c.args.jobs.now.entries c.void.new.jobs.entries c.void.new.queues.items) (same_Some c.in-Some.job j (sym there ∙ at)) voids

pub returns-in-Some-clause-answer : goal.returns-in-Some-clause-answer
returns-in-Some-clause-answer c =
    let there : job_at c.args.id c.args.jobs.now.entries ≡ Some c.in-Some.job = sym c.take_out.ensures.job ∙ c.in-Some.is in
    let rest : Voids c.in-Some.job.lane (with_job c.args.id None c.args.jobs.now.entries) c.void.new.jobs.entries c.void.new.queues.items =
    subst (λ (es : List (ℕ × Job)). Voids c.in-Some.job.lane es c.void.new.jobs.entries c.void.new.queues.items) c.take_out.ensures.jobs c.void.ensures in
    let voids : Voids c.in-Some.job.lane c.args.jobs.now.entries c.void.new.jobs.entries c.void.new.queues.items =
    checked_voids c.args.id c.in-Some.job c.args.jobs.now.entries c.void.new.jobs.entries c.void.new.queues.items c.requires.index.keyed there (c.requires.checked c.in-Some.job there) rest in
    λ j at.
    c.end_of.ensures
    ∙ ap (λ b. cond b Closing Open)
    (ap (λ qs. is_some (stop_of c.in-Some.job.lane qs)) c.deref.ensures.value
    ∙ end_is c.in-Some.job.lane c.args.jobs.now.entries c.void.new.jobs.entries c.void.new.queues.items voids
    ∙ ap (λ (x : Job). is_closing x.lane (jobs_of c.args.jobs.now.entries)) (same_Some c.in-Some.job j (sym there ∙ at)))
