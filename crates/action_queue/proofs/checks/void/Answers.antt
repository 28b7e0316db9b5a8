-- Each job that is voided leaves fewer, and those that will be left stay the same.
use Rattle.std.proofs.Common.{ℕ, ◌≡◌, ◌<◌, Some, List, length, sym, ap, ◌∙◌, subst}
use Rattle.std.specs.Prelude.{slice_get}
use Rattle.f2b_base.specs.declared.job.Job.{Job}
use Rattle.action_queue.specs.Checks.{void_front}
use Rattle.action_queue.specs.Queues.{ids_of}
use Rattle.action_queue.proofs.CheckLemmas.{IsVoiding, voiding_more, voiding_last, voids_fewer}
use Rattle.action_queue.proofs.checks.void.Goals as goal

pub loop-id-smaller-in-Some : goal.loop-id-smaller-in-Some
loop-id-smaller-in-Some c =
    let front : void_front c.loop-id.jobs.entries (slice_get (ids_of c.args.lane.now c.loop-id.queues.items) 0) ≡ Some c.in-Some.id =
    ap (λ qs. void_front c.loop-id.jobs.entries (slice_get (ids_of c.args.lane.now qs) 0)) (sym c.deref.ensures.value) ∙ sym c.first_void.ensures ∙ c.in-Some.is in
    subst (λ (es : List (ℕ × Job)). length es < length c.loop-id.jobs.entries) (sym c.take_out.ensures.jobs)
    (voids_fewer c.in-Some.id c.loop-id.jobs.entries (slice_get (ids_of c.args.lane.now c.loop-id.queues.items) 0) front)

pub loop-id-preserved-in-Some : goal.loop-id-preserved-in-Some
loop-id-preserved-in-Some c =
    let front : void_front c.loop-id.jobs.entries (slice_get (ids_of c.args.lane.now c.loop-id.queues.items) 0) ≡ Some c.in-Some.id =
    ap (λ qs. void_front c.loop-id.jobs.entries (slice_get (ids_of c.args.lane.now qs) 0)) (sym c.deref.ensures.value) ∙ sym c.first_void.ensures ∙ c.in-Some.is in
    subst (λ (es : List (ℕ × Job)). IsVoiding c.args.lane.now c.args.jobs.now.entries es c.take_out.new.queues.items) (sym c.take_out.ensures.jobs)
    (voiding_more c.args.lane.now c.in-Some.id c.args.jobs.now.entries c.loop-id.jobs.entries c.loop-id.queues.items c.take_out.new.queues.items c.loop-id.invariant front c.take_out.ensures.queues)

pub returns : goal.returns
returns c =
    voiding_last c.args.lane.now c.args.jobs.now.entries c.loop-id.jobs.entries c.loop-id.queues.items c.loop-id.invariant
    (ap (λ qs. void_front c.loop-id.jobs.entries (slice_get (ids_of c.args.lane.now qs) 0)) (sym c.deref.ensures.value) ∙ sym c.first_void.ensures ∙ c.in_default.is)
