-- Where the job is checked, those of its lane go up to the first Stop; else nothing changes.
use Rattle.std.proofs.Common.{◌≡◌, ◌&&◌, true, false, Some, None, sym, ap, ◌∙◌}
use Rattle.std.specs.Prelude.{slice_get}
use Rattle.f2b_model.specs.Checks.{has_check, checked_lane}
use Rattle.action_queue.specs.Checks.{end_in}
use Rattle.action_queue.specs.Queues.{is_number, ids_of}
use Rattle.action_queue.proofs.CheckLemmas.{checked_each, checked_none, lane_checked, unchecked, left_now, voided_now}
use Rattle.action_queue.proofs.lanes.Lanes.check_failed.Goals as goal

pub fail-requires-clause-checked : goal.fail-requires-clause-checked
fail-requires-clause-checked c =
    checked_each c.args.id c.in-Some.job.now c.self.inside.jobs.entries c.self.inside.queues.items c.self.invariant (sym c.in-Some.ensures.value)
    (ap (λ qs. is_number c.args.id (slice_get (ids_of c.in-Some.job.now.lane qs) 0) && has_check c.in-Some.job.now.kind) (sym c.deref.ensures.value) ∙ sym c.is_checked.ensures ∙ c.if-is_checked.true)

pub invariant_of-self : goal.invariant_of-self
invariant_of-self c = (c.fail.ensures.jobs c.in-Some.job.now (sym c.in-Some.ensures.value)).index

pub returns-then-is_checked-clause-jobs : goal.returns-then-is_checked-clause-jobs
returns-then-is_checked-clause-jobs c =
    let lane : checked_lane c.args.id c.args.self.now ≡ Some c.in-Some.job.now.lane =
    lane_checked c.args.id c.in-Some.job.now c.self.inside.jobs.entries c.self.inside.queues.items c.args.self.now c.is_checked.result true c.self.invariant c.self.view_is (sym c.in-Some.ensures.value)
    (c.is_checked.ensures ∙ ap (λ qs. is_number c.args.id (slice_get (ids_of c.in-Some.job.now.lane qs) 0) && has_check c.in-Some.job.now.kind) c.deref.ensures.value) c.if-is_checked.true in
    left_now (checked_lane c.args.id c.args.self.now) c.in-Some.job.now.lane c.self.inside.jobs.entries c.fail.new.jobs.entries c.fail.new.queues.items c.args.self.now lane c.self.view_is
    (c.fail.ensures.jobs c.in-Some.job.now (sym c.in-Some.ensures.value))

pub returns-then-is_checked-clause-answer : goal.returns-then-is_checked-clause-answer
returns-then-is_checked-clause-answer c =
    let lane : checked_lane c.args.id c.args.self.now ≡ Some c.in-Some.job.now.lane =
    lane_checked c.args.id c.in-Some.job.now c.self.inside.jobs.entries c.self.inside.queues.items c.args.self.now c.is_checked.result true c.self.invariant c.self.view_is (sym c.in-Some.ensures.value)
    (c.is_checked.ensures ∙ ap (λ qs. is_number c.args.id (slice_get (ids_of c.in-Some.job.now.lane qs) 0) && has_check c.in-Some.job.now.kind) c.deref.ensures.value) c.if-is_checked.true in
    c.fail.ensures.answer c.in-Some.job.now (sym c.in-Some.ensures.value) ∙ ap (end_in (Some c.in-Some.job.now.lane)) c.self.view_is ∙ ap (λ o. end_in o c.args.self.now) (sym lane)

pub returns-then-is_checked-clause-voided : goal.returns-then-is_checked-clause-voided
returns-then-is_checked-clause-voided c =
    let lane : checked_lane c.args.id c.args.self.now ≡ Some c.in-Some.job.now.lane =
    lane_checked c.args.id c.in-Some.job.now c.self.inside.jobs.entries c.self.inside.queues.items c.args.self.now c.is_checked.result true c.self.invariant c.self.view_is (sym c.in-Some.ensures.value)
    (c.is_checked.ensures ∙ ap (λ qs. is_number c.args.id (slice_get (ids_of c.in-Some.job.now.lane qs) 0) && has_check c.in-Some.job.now.kind) c.deref.ensures.value) c.if-is_checked.true in
    voided_now (checked_lane c.args.id c.args.self.now) c.in-Some.job.now.lane c.self.inside.jobs.entries c.fail.new.jobs.entries c.fail.new.queues.items c.args.self.now lane c.self.invariant.keyed c.self.view_is
    (c.fail.ensures.jobs c.in-Some.job.now (sym c.in-Some.ensures.value))

pub returns-else-is_checked-clause-jobs : goal.returns-else-is_checked-clause-jobs
returns-else-is_checked-clause-jobs c =
    let none : checked_lane c.args.id c.args.self.now ≡ None =
    lane_checked c.args.id c.in-Some.job.now c.self.inside.jobs.entries c.self.inside.queues.items c.args.self.now c.is_checked.result false c.self.invariant c.self.view_is (sym c.in-Some.ensures.value)
    (c.is_checked.ensures ∙ ap (λ qs. is_number c.args.id (slice_get (ids_of c.in-Some.job.now.lane qs) 0) && has_check c.in-Some.job.now.kind) c.deref.ensures.value) c.if-is_checked.false in
    (unchecked (checked_lane c.args.id c.args.self.now) c.args.self.now none).jobs

pub returns-else-is_checked-clause-answer : goal.returns-else-is_checked-clause-answer
returns-else-is_checked-clause-answer c =
    let none : checked_lane c.args.id c.args.self.now ≡ None =
    lane_checked c.args.id c.in-Some.job.now c.self.inside.jobs.entries c.self.inside.queues.items c.args.self.now c.is_checked.result false c.self.invariant c.self.view_is (sym c.in-Some.ensures.value)
    (c.is_checked.ensures ∙ ap (λ qs. is_number c.args.id (slice_get (ids_of c.in-Some.job.now.lane qs) 0) && has_check c.in-Some.job.now.kind) c.deref.ensures.value) c.if-is_checked.false in
    (unchecked (checked_lane c.args.id c.args.self.now) c.args.self.now none).answer

pub returns-else-is_checked-clause-voided : goal.returns-else-is_checked-clause-voided
returns-else-is_checked-clause-voided c =
    let none : checked_lane c.args.id c.args.self.now ≡ None =
    lane_checked c.args.id c.in-Some.job.now c.self.inside.jobs.entries c.self.inside.queues.items c.args.self.now c.is_checked.result false c.self.invariant c.self.view_is (sym c.in-Some.ensures.value)
    (c.is_checked.ensures ∙ ap (λ qs. is_number c.args.id (slice_get (ids_of c.in-Some.job.now.lane qs) 0) && has_check c.in-Some.job.now.kind) c.deref.ensures.value) c.if-is_checked.false in
    (unchecked (checked_lane c.args.id c.args.self.now) c.args.self.now none).voided

pub returns-in-None-clause-jobs : goal.returns-in-None-clause-jobs
returns-in-None-clause-jobs c =
    (unchecked (checked_lane c.args.id c.args.self.now) c.args.self.now (checked_none c.args.id c.self.inside.jobs.entries c.args.self.now c.self.invariant.keyed c.self.view_is (sym c.in-None.ensures.value))).jobs

pub returns-in-None-clause-answer : goal.returns-in-None-clause-answer
returns-in-None-clause-answer c =
    (unchecked (checked_lane c.args.id c.args.self.now) c.args.self.now (checked_none c.args.id c.self.inside.jobs.entries c.args.self.now c.self.invariant.keyed c.self.view_is (sym c.in-None.ensures.value))).answer

pub returns-in-None-clause-voided : goal.returns-in-None-clause-voided
returns-in-None-clause-voided c =
    (unchecked (checked_lane c.args.id c.args.self.now) c.args.self.now (checked_none c.args.id c.self.inside.jobs.entries c.args.self.now c.self.invariant.keyed c.self.view_is (sym c.in-None.ensures.value))).voided
