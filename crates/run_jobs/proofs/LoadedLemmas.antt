-- The jobs of what is loaded, whatever bytes the slots held: they are pending, and none of them was tried in this run.
use Rattle.std.proofs.Common.{ℕ, zero, suc, ◌≡◌, ◌+◌, ◌-◌, ◌≤◌, Bool, true, false, cond, List, [], ◌∷◌, ◌++◌, map, max, Ok, refl, sym, ap, ap₂, subst, arith}
use Rattle.std.specs.Prelude.{replicate}
use Rattle.std.specs.List.{flat_map}
use Rattle.f2b_base.specs.Limits.{last_moment}
use Rattle.f2b_base.specs.declared.input.Input.{Input}
use Rattle.f2b_base.specs.declared.input.What.{What}
use Rattle.f2b_base.specs.declared.input.What.TheVariants.{Tick, Read, Ended, Config, Stop, Ban, Unban, Attempt, Ignore, Findtime, Bantime, Maxretry, Idle, CheckFailed}
use Rattle.f2b_base.specs.declared.job.Job.{Job}
use Rattle.f2b_base.specs.declared.view.View.{View}
use Rattle.f2b_model.specs.Active.{held}
use Rattle.f2b_model.specs.Jobs.{AreById, ArePending, Ending, Ledger, as_made, back_from, failed_at, pending, tries_of, waited}
use Rattle.f2b_model.specs.LaneSound.{IsOrdered}
use Rattle.f2b_model.specs.Lanes.{books, lanes_step}
use Rattle.f2b_model.specs.Lists.{AllOf}
use Rattle.f2b_model.specs.State.{JailsState}
use Rattle.f2b_model.specs.Steps.{at_reading, done, is_spent, moves, step_by}
use Rattle.f2b_model.specs.Storable.{IsStorableInput, IsStorableJob}
use Rattle.f2b_model.specs.Told.{jails_told}
use Rattle.f2b_model.specs.Views.{back}
use Rattle.f2b_model.specs.Whole.{State, is_whole_spent, step, steps}
use Rattle.f2b_model.proofs.BackLemmas.{back_ordered}
use Rattle.f2b_model.proofs.LaneOrderLemmas.{order_kept}
use Rattle.f2b_model.proofs.OrderLemmas.{pending_ordered}
use Rattle.record_codec.specs.Views.{IsRecordedView}
use Rattle.reconcile.specs.Loads.{Loaded, loaded}
use Rattle.run_law.proofs.LoadLemmas.{loaded_stored}
use Rattle.run_jobs.specs.Runs.{HoldBytes}
use Rattle.run_jobs.proofs.LedgerLemmas.{pending_fine}
use Rattle.run_jobs.proofs.StepLemmas.{StandsInOrder}

-- ---- the jobs of a view that was stored

-- the job, due no sooner than its tries put it off
abbrev put_off : Job → Job
put_off job = record job { due = max job.due (waited job.tries) }

later : (d w : ℕ) → max d w - w ≡ d - w
later d w = omega arith

waits_little : (tries : ℕ) → waited tries ≤ 4
waits_little zero = omega arith
waits_little (suc zero) = omega arith
waits_little (suc (suc tries)) = omega arith

-- it stands in the same list of jobs, with the same endings

made_same : (jobs : List Job) → map as_made (map put_off jobs) ≡ map as_made jobs
made_same [] = refl
made_same (job ∷ jobs) =
    let one : as_made (put_off job) ≡ as_made job = ap (λ (d : ℕ). let j : Job = record job { tries = 0; due = d } in j) (later job.due (waited job.tries)) in
    ap₂ (λ (j : Job) (js : List Job). j ∷ js) one (made_same jobs)

tries_same : (jobs : List Job) → flat_map tries_of (map put_off jobs) ≡ flat_map tries_of jobs
tries_same [] = refl
tries_same (job ∷ jobs) =
    let one : tries_of (put_off job) ≡ tries_of job = ap (λ (d : ℕ). replicate job.tries (failed_at job.id d)) (later job.due (waited job.tries)) in
    ap₂ (λ (es fs : List Ending). es ++ fs) one (tries_same jobs)

back_same : (jobs : List Job) → back_from (map put_off jobs) ≡ back_from jobs
back_same jobs = ap₂ (λ (js : List Job) (es : List Ending). let l : Ledger = record { made = js; endings = es } in l) (made_same jobs) (tries_same jobs)

are_pending : (from : ℕ) (jobs : List Job) (next : ℕ) → AreById from jobs next → AllOf IsStorableJob jobs → ArePending from (map put_off jobs) next
are_pending from [] next rise all = rise
are_pending from (job ∷ jobs) next rise all =
    let little : waited job.tries ≤ 4 = waits_little job.tries in
    let early : job.due ≤ last_moment = all.0.due in
    (rise.0, record { tries = all.0.tries; waited = omega arith; due = omega (arith, little, early) }, are_pending (job.id + 1) jobs next rise.1 all.1)

-- ---- states

record HasOrderedJobs (s : State) : Type 0 where
  pub at : s.jails.at ≤ last_moment
  pub jobs : IsOrdered s.lanes.jobs s.lanes.next_job

stored_ordered : (v : View) → IsRecordedView v → HasOrderedJobs (back v)
stored_ordered v recorded =
    let now = recorded.storable.now in
    record {
      at = now.at;
      jobs = subst (λ (l : Ledger). IsOrdered l v.next_job) (back_same v.jobs) (back_ordered (map put_off v.jobs) v.next_job (are_pending 0 v.jobs v.next_job now.by_id now.lanes.jobs));
    }

-- what happens changes no moment
done_at : (word : ℕ) (what : What) (s : JailsState) → (done moves word what s).at ≡ s.at
done_at word Tick s = refl
done_at word (Read jail path place fs) s = refl
done_at word (Ended job outcome) s = refl
done_at word (Config defs) s = refl
done_at word Stop s = refl
done_at word (Ban jail addrs) s = refl
done_at word (Unban jail addrs) s = refl
done_at word (Attempt jail addr) s = refl
done_at word (Ignore jail cidr add) s = refl
done_at word (Findtime jail secs) s = refl
done_at word (Bantime jail secs) s = refl
done_at word (Maxretry jail number) s = refl
done_at word (Idle jail idle) s = refl
done_at word (CheckFailed job outcome) s = refl

early_either : (b : Bool) (s t : JailsState) → s.at ≤ last_moment → t.at ≤ last_moment → (cond b s t).at ≤ last_moment
early_either true s t at_true at_false = at_true
early_either false s t at_true at_false = at_false

early_after : (s : JailsState) (i : Input) → i.secs ≤ last_moment → s.at ≤ last_moment → (step_by moves s i).at ≤ last_moment
early_after s i secs early =
    let mid : JailsState = done moves i.word i.what (at_reading moves i.secs s) in
    let at_mid : mid.at ≤ last_moment = subst (λ (n : ℕ). n ≤ last_moment) (sym (done_at i.word i.what (at_reading moves i.secs s))) (omega (arith, secs, early)) in
    early_either (is_spent s) s (record mid { jails = map (moves.dropped mid.at mid.purge) mid.jails }) early at_mid

ordered_either : (b : Bool) (s t : State) → HasOrderedJobs s → HasOrderedJobs t → HasOrderedJobs (cond b s t)
ordered_either true s t at_true at_false = at_true
ordered_either false s t at_true at_false = at_false

step_ordered : (s : State) (i : Input) → i.secs ≤ last_moment → HasOrderedJobs s → HasOrderedJobs (step s i)
step_ordered s i secs ordered =
    let after : JailsState = step_by moves s.jails i in
    let before = held moves (at_reading moves i.secs s.jails) in
    let told = jails_told moves s.jails i in
    let early : after.at ≤ last_moment = early_after s.jails i secs ordered.at in
    ordered_either (is_whole_spent moves books s) s (record { jails = after; lanes = lanes_step books after.at i.what before (held moves after) told s.lanes }) ordered
    (record { at = early; jobs = order_kept after.at i.what before (held moves after) told s.lanes early ordered.jobs })

steps_ordered : (s : State) (inputs : List Input) → AllOf IsStorableInput inputs → HasOrderedJobs s → HasOrderedJobs (steps s inputs)
steps_ordered s [] stored ordered = ordered
steps_ordered s (i ∷ inputs) stored ordered = steps_ordered (step s i) inputs stored.1 (step_ordered s i stored.0.secs ordered)

-- ---- what is loaded

pub loaded_fine : (limit : ℕ) (slots : ℕ → List ℕ) (l : Loaded) → HoldBytes slots → loaded limit slots ≡ Ok l → StandsInOrder [] l.state.lanes
loaded_fine limit slots l bytes is =
    let from = loaded_stored limit slots bytes l is in
    let s : State = steps (back from.stored.view) from.stored.inputs in
    let ordered = steps_ordered (back from.stored.view) from.stored.inputs from.inputs (stored_ordered from.stored.view from.recorded) in
    subst (λ (t : State). StandsInOrder [] t.lanes) (sym from.state_is)
    (pending_fine (pending s.lanes.jobs) s.lanes.next_job (pending_ordered s.lanes.jobs s.lanes.next_job ordered.jobs))
