-- What a step tells of the lanes: tries and checks that failed, and lanes that start anew. Lines are made of it.
use Rattle.std.specs.Prelude.{ℕ, Bool, true, false, not, ◌&&◌, if◌then◌else◌, Option, Some, None, List, [], ◌∷◌}
use Rattle.f2b_base.specs.declared.input.What.{What}
use Rattle.f2b_base.specs.declared.input.What.TheVariants.{Ended, CheckFailed}
use Rattle.f2b_base.specs.declared.job.Job.{Job}
use Rattle.f2b_base.specs.declared.job.LaneId.{LaneId}
use Rattle.f2b_base.specs.declared.job.Outcome.{Outcome}
use Rattle.f2b_base.specs.declared.job.Settled.{Settled}
use Rattle.f2b_base.specs.declared.job.Settled.TheVariants.{Done, GivenUp, Again}
use Rattle.f2b_base.specs.declared.job.UpLane.{UpLane}
use Rattle.f2b_model.specs.declared.lane_happening.LaneHappening.{LaneHappening}
use Rattle.f2b_model.specs.declared.lane_happening.LaneHappening.TheVariants.{TryFails, CheckFails, Restarts}
use Rattle.f2b_model.specs.Checks.{is_closing, checked_lane}
use Rattle.f2b_model.specs.Jobs.{Tried, is_head_id, job_by_id, settled_as}
use Rattle.f2b_model.specs.Lanes.{Lanes, Books}
use Rattle.f2b_model.specs.Orders.{is_up}

-- what a try of a job did to it, where it failed
abbrev pub told_settled : Outcome → Job → Settled → List LaneHappening
told_settled outcome job Done = []
told_settled outcome job GivenUp = TryFails job.lane job.kind outcome true ∷ []
told_settled outcome job (Again due) = TryFails job.lane job.kind outcome false ∷ []

-- the end of a try of a job, if there is the job
abbrev pub told_try_of : ℕ → Outcome → Option Job → List LaneHappening
told_try_of at outcome None = []
told_try_of at outcome (Some job) = told_settled outcome job (settled_as (record { job = job.id; how = Tried outcome; at = at }) job)

-- the end of a try: it counts where the job is the first of its lane
abbrev pub told_try : ℕ → ℕ → Outcome → List Job → List LaneHappening
told_try at job outcome jobs = if is_head_id job jobs then told_try_of at outcome (job_by_id job jobs) else []

-- whether a lane starts anew where its check fails
abbrev pub restarts : LaneId → List UpLane → List Job → Bool
restarts lane up jobs = not (is_closing lane jobs) && is_up up lane

-- a check that failed, if there is the lane, and that the lane starts anew
abbrev pub told_check : Outcome → List UpLane → List Job → Option LaneId → List LaneHappening
told_check outcome up jobs None = []
told_check outcome up jobs (Some lane) = CheckFails lane outcome ∷ (if restarts lane up jobs then Restarts lane ∷ [] else [])

-- what happened, to the lanes once what the jails tell has become jobs
abbrev pub lanes_told : {L : Type 0} → Books L → ℕ → What → Lanes L → List LaneHappening
lanes_told b at (Ended job outcome) l = told_try at job outcome (b.pending l.jobs)
lanes_told b at (CheckFailed job outcome) l = told_check outcome l.up (b.pending l.jobs) (checked_lane job (b.pending l.jobs))
lanes_told b at _ l = []
