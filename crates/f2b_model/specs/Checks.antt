-- The checks of lanes: which jobs have one, and which jobs are voided where it fails.
use Rattle.std.specs.Prelude.{ℕ, Bool, true, false, ◌&&◌, bytes_eq, if◌then◌else◌, Option, Some, None, option_and_then, List, [], ◌∷◌, find}
use Rattle.std.specs.List.{list_any}
use Rattle.f2b_base.specs.declared.job.Job.{Job}
use Rattle.f2b_base.specs.declared.job.JobKind.{JobKind}
use Rattle.f2b_base.specs.declared.job.JobKind.TheVariants.{Start, Stop, Ban, Unban, Reban}
use Rattle.f2b_base.specs.declared.job.LaneId.{LaneId}
use Rattle.f2b_base.specs.declared.job.UpLane.{UpLane}
use Rattle.f2b_model.specs.Families.{same_lane}
use Rattle.f2b_model.specs.Jobs.{Ending, Voided, is_head, job_by_id}
use Rattle.f2b_model.specs.Orders.{is_lane}

-- whether a job is checked before it is tried
abbrev pub has_check : JobKind → Bool
has_check Ban = true
has_check Unban = true
has_check Start = false
has_check Stop = false
has_check Reban = false

-- whether a job stops its lane
abbrev pub is_stop : JobKind → Bool
is_stop Stop = true
is_stop Start = false
is_stop Ban = false
is_stop Unban = false
is_stop Reban = false

-- whether a Stop of the lane is pending
abbrev pub is_closing : LaneId → List Job → Bool
is_closing lane jobs = list_any (λ job. same_lane job.lane lane && is_stop job.kind) jobs

-- the lane of that name, if it is up
abbrev pub lane_of : LaneId → List UpLane → Option UpLane
lane_of id up = find (is_lane id) up

-- ---- the check before a try

-- the lane of a job that is checked, where it is the first of it
abbrev pub lane_if_checked : List Job → Option Job → Option LaneId
lane_if_checked jobs None = None
lane_if_checked jobs (Some job) = if is_head jobs job && has_check job.kind then Some job.lane else None

-- the lane of the job of an id that is checked, where it is the first of it
abbrev pub checked_lane : ℕ → List Job → Option LaneId
checked_lane id jobs = lane_if_checked jobs (job_by_id id jobs)

-- a lane that is up, if it has a check
abbrev pub with_check : Option UpLane → Option UpLane
with_check None = None
with_check (Some lane) = if bytes_eq lane.action.check [] then None else Some lane

-- the lane whose check is run before a try of the job of an id: the job is a Ban or an Unban and the first of its lane, and the lane
-- is up, has a check and is not about to stop
abbrev pub check_of : List UpLane → ℕ → List Job → Option UpLane
check_of up id jobs = option_and_then (λ lane. if is_closing lane jobs then None else with_check (lane_of lane up)) (checked_lane id jobs)

-- ---- where it fails

-- the pending jobs that are voided where the check of a lane fails: those of the lane, up to its first Stop
abbrev pub void_ids : LaneId → List Job → List ℕ
void_ids lane [] = []
void_ids lane (job ∷ jobs) =
    if same_lane job.lane lane then (if is_stop job.kind then [] else job.id ∷ void_ids lane jobs) else void_ids lane jobs

-- those that are left
abbrev pub left_by_check : LaneId → List Job → List Job
left_by_check lane [] = []
left_by_check lane (job ∷ jobs) =
    if same_lane job.lane lane then (if is_stop job.kind then job ∷ jobs else left_by_check lane jobs) else job ∷ left_by_check lane jobs

-- a job is voided
abbrev pub voided_at : ℕ → ℕ → Ending
voided_at id at = record { job = id; how = Voided; at = at }
