-- How a map of jobs and the queues of lanes stand for a list of jobs.
use Rattle.std.specs.Prelude.{ℕ, ◌+◌, ◌≤◌, ◌≡◌, ◌&&◌, if◌then◌else◌, Option, Some, None, List, [], ◌∷◌, map, filter}
use Rattle.std.specs.BTreeMap.{is_at}
use Rattle.std.specs.Map.{lookup, remove_entry, set_value}
use Rattle.std.specs.Ordering.{nat_cmp}
use Rattle.f2b_base.specs.declared.job.Job.{Job}
use Rattle.f2b_base.specs.declared.job.LaneId.{LaneId}
use Rattle.f2b_model.specs.Checks.{is_stop}
use Rattle.f2b_model.specs.Families.{same_lane}
use Rattle.action_queue.specs.declared.queue.Queue.{Queue}
use Rattle.action_queue.specs.Queues.{ids_of, stop_of, AreQueues}

-- the jobs of a map's entries
abbrev pub jobs_of : List (ℕ × Job) → List Job
jobs_of entries = map (λ e. e.1) entries

-- the job under an id
abbrev pub job_at : ℕ → List (ℕ × Job) → Option Job
job_at id entries = lookup (is_at (nat_cmp id)) entries

-- the entries with another job under an id that is there, or without that id
abbrev pub with_job : ℕ → Option Job → List (ℕ × Job) → List (ℕ × Job)
with_job id None entries = remove_entry (is_at (nat_cmp id)) entries
with_job id (Some job) entries = set_value (is_at (nat_cmp id)) entries job

-- the ids of the jobs of a lane
abbrev pub ids_in : LaneId → List Job → List ℕ
ids_in lane jobs = map (λ job. job.id) (filter (λ job. same_lane job.lane lane) jobs)

-- the later of two ids, where the first stands behind the other
abbrev pub later_of : Option ℕ → Option ℕ → Option ℕ
later_of None id = id
later_of (Some later) id = Some later

-- the id of a job that stops the lane
abbrev pub stops : LaneId → Job → Option ℕ
stops lane job = if same_lane job.lane lane && is_stop job.kind then Some job.id else None

-- the id of the last Stop of a lane
abbrev pub last_stop : LaneId → List Job → Option ℕ
last_stop lane [] = None
last_stop lane (job ∷ jobs) = later_of (last_stop lane jobs) (stops lane job)

-- each job stands under its id, and the ids rise
abbrev pub IsKeyed : ℕ → List (ℕ × Job) → Type 0
IsKeyed from [] = Unit {0}
IsKeyed from (e ∷ es) = (from ≤ e.0) × (e.1.id ≡ e.0) × IsKeyed (e.0 + 1) es

-- the queue of each lane holds the ids of the lane's jobs, in their order, and that of its last Stop
pub record IsIndex (entries : List (ℕ × Job)) (queues : List Queue) : Type 0 where
  pub keyed : IsKeyed 0 entries
  pub lists : (lane : LaneId) → ids_of lane queues ≡ ids_in lane (jobs_of entries)
  pub stops : (lane : LaneId) → stop_of lane queues ≡ last_stop lane (jobs_of entries)
  pub sound : AreQueues queues
