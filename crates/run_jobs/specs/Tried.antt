-- Which jobs of a lane were tried, beside those that were made for it.
use Rattle.std.specs.Prelude.{ℕ, ◌==◌, ◌≡◌, ◌&&◌, ◌||◌, not, Bool, true, false, if◌then◌else◌, List, [], ◌∷◌, ◌++◌, map, filter, None}
use Rattle.std.specs.List.{list_any}
use Rattle.f2b_base.specs.declared.job.Job.{Job}
use Rattle.f2b_base.specs.declared.job.LaneId.{LaneId}
use Rattle.f2b_model.specs.Families.{same_lane}
use Rattle.f2b_model.specs.Jobs.{Ending, How, Tried, Voided, Ledger, head, pending}
use Rattle.child_table.specs.Children.{has}

-- ---- tries

-- whether the first of these is that job
abbrev pub is_next : ℕ → List ℕ → Bool
is_next job [] = false
is_next job (other ∷ others) = job == other

-- each job once, however often it comes again right behind itself
abbrev pub each_once : List ℕ → List ℕ
each_once [] = []
each_once (job ∷ jobs) = if is_next job jobs then each_once jobs else job ∷ each_once jobs

-- ---- lanes

abbrev pub numbers_of : List Job → List ℕ
numbers_of jobs = map (λ (job : Job). job.id) jobs

-- the jobs of a lane, in order
abbrev pub jobs_for : LaneId → List Job → List ℕ
jobs_for lane jobs = numbers_of (filter (λ (job : Job). same_lane job.lane lane) jobs)

abbrev pub is_void : How → Bool
is_void Voided = true
is_void (Tried outcome) = false

abbrev pub is_voided : List Ending → ℕ → Bool
is_voided endings job = list_any (λ (e : Ending). (e.job == job) && is_void e.how) endings

-- the jobs of a lane that were tried, each once
abbrev pub tried_of : List ℕ → LaneId → Ledger → List ℕ
tried_of started lane l = each_once (filter (λ job. has job (jobs_for lane l.made)) started)

-- the jobs that were made for a lane, without those that were voided before they were tried
abbrev pub made_of : List ℕ → LaneId → Ledger → List ℕ
made_of started lane l = filter (λ job. has job started || not (is_voided l.endings job)) (jobs_for lane l.made)

-- Each start is of a job that was made. Of each lane, the jobs that were tried are the first of those that were made for it, in order,
-- without those that were voided before; and they are all of these where none is pending.
pub record TriesInOrder (started : List ℕ) (l : Ledger) : Type 0 where
  pub made : (job : ℕ) → has job started ≡ true → has job (numbers_of l.made) ≡ true
  pub first : (lane : LaneId) → (rest : List ℕ) × (made_of started lane l ≡ tried_of started lane l ++ rest)
  pub all : (lane : LaneId) → head lane (pending l) ≡ None → made_of started lane l ≡ tried_of started lane l
