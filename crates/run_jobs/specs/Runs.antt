-- Which jobs a whole run tries.
use Rattle.std.specs.Prelude.{ℕ, suc, ◌≡◌, ◌<◌, true, false, List, [], ◌∷◌, take}
use Rattle.std.specs.List.{flat_map}
use Rattle.child_table.specs.Children.{has, jobs_of}
use Rattle.f2b_model.specs.Jobs.{is_head_id}
use Rattle.f2b_world.specs.Told.{History}
use Rattle.f2b_world.specs.declared.event.Event.{Event}
use Rattle.f2b_world.specs.declared.event.Event.TheVariants.{ChildStart}
use Rattle.record_fields.specs.Codec.{IsBytes}
use Rattle.run_law.specs.Law.{begin}
use Rattle.run_law.specs.Points.{Place, AtTurn}
use Rattle.run_law.specs.Served.{Obeys, run_after}
use Rattle.run_law.specs.Server.{Server, jobs}
use Rattle.run_jobs.specs.Tried.{TriesInOrder}

-- the job of a start, of its command or of the check before it
abbrev pub start_of : Event → List ℕ
start_of (ChildStart job command answer) = job ∷ []
start_of _ = []

-- the jobs of all starts, in order
abbrev pub starts_in : List Event → List ℕ
starts_in es = flat_map start_of es

-- each number once
abbrev pub AreOnce : List ℕ → Type 0
AreOnce [] = Unit {0}
AreOnce (job ∷ jobs) = (has job jobs ≡ false) × AreOnce jobs

-- What runs, a command or the check before it, is for the first unsettled job of its lane, and no job is there twice: so of each lane one runs at most.
pub record RunsFirstJobs (s : Server) : Type 0 where
  pub first : (job : ℕ) → has job (jobs_of s.children.running) ≡ true → is_head_id job (jobs s) ≡ true
  pub once : AreOnce (jobs_of s.children.running)

-- With each event of a turn, the jobs that were tried so far stand in their order, among those that were made and voided before it. A run begins
-- with the jobs that were pending in what its slots held.
pub record TriesJobsInOrder (words : List (List ℕ)) (slots : ℕ → List ℕ) (es : List Event) : Type 0 where
  pub each : (k : ℕ) (place : Place) (s : Server) → (run_after words slots (take k es)).point ≡ AtTurn place s
      → TriesInOrder (starts_in (take (suc k) es)) s.state.lanes.jobs
  -- at each point of a turn
  pub alone : (k : ℕ) (place : Place) (s : Server) → (run_after words slots (take k es)).point ≡ AtTurn place s → RunsFirstJobs s

-- both slots hold bytes
abbrev pub HoldBytes : (ℕ → List ℕ) → Type 0
HoldBytes slots = (slot : ℕ) → slot < 2 → IsBytes (slots slot)

-- a run that obeys the law tries its jobs in their order, whatever bytes its slots held
pub record TriedLaw : Type 0 where
  pub in_order : (words : List (List ℕ)) (slots : ℕ → List ℕ) (g : History) (es : List Event) → HoldBytes slots → Obeys (begin words slots) g es
      → TriesJobsInOrder words slots es
