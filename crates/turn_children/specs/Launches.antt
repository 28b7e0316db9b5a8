-- What is started next, by what the code keeps.
use Rattle.std.specs.Prelude.{◌≡◌, Option, option_map}
use Rattle.f2b_base.specs.declared.job.Job.{Job}
use Rattle.f2b_model.specs.Jobs.{AreById}
use Rattle.run_law.specs.Children.{checked_first, startable}
use Rattle.run_law.specs.Points.{Place, AtStart}
use Rattle.run_law.specs.Turn.{start_place}
use Rattle.run_steps.specs.declared.running.Running.{Running}
use Rattle.turn_children.specs.declared.launch.Launch.{Launch}

abbrev pub place_of : Launch → Place
place_of l = AtStart l.child l.text

-- the job that comes next
abbrev pub next_job : Running → Option Job
next_job kept = startable kept.clocked.now kept.children kept.clocked.engine.core.lanes.jobs

-- what is started for a job
abbrev pub place_for : Running → Job → Place
place_for kept job = start_place kept.clocked.now job (checked_first kept.children kept.clocked.engine.core.lanes.up kept.clocked.engine.core.lanes.jobs job.id)

-- what is started next
abbrev pub next_start : Running → Option Place
next_start kept = option_map (place_for kept) (next_job kept)

-- This is started next, or nothing is, of jobs whose ids rise.
pub record IsNextStart (kept : Running) (launch : Option Launch) : Type 0 where
  pub next : option_map place_of launch ≡ next_start kept
  pub by_id : AreById 0 kept.clocked.engine.core.lanes.jobs kept.clocked.engine.core.lanes.next_job
