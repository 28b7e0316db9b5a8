-- The commands that run, in the words of their table: which job comes next, and whether its check does.
use Rattle.std.specs.Prelude.{ℕ, nat_lt, if◌then◌else◌, List, length, Option, None}
use Rattle.f2b_base.specs.declared.job.Job.{Job}
use Rattle.f2b_base.specs.declared.job.UpLane.{UpLane}
use Rattle.f2b_model.specs.Checks.{check_of}
use Rattle.f2b_model.specs.Jobs.{next_due}
use Rattle.child_table.specs.Children.{Children, has_passed, jobs_of, most_children}

-- while there is room, the least among the first jobs of the lanes that are due and do not run
abbrev pub startable : ℕ → Children → List Job → Option Job
startable now t jobs = if nat_lt (length t.running) most_children then next_due now (jobs_of t.running) jobs else None

-- the lane whose check comes before the job's command; none where a check of the job has passed for this try
abbrev pub checked_first : Children → List UpLane → List Job → ℕ → Option UpLane
checked_first t up jobs job = if has_passed job t then None else check_of up job jobs
