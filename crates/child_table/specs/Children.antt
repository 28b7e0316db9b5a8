-- The children of a server: what runs for which job, and which checks have passed.
use Rattle.std.specs.Prelude.{ℕ, ◌+◌, ◌==◌, ◌≤◌, nat_lt, not, Bool, List, [], ◌∷◌, ◌++◌, length, map, filter, remove}
use Rattle.std.specs.List.{list_any}
use Rattle.f2b_model.specs.Lists.{placed}
use Rattle.child_table.specs.declared.child.Child.{Child}
use Rattle.child_table.specs.declared.child.Task.{Task}
use Rattle.child_table.specs.declared.child.Task.TheVariants.{Check, Command}

-- what runs, by the number of the job, and the jobs whose check has passed and whose command was not started since
pub record Children : Type 0 where
  pub running : List Child
  pub passed : List ℕ

-- ---- what always holds

-- how many run at most
abbrev pub most_children : ℕ
most_children = 16

-- the numbers of the jobs rise, from a number on: so none is there twice
abbrev pub ByJob : ℕ → List Child → Type 0
ByJob from [] = Unit {0}
ByJob from (c ∷ cs) = (from ≤ c.job) × ByJob (c.job + 1) cs

pub record AreChildren (cs : List Child) : Type 0 where
  pub few : length cs ≤ most_children
  pub by_job : ByJob 0 cs

-- ---- what there is

abbrev pub nobody : Children
nobody = record { running = []; passed = [] }

abbrev pub has : ℕ → List ℕ → Bool
has job jobs = list_any (λ other. other == job) jobs

-- the numbers of the jobs that these run for
abbrev pub jobs_of : List Child → List ℕ
jobs_of cs = map (λ (c : Child). c.job) cs

-- something runs for the job: its check or its command
abbrev pub runs : ℕ → Children → Bool
runs job t = has job (jobs_of t.running)

abbrev pub has_passed : ℕ → Children → Bool
has_passed job t = has job t.passed

-- ---- what changes

abbrev pub comes_before : Child → Child → Bool
comes_before a b = nat_lt a.job b.job

abbrev pub without : ℕ → List ℕ → List ℕ
without job jobs = filter (λ other. not (other == job)) jobs

-- a check passes for one try of the command alone
abbrev pub used_by : Task → ℕ → List ℕ → List ℕ
used_by Check job passed = passed
used_by Command job passed = without job passed

-- a child was started: it runs, in its place by the number of its job
abbrev pub started : Child → Children → Children
started c t = record { running = placed comes_before c t.running; passed = used_by c.task c.job t.passed }

-- a child could not be started: where it is the job's command that was a try too
abbrev pub not_started : Child → Children → Children
not_started c t = record t { passed = used_by c.task c.job t.passed }

-- the child at that place has ended
abbrev pub ended : ℕ → Children → Children
ended place t = record t { running = remove t.running place }

-- the job's check has passed
abbrev pub passed_by : ℕ → Children → Children
passed_by job t = record t { passed = t.passed ++ job ∷ [] }
