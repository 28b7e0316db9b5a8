-- What is started next, by what the code keeps.
use Rattle.std.proofs.Common.{ℕ, ◌≡◌, ◌<◌, ◌≤◌, Bool, true, false, cond, List, length, Option, Some, None, refl, sym, ap, ◌∙◌, subst}
use Rattle.std.specs.Prelude.{option_map}
use Rattle.std.proofs.lemmas.Bool.{lt-ltb, le-ltb}
use Rattle.f2b_base.specs.declared.job.Job.{Job}
use Rattle.f2b_base.specs.declared.job.UpLane.{UpLane}
use Rattle.f2b_model.specs.Checks.{check_of}
use Rattle.f2b_model.specs.Jobs.{AreById, next_due}
use Rattle.f2b_model.specs.Storable.{IsStorable}
use Rattle.f2b_model.specs.Whole.{Now}
use Rattle.child_table.specs.Children.{has_passed, jobs_of, most_children}
use Rattle.child_table.specs.declared.child.Child.{Child}
use Rattle.child_table.specs.declared.child.Task.TheVariants.{Check}
use Rattle.lane_moves.specs.CheckText.{check_text, check_text_of}
use Rattle.run_law.specs.Points.{Place, AtStart}
use Rattle.run_law.specs.Turn.{start_place}
use Rattle.run_steps.specs.declared.running.Running.{Running}
use Rattle.turn_children.specs.Launches.{IsNextStart, next_job, place_for, place_of}
use Rattle.turn_children.specs.declared.launch.Launch.{Launch}

-- ---- the check of a lane

pub check_found : (now : ℕ) (job : Job) (lane : Option UpLane) (text : Option (List ℕ)) (bytes : List ℕ) (child : Child) → text ≡ check_text_of lane → text ≡ Some bytes
    → child ≡ record { job = job.id; task = Check; since = now; timeout = job.timeout } → Some (AtStart child bytes) ≡ option_map (λ (l : UpLane). start_place now job (Some l)) lane
check_found now job None text bytes child text_is bytes_is child_is = absurd (let none : None ≡ Some bytes = sym text_is ∙ bytes_is in cc)
check_found now job (Some lane) text bytes child text_is bytes_is child_is =
    let bytes_are : bytes ≡ check_text lane = (let e : Some bytes ≡ Some (check_text lane) = sym bytes_is ∙ text_is in cc) in
    λ i. Some (AtStart (child_is i) (bytes_are i))

pub check_none : (now : ℕ) (job : Job) (lane : Option UpLane) (text : Option (List ℕ)) → text ≡ check_text_of lane → text ≡ None
    → None ≡ option_map (λ (l : UpLane). start_place now job (Some l)) lane
check_none now job None text text_is none = refl
check_none now job (Some lane) text text_is none = absurd (let e : Some (check_text lane) ≡ None = sym text_is ∙ none in cc)

pub ruleset checking = (check_found, check_none)

-- ---- what is started for a job

same_place : (now : ℕ) (job : Job) (lane : Option UpLane) (o : Option Launch) (l : Launch) → option_map place_of o ≡ option_map (λ (u : UpLane). start_place now job (Some u)) lane → o ≡ Some l
    → place_of l ≡ start_place now job lane
same_place now job None o l is some = absurd (let e : Some (place_of l) ≡ None = ap (option_map place_of) (sym some) ∙ is in cc)
same_place now job (Some lane) o l is some = let e : Some (place_of l) ≡ Some (start_place now job (Some lane)) = ap (option_map place_of) (sym some) ∙ is in cc

no_place : (now : ℕ) (job : Job) (lane : Option UpLane) (o : Option Launch) → option_map place_of o ≡ option_map (λ (u : UpLane). start_place now job (Some u)) lane → o ≡ None
    → start_place now job None ≡ start_place now job lane
no_place now job None o is none = refl
no_place now job (Some lane) o is none = absurd (let e : None ≡ Some (start_place now job (Some lane)) = ap (option_map place_of) (sym none) ∙ is in cc)

-- what is started for a job, by whether a check has passed for this try
abbrev place_if : Running → Job → Now → Bool → Place
place_if kept job core passed = start_place kept.clocked.now job (cond passed None (check_of core.lanes.up job.id core.lanes.jobs))

module _ (kept : Running) (job : Job) (passed : Bool) (passed_is : passed ≡ has_passed job.id kept.children) where
  -- a check has passed for this try
  pub launch_passed : (p : Place) → passed ≡ true → p ≡ start_place kept.clocked.now job None → p ≡ place_for kept job
  launch_passed p holds is = is ∙ ap (place_if kept job kept.clocked.engine.core) (sym holds ∙ passed_is)

  module _ (core : Now) (core_is : core ≡ kept.clocked.engine.core) (no : passed ≡ false) (o : Option Launch)
      (is : option_map place_of o ≡ option_map (λ (u : UpLane). start_place kept.clocked.now job (Some u)) (check_of core.lanes.up job.id core.lanes.jobs)) where
    unpassed : start_place kept.clocked.now job (check_of core.lanes.up job.id core.lanes.jobs) ≡ place_for kept job
    unpassed = λ i. place_if kept job (core_is i) ((sym no ∙ passed_is) i)

    pub launch_checked : (l : Launch) → o ≡ Some l → place_of l ≡ place_for kept job
    launch_checked l some = same_place kept.clocked.now job (check_of core.lanes.up job.id core.lanes.jobs) o l is some ∙ unpassed

    pub launch_unchecked : (p : Place) → o ≡ None → p ≡ start_place kept.clocked.now job None → p ≡ place_for kept job
    launch_unchecked p none at = at ∙ no_place kept.clocked.now job (check_of core.lanes.up job.id core.lanes.jobs) o is none ∙ unpassed

pub ruleset launching = (launch_passed, launch_checked, launch_unchecked)

-- ---- the next one

-- the job that comes next, by whether there is room
abbrev job_if : Running → Bool → Option Job
job_if kept room = cond room (next_due kept.clocked.now (jobs_of kept.children.running) kept.clocked.engine.core.lanes.jobs) None

module _ (kept : Running) (core : Now) (core_is : core ≡ kept.clocked.engine.core) (stored : IsStorable core) where
  rises : AreById 0 kept.clocked.engine.core.lanes.jobs kept.clocked.engine.core.lanes.next_job
  rises = let P : Now → Type 0 = λ n. AreById 0 n.lanes.jobs n.lanes.next_job in subst P core_is stored.by_id

  -- there is no room
  pub next_full : most_children ≤ length kept.children.running → IsNextStart kept None
  next_full full = record { next = ap (λ (b : Bool). option_map (place_for kept) (job_if kept b)) (sym (le-ltb (length kept.children.running) most_children full)); by_id = rises }

  module _ (room : length kept.children.running < most_children) (jobs : List ℕ) (jobs_are : jobs ≡ jobs_of kept.children.running) where
    due_is : next_job kept ≡ next_due kept.clocked.now jobs core.lanes.jobs
    due_is =
        let same : next_due kept.clocked.now (jobs_of kept.children.running) kept.clocked.engine.core.lanes.jobs ≡ next_due kept.clocked.now jobs core.lanes.jobs =
        λ i. next_due kept.clocked.now (sym jobs_are i) (sym core_is i).lanes.jobs in
        ap (job_if kept) (lt-ltb (length kept.children.running) most_children room) ∙ same

    pub next_found : (job : Job) (l : Launch) → next_due kept.clocked.now jobs core.lanes.jobs ≡ Some job → place_of l ≡ place_for kept job → IsNextStart kept (Some l)
    next_found job l due is = record { next = ap (λ (q : Place). Some q) is ∙ ap (option_map (place_for kept)) (sym (due_is ∙ due)); by_id = rises }

    pub next_none : next_due kept.clocked.now jobs core.lanes.jobs ≡ None → IsNextStart kept None
    next_none due = record { next = ap (option_map (place_for kept)) (sym (due_is ∙ due)); by_id = rises }

pub ruleset nexts = (next_full, next_found, next_none)
