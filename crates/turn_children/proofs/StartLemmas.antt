-- The start of one child: how the run goes on over it, and why starts come to an end.
use Rattle.std.proofs.Common.{ℕ, ◌≡◌, ◌+◌, ◌<◌, ◌≤◌, ◌&&◌, ◌==◌, Bool, true, false, not, nat_le, nat_lt, List, [], ◌∷◌, length, Option, Some, None, refl, sym, ap, ◌∙◌, subst, arith}
use Rattle.std.specs.Prelude.{option_map, find}
use Rattle.std.specs.List.{list_any}
use Rattle.std.proofs.lemmas.Bool.{and_parts, ltb-true}
use Rattle.f2b_base.specs.declared.job.Job.{Job}
use Rattle.f2b_base.specs.declared.job.Outcome.TheVariants.{NotStarted}
use Rattle.f2b_base.specs.declared.job.UpLane.{UpLane}
use Rattle.f2b_model.specs.Checks.{check_of}
use Rattle.f2b_model.specs.Jobs.{is_head, next_due}
use Rattle.f2b_model.specs.Lists.{placed}
use Rattle.f2b_model.specs.Starts.{checks_left, jobs_then, tries_left, unchecked, unstarted}
use Rattle.f2b_model.specs.Whole.{Now, step_now}
use Rattle.f2b_model.proofs.ListLemmas.{by_test}
use Rattle.f2b_model.proofs.StartLemmas.{starts_end}
use Rattle.f2b_world.specs.Told.{Asked, Called, Standing, start_event}
use Rattle.f2b_world.specs.declared.answer.StartAnswer.{StartAnswer}
use Rattle.f2b_world.specs.declared.answer.StartAnswer.TheVariants.{Started, Failed as StartFailed, NoMemory as StartNoMemory}
use Rattle.f2b_world.specs.declared.event.Event.TheVariants.{ChildStart}
use Rattle.child_table.specs.Children.{Children, comes_before, has, has_passed, jobs_of, most_children, not_started, runs, started}
use Rattle.child_table.specs.declared.child.Child.{Child}
use Rattle.child_table.specs.declared.child.Task.{Task}
use Rattle.child_table.specs.declared.child.Task.TheVariants.{Check, Command}
use Rattle.run_law.specs.Children.{checked_first, startable}
use Rattle.run_law.specs.Law.{Goes}
use Rattle.run_law.specs.News.{after_news}
use Rattle.run_law.specs.Points.{Place, Point, Run, AtTurn, AtStart}
use Rattle.run_law.specs.Polls.{end_news, end_of}
use Rattle.run_law.specs.Server.{Server, jobs, lanes_up}
use Rattle.run_law.specs.Stages.{Brings, BringFails, IsAt, IsSteady, MoveFails, Moves}
use Rattle.run_law.specs.Starts.{child_started, with_child, without_child}
use Rattle.run_law.specs.Turn.{start_place, start_point, to_end, to_starts}
use Rattle.run_law.specs.declared.status.Status.{Status}
use Rattle.run_law.specs.declared.status.Status.TheVariants.{NoMemory}
use Rattle.run_law.proofs.CauseLemmas.{steady_call, steady_placed, steady_refl}
use Rattle.run_law.proofs.EntryLemmas.{saying_starts}
use Rattle.run_law.proofs.PointLemmas.{goes_trans, halts_after, halts_here, turn_goes}
use Rattle.run_law.proofs.StageLemmas.{move_fails_here}
use Rattle.run_steps.specs.Keeping.{IsPlacedIn, IsTimedAlike, KeepsRunning, Makes, news_of}
use Rattle.run_steps.specs.declared.clocked.Clocked.{Clocked}
use Rattle.run_steps.specs.declared.running.Running.{Running}
use Rattle.turn_children.specs.Launches.{IsNextStart, next_job, next_start, place_for, place_of}
use Rattle.turn_children.specs.Starting.{ComesNearer, HasNotStarted, HasStarted, checks_then, is_check}
use Rattle.turn_children.specs.declared.launch.Launch.{Launch}
use Rattle.turn_children.proofs.PollLemmas.{keeps_children}

-- ---- what comes next

-- the job that a start is for
record IsStartOf (kept : Running) (child : Child) (text : List ℕ) : Type 0 where
  pub job : Job
  pub next : next_job kept ≡ Some job
  pub place : place_for kept job ≡ AtStart child text

mapped : {A B : Type 0} (f : A → B) (o : Option A) (y : B) → option_map f o ≡ Some y → (x : A) × (o ≡ Some x) × (f x ≡ y)
mapped f None y is = absurd (let e : None ≡ Some y = is in cc)
mapped f (Some x) y is = (x, refl, (let e : Some (f x) ≡ Some y = is in cc))

start_of : (kept : Running) (child : Child) (text : List ℕ) → next_start kept ≡ Some (AtStart child text) → IsStartOf kept child text
start_of kept child text is =
    let found = mapped (place_for kept) (next_job kept) (AtStart child text) is in
    record { job = found.0; next = found.1; place = found.2 }

-- there is room, and the job is the next one that is due
due_of : (now : ℕ) (t : Children) (jobs : List Job) (job : Job) → startable now t jobs ≡ Some job → (length t.running < most_children) × (next_due now (jobs_of t.running) jobs ≡ Some job)
due_of now t jobs job is =
    by_test (nat_lt (length t.running) most_children) _
    (λ room. (ltb-true _ _ room, (rw room at is)))
    (λ full. absurd (let e : None ≡ Some job = rw full at is in cc))

found_passes : {A : Type 0} (p : A → Bool) (xs : List A) (x : A) → find p xs ≡ Some x → p x ≡ true
found_passes p [] x is = absurd (let e : None ≡ Some x = is in cc)
found_passes p (y ∷ ys) x is =
    by_test (p y) _
    (λ yes. let same : y ≡ x = (let e : Some y ≡ Some x = rw yes at is in cc) in ap p (sym same) ∙ yes)
    (λ no. found_passes p ys x (rw no at is))

not_true : (b : Bool) → not b ≡ true → b ≡ false
not_true true is = absurd (let e : false ≡ true = is in cc)
not_true false is = refl

-- the first of its lane, due, and not running
abbrev may_start : ℕ → List ℕ → List Job → Job → Bool
may_start now running jobs job = is_head jobs job && (nat_le job.due now && not (list_any (λ id. id == job.id) running))

not_running : (now : ℕ) (running : List ℕ) (jobs : List Job) (job : Job) → next_due now running jobs ≡ Some job → has job.id running ≡ false
not_running now running jobs job due =
    let passes : may_start now running jobs job ≡ true = found_passes (may_start now running jobs) jobs job due in
    let waits : not (has job.id running) ≡ true = (and_parts (nat_le job.due now) (not (has job.id running)) (and_parts (is_head jobs job) (nat_le job.due now && not (has job.id running)) passes).1).1 in
    not_true (has job.id running) waits

-- the child is for that job
child_is : (now : ℕ) (job : Job) (lane : Option UpLane) (child : Child) (text : List ℕ) → start_place now job lane ≡ AtStart child text → child.job ≡ job.id
child_is now job None child text is = cc
child_is now job (Some lane) child text is = cc

-- where a check is started, its lane has one that comes first
lane_of_check : (now : ℕ) (job : Job) (lane : Option UpLane) (child : Child) (text : List ℕ) → start_place now job lane ≡ AtStart child text → child.task ≡ Check → (u : UpLane) × (lane ≡ Some u)
lane_of_check now job None child text is task = absurd (let command : child.task ≡ Command = cc in let e : Command ≡ Check = sym command ∙ task in cc)
lane_of_check now job (Some lane) child text is task = (lane, refl)

checks_of : (t : Children) (up : List UpLane) (jobs : List Job) (id : ℕ) (lane : UpLane) → checked_first t up jobs id ≡ Some lane → check_of up id jobs ≡ Some lane
checks_of t up jobs id lane is =
    by_test (has_passed id t) _
    (λ passed. absurd (let e : None ≡ Some lane = rw passed at is in cc))
    (λ not_passed. rw not_passed at is)

pub start_room : (kept : Running) (launch : Launch) → IsNextStart kept (Some launch) → length kept.children.running < most_children
start_room kept launch is =
    let of = start_of kept launch.child launch.text (sym is.next) in
    (due_of kept.clocked.now kept.children kept.clocked.engine.core.lanes.jobs of.job of.next).0

pub start_apart : (kept : Running) (launch : Launch) → IsNextStart kept (Some launch) → runs launch.child.job kept.children ≡ false
start_apart kept launch is =
    let of = start_of kept launch.child launch.text (sym is.next) in
    let due = (due_of kept.clocked.now kept.children kept.clocked.engine.core.lanes.jobs of.job of.next).1 in
    let first = checked_first kept.children kept.clocked.engine.core.lanes.up kept.clocked.engine.core.lanes.jobs of.job.id in
    let same = child_is kept.clocked.now of.job first launch.child launch.text of.place in
    let P : ℕ → Type 0 = λ id. has id (jobs_of kept.children.running) ≡ false in
    subst P (sym same) (not_running kept.clocked.now (jobs_of kept.children.running) kept.clocked.engine.core.lanes.jobs of.job due)

-- ---- where a run stands that may start a child

abbrev next_in : ℕ → Children → List UpLane → List Job → Option Place
next_in now t up jobs = option_map (λ (job : Job). start_place now job (checked_first t up jobs job.id)) (startable now t jobs)

abbrev point_in : Option Place → Server → Point
point_in (Some place) s = AtTurn place s
point_in None s = to_end s

points : (o : Option Job) (s : Server) → start_point o s ≡ point_in (option_map (λ (job : Job). start_place s.now job (checked_first s.children (lanes_up s) (jobs s) job.id)) o) s
points (Some job) s = refl
points None s = refl

same_next : (kept : Running) (s : Server) → KeepsRunning s kept → next_in s.now s.children (lanes_up s) (jobs s) ≡ next_start kept
same_next kept s keeps =
    let now = keeps.clocked.now in
    let children = keeps.children in
    let up : kept.clocked.engine.core.lanes.up ≡ lanes_up s = ap (λ (n : Now). n.lanes.up) keeps.clocked.core in
    let js : kept.clocked.engine.core.lanes.jobs ≡ jobs s = ap (λ (n : Now). n.lanes.jobs) keeps.clocked.core in
    sym (λ i. next_in (now i) (children i) (up i) (js i))

pub starts_at : (kept : Running) (o : Option Place) → next_start kept ≡ o → (s : Server) → KeepsRunning s kept → to_starts s ≡ point_in o s
unfolding to_starts
starts_at kept o is s keeps = points (startable s.now s.children (jobs s)) s ∙ ap (λ (p : Option Place). point_in p s) (same_next kept s keeps ∙ is)

-- ---- the start

called : (a b : Standing) (job : ℕ) (text : List ℕ) (answer to : StartAnswer) → answer ≡ to → Asked a (start_event job text answer) b → Asked a (start_event job text to) b
called a b job text answer to is asked = let P : StartAnswer → Type 0 = λ x. Asked a (start_event job text x) b in subst P is asked

started_keeps : (before after : Running) (child : Child) (s : Server) → HasStarted child before after → KeepsRunning s before → KeepsRunning (with_child child s) after
started_keeps before after child s is keeps = keeps_children before after s (started child s.children) keeps is.clocked is.logs is.clients is.left (is.children ∙ ap (started child) keeps.children)

not_started_keeps : (before after : Running) (child : Child) (s : Server) → HasNotStarted child before after → KeepsRunning s before → KeepsRunning (without_child child s) after
not_started_keeps before after child s is keeps = keeps_children before after s (not_started child s.children) keeps is.clocked is.logs is.clients is.left (is.children ∙ ap (not_started child) keeps.children)

module _ (kept : Running) (launch : Launch) (next : IsNextStart kept (Some launch)) where
  here : (r : Run) (s : Server) → IsAt r (to_starts s) → KeepsRunning s kept → IsAt r (AtTurn (place_of launch) s)
  here r s at keeps = record { point = at.point ∙ starts_at kept (Some (place_of launch)) (sym next.next) s keeps; still = at.still }

  start_goes : (a b : Standing) (answer : StartAnswer) (r : Run) (s : Server) → Called a (ChildStart launch.child.job launch.text answer) b → IsAt r (AtTurn (place_of launch) s)
      → Goes a.told b.told r (child_started answer launch.child s r)
  start_goes a b answer r s call at = turn_goes a b (ChildStart launch.child.job launch.text answer) r (place_of launch) s call at (refl, refl) refl

  module _ (a b : Standing) (answer : StartAnswer) (asked : Asked a (start_event launch.child.job launch.text answer) b) where
    answered : (to : StartAnswer) → answer ≡ to → Asked a (start_event launch.child.job launch.text to) b
    answered to is = called a b launch.child.job launch.text answer to is asked

    -- the child runs
    pub start_done : (after : Running) → answer ≡ Started → HasStarted launch.child kept after → Moves KeepsRunning a b to_starts to_starts kept after
    start_done after is runs_now = record {
      runs = λ r s at keeps.
          let at_start = here r s at keeps in
          record {
            to = child_started Started launch.child s r;
            server = with_child launch.child s;
            goes = start_goes a b Started r s (answered Started is) at_start;
            at = record { point = refl; still = record { written = at.still.written; paid = at.still.paid } };
            keeps = started_keeps kept after launch.child s runs_now keeps;
          };
    }

    -- memory ran out behind the start
    pub start_lost : answer ≡ Started → MoveFails KeepsRunning a b to_starts kept NoMemory
    start_lost is = record {
      runs = λ r s at keeps.
          let at_start = here r s at keeps in
          halts_after a.told b.told b.told r (child_started Started launch.child s r) NoMemory (start_goes a b Started r s (answered Started is) at_start)
          (halts_here b.told (child_started Started launch.child s r));
    }

    -- memory ran out before it
    pub start_memory : answer ≡ StartNoMemory → MoveFails KeepsRunning a b to_starts kept NoMemory
    start_memory is =
        let same : b ≡ a = answered StartNoMemory is in
        let P : Standing → Type 0 = λ x. MoveFails KeepsRunning a x to_starts kept NoMemory in
        subst P (sym same) (move_fails_here KeepsRunning a to_starts kept)

    pub start_steady : IsSteady a b
    start_steady = by_answer answer asked
      where
        by_answer : (answer : StartAnswer) → Asked a (start_event launch.child.job launch.text answer) b → IsSteady a b
        by_answer Started asked = steady_call a b (ChildStart launch.child.job launch.text Started) asked
        by_answer StartFailed asked = steady_call a b (ChildStart launch.child.job launch.text StartFailed) asked
        by_answer StartNoMemory asked =
            let P : Standing → Type 0 = λ x. IsSteady a x in
            subst P (sym asked) (steady_refl a)

    -- the journal stands where it did
    pub started_placed : (after : Running) → HasStarted launch.child kept after → IsPlacedIn a.told kept.clocked → IsPlacedIn b.told after.clocked
    started_placed after is placed = subst (IsPlacedIn b.told) (sym is.clocked) (steady_placed kept.clocked.engine.journal a b start_steady placed)

    pub unstarted_placed : (mid : Running) → HasNotStarted launch.child kept mid → IsPlacedIn a.told kept.clocked → IsPlacedIn b.told mid.clocked
    unstarted_placed mid is placed = subst (IsPlacedIn b.told) (sym is.clocked) (steady_placed kept.clocked.engine.journal a b start_steady placed)

    module _ (c : Standing) (mid : Running) (is : answer ≡ StartFailed) (not_now : HasNotStarted launch.child kept mid) where
      -- it could not be started
      pub start_failed : (after : Running) → Brings KeepsRunning b c (news_of [] (Some (end_of launch.child.task launch.child.job NotStarted)) []) mid after → Moves KeepsRunning a c to_starts to_starts kept after
      start_failed after brought = record {
        runs = λ r s at keeps.
            let at_start = here r s at keeps in
            let t = without_child launch.child s in
            let one = brought.runs r (λ u. AtTurn (place_of launch) s) to_starts t saying_starts at_start (not_started_keeps kept mid launch.child s not_now keeps) in
            record {
              to = one.to;
              server = after_news (end_news launch.child NotStarted) t;
              goes = goes_trans a.told b.told c.told r (child_started StartFailed launch.child s r) one.to (start_goes a b StartFailed r s (answered StartFailed is) at_start) one.goes;
              at = one.at;
              keeps = one.keeps;
            };
      }

      pub start_fails : (status : Status) → BringFails KeepsRunning b c (news_of [] (Some (end_of launch.child.task launch.child.job NotStarted)) []) mid status → MoveFails KeepsRunning a c to_starts kept status
      start_fails status fails = record {
        runs = λ r s at keeps.
            let at_start = here r s at keeps in
            halts_after a.told b.told c.told r (child_started StartFailed launch.child s r) status (start_goes a b StartFailed r s (answered StartFailed is) at_start)
            (fails.runs r (λ u. AtTurn (place_of launch) s) to_starts (without_child launch.child s) saying_starts at_start (not_started_keeps kept mid launch.child s not_now keeps));
      }

-- ---- that it ends

length-placed : (c : Child) (cs : List Child) → length (placed comes_before c cs) ≡ length cs + 1
length-placed c [] = omega arith
length-placed c (d ∷ ds) = by_test (nat_lt c.job d.job) _ (λ before. rw before (omega arith)) (λ behind. rw behind (omega (arith, length-placed c ds)))

pub started_nearer : (before after : Running) (launch : Launch) → IsNextStart before (Some launch) → HasStarted launch.child before after → ComesNearer before after false
started_nearer before after launch next is =
    let room = start_room before launch next in
    let one : length after.children.running ≡ length before.children.running + 1 =
    ap (λ (t : Children). length t.running) is.children ∙ length-placed launch.child before.children.running in
    let checks : checks_then after ≡ checks_then before = ap (λ (k : Clocked). checks_left (jobs_then k.now k.engine.core)) is.clocked in
    let tries : tries_left (jobs_then after.clocked.now after.clocked.engine.core) ≡ tries_left (jobs_then before.clocked.now before.clocked.engine.core) =
    ap (λ (k : Clocked). tries_left (jobs_then k.now k.engine.core)) is.clocked in
    record {
      checks = omega (arith, checks);
      steps = λ no. omega (arith, one, tries, room);
      fewer = λ yes. absurd (let e : false ≡ true = yes in cc);
    }

module _ (before mid after : Running) (launch : Launch) (next : IsNextStart before (Some launch)) (not_now : HasNotStarted launch.child before mid) (time : IsTimedAlike mid.clocked after.clocked)
    (children : after.children ≡ mid.children) where
  as_many : length after.children.running ≡ length before.children.running
  as_many = ap (λ (t : Children). length t.running) (children ∙ not_now.children)

  -- the end, from what the code kept before
  made_from : (task : Task) → Makes mid.clocked (Some (end_of task launch.child.job NotStarted)) after.clocked → Makes before.clocked (Some (end_of task launch.child.job NotStarted)) after.clocked
  made_from task makes = let P : Clocked → Type 0 = λ k. Makes k (Some (end_of task launch.child.job NotStarted)) after.clocked in subst P not_now.clocked makes

  now_is : after.clocked.now ≡ before.clocked.now
  now_is = time.now ∙ ap (λ (k : Clocked). k.now) not_now.clocked

  of : IsStartOf before launch.child launch.text
  of = start_of before launch.child launch.text (sym next.next)

  due : next_due before.clocked.now (jobs_of before.children.running) before.clocked.engine.core.lanes.jobs ≡ Some of.job
  due = (due_of before.clocked.now before.children before.clocked.engine.core.lanes.jobs of.job of.next).1

  command_nearer : Makes before.clocked (Some (end_of Command launch.child.job NotStarted)) after.clocked → ComesNearer before after false
  command_nearer makes =
      let same : launch.child.job ≡ of.job.id = child_is before.clocked.now of.job (checked_first before.children before.clocked.engine.core.lanes.up before.clocked.engine.core.lanes.jobs of.job.id) launch.child launch.text of.place in
      let P : ℕ → Type 0 = λ id. Makes before.clocked (Some (end_of Command id NotStarted)) after.clocked in
      let made = subst P same makes in
      let law = starts_end.tried before.clocked.engine.core before.clocked.now before.clocked.word (jobs_of before.children.running) of.job made.1 next.by_id due in
      let stepped : Now = step_now before.clocked.engine.core (unstarted before.clocked.now before.clocked.word of.job.id) in
      let core : after.clocked.engine.core ≡ stepped = made.0 in
      let checks : checks_then after ≡ checks_left (jobs_then before.clocked.now stepped) = λ i. checks_left (jobs_then (now_is i) (core i)) in
      let tries : tries_left (jobs_then after.clocked.now after.clocked.engine.core) ≡ tries_left (jobs_then before.clocked.now stepped) = λ i. tries_left (jobs_then (now_is i) (core i)) in
      let Q : ℕ → Type 0 = λ n. n ≤ checks_then before in
      let R : ℕ → Type 0 = λ n. n < tries_left (jobs_then before.clocked.now before.clocked.engine.core) in
      let fewer_tries : tries_left (jobs_then after.clocked.now after.clocked.engine.core) < tries_left (jobs_then before.clocked.now before.clocked.engine.core) = subst R (sym tries) law.1 in
      record {
        checks = subst Q (sym checks) law.0;
        steps = λ no. omega (arith, as_many, fewer_tries);
        fewer = λ yes. absurd (let e : false ≡ true = yes in cc);
      }

  check_nearer : Check ≡ launch.child.task → Makes before.clocked (Some (end_of Check launch.child.job NotStarted)) after.clocked → ComesNearer before after true
  check_nearer is makes =
      let first = checked_first before.children before.clocked.engine.core.lanes.up before.clocked.engine.core.lanes.jobs of.job.id in
      let same : launch.child.job ≡ of.job.id = child_is before.clocked.now of.job first launch.child launch.text of.place in
      let lane = lane_of_check before.clocked.now of.job first launch.child launch.text of.place (sym is) in
      let checked : check_of before.clocked.engine.core.lanes.up of.job.id before.clocked.engine.core.lanes.jobs ≡ Some lane.0 = checks_of before.children before.clocked.engine.core.lanes.up before.clocked.engine.core.lanes.jobs of.job.id lane.0 lane.1 in
      let P : ℕ → Type 0 = λ id. Makes before.clocked (Some (end_of Check id NotStarted)) after.clocked in
      let made = subst P same makes in
      let law = starts_end.checked before.clocked.engine.core before.clocked.now before.clocked.word of.job.id lane.0 made.1 next.by_id checked in
      let stepped : Now = step_now before.clocked.engine.core (unchecked before.clocked.now before.clocked.word of.job.id) in
      let core : after.clocked.engine.core ≡ stepped = made.0 in
      let checks : checks_then after ≡ checks_left (jobs_then before.clocked.now stepped) = λ i. checks_left (jobs_then (now_is i) (core i)) in
      let Q : ℕ → Type 0 = λ n. n < checks_then before in
      let fewer : checks_then after < checks_then before = subst Q (sym checks) law in
      record {
        checks = omega (arith, fewer);
        steps = λ no. absurd (let e : true ≡ false = no in cc);
        fewer = λ yes. fewer;
      }

  by_task : (task : Task) → task ≡ launch.child.task → Makes before.clocked (Some (end_of task launch.child.job NotStarted)) after.clocked → ComesNearer before after (is_check task)
  by_task Command is makes = command_nearer makes
  by_task Check is makes = check_nearer is makes

  -- a start that failed
  pub failed_nearer : (lost : Bool) → lost ≡ is_check launch.child.task → Makes mid.clocked (Some (end_of launch.child.task launch.child.job NotStarted)) after.clocked → ComesNearer before after lost
  failed_nearer lost is makes =
      let P : Bool → Type 0 = λ b. ComesNearer before after b in
      subst P (sym is) (by_task launch.child.task refl (made_from launch.child.task makes))

pub started_left : (before after : Running) (child : Child) → HasStarted child before after → after.left ≡ before.left
started_left before after child is = is.left

pub failed_left : (before mid after : Running) (child : Child) → HasNotStarted child before mid → after.left ≡ mid.left → after.left ≡ before.left
failed_left before mid after child is same = same ∙ is.left

pub ruleset starting = (start_room, start_apart, start_done, start_lost, start_memory, start_steady, start_failed, start_fails, started_nearer, failed_nearer, started_left, failed_left, started_placed, unstarted_placed)
