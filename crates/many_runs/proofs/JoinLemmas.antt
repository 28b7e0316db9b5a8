-- A session that begins on the view of one state goes on as that state does.
use Rattle.std.proofs.Common.{ℕ, zero, suc, ◌≡◌, inl, inr, Bool, true, false, cond, nat_lt, List, [], ◌∷◌, ◌++◌, length, take, Option, Some, None, refl, sym, ap, ◌∙◌, append-nil, subst}
use Rattle.std.specs.Prelude.{option_to_list, slice_get}
use Rattle.f2b_base.specs.declared.input.Input.{Input}
use Rattle.f2b_base.specs.declared.job.Job.{Job}
use Rattle.f2b_base.specs.declared.job.UpLane.{UpLane}
use Rattle.f2b_base.specs.declared.view.View.{View}
use Rattle.f2b_model.specs.Active.{held}
use Rattle.f2b_model.specs.JobLaws.{IsNext}
use Rattle.f2b_model.specs.Jobs.{ArePending, head, next_due, pending}
use Rattle.f2b_model.specs.LaneSound.{never}
use Rattle.f2b_model.specs.Lists.{AllOf}
use Rattle.f2b_model.specs.Sound.{IsFit, IsSoundFrom}
use Rattle.f2b_model.specs.Steps.{moves}
use Rattle.f2b_model.specs.Storable.{IsStorableInput}
use Rattle.f2b_model.specs.Views.{back, view_of}
use Rattle.f2b_model.specs.Whole.{State, empty_state, step, steps}
use Rattle.f2b_model.proofs.ApartLemmas.{stored_fits}
use Rattle.f2b_model.proofs.LaneBackLemmas.{pending_bounds}
use Rattle.f2b_model.proofs.LaneLawLemmas.{next_due_is_next}
use Rattle.f2b_model.proofs.WholeLemmas.{empty_sound, steps_keep, view_later}
use Rattle.f2b_world.specs.Told.{History, grown}
use Rattle.f2b_world.specs.Walks.{after}
use Rattle.f2b_world.specs.declared.answer.StartAnswer.{StartAnswer}
use Rattle.f2b_world.specs.declared.event.Event.{Event}
use Rattle.f2b_world.specs.declared.event.Event.TheVariants.{ChildStart}
use Rattle.f2b_world.proofs.AddsLemmas.{grown_twice}
use Rattle.child_table.specs.Children.{jobs_of, most_children}
use Rattle.child_table.specs.declared.child.Child.{Child}
use Rattle.reconcile.specs.Loads.{view_after}
use Rattle.run_law.specs.Children.{checked_first}
use Rattle.run_law.specs.Law.{Free, MayCome, begin, begin_with, feed}
use Rattle.run_law.specs.News.{inputs_of}
use Rattle.run_law.specs.Points.{AtStart, AtTurn, Place, Point, Run}
use Rattle.run_law.specs.Served.{IsStartFor, KeepsInputs, StartsAt, run_after}
use Rattle.run_law.specs.Server.{Server, jobs, lanes_up}
use Rattle.run_law.specs.Stops.{BeginsOn, ComesTo, IsOverAt}
use Rattle.run_law.specs.Turn.{start_place}
use Rattle.run_law.specs.Words.{plan_of}
use Rattle.run_law.specs.declared.plan.Plan.{Plan}
use Rattle.run_law.specs.declared.status.Status.TheVariants.{NoMemory}
use Rattle.run_law.proofs.SaidLemmas.{may_at}
use Rattle.run_law.proofs.StartedLemmas.{starts_in_turn}
use Rattle.run_law.proofs.StopLemmas.{keeps_inputs}
use Rattle.slot_writes.specs.Rests.{PermitsBoth}
use Rattle.many_runs.specs.Sessions.{IsSession, Session, history_of, run_at, run_of, slots_of}
use Rattle.many_runs.specs.OneState.{Count, GoesOn, IsFirstOfLane, closed_by, state_after, view_then}
use Rattle.many_runs.proofs.CourseLemmas.{IsOnCourse, Knows, all_stored, course_step, state_of}

-- ---- the events up to one more

take_more : (es : List Event) (k : ℕ) (e : Event) → slice_get es k ≡ Some e → take (suc k) es ≡ take k es ++ e ∷ []
take_more [] k e is = absurd (let f : None ≡ Some e = is in cc)
take_more (x ∷ xs) zero e is = let same : x ≡ e = cc in ap (λ (y : Event). y ∷ []) same
take_more (x ∷ xs) (suc k) e is = ap (λ (ys : List Event). x ∷ ys) (take_more xs k e is)

take_past : (es : List Event) (k : ℕ) → slice_get es k ≡ None → take (suc k) es ≡ take k es
take_past [] zero is = refl
take_past [] (suc k) is = refl
take_past (x ∷ xs) zero is = absurd (let f : Some x ≡ None = is in cc)
take_past (x ∷ xs) (suc k) is = ap (λ (ys : List Event). x ∷ ys) (take_past xs k is)

after_more : (r : Run) (xs : List Event) (e : Event) → after feed MayCome Free r (xs ++ e ∷ []) ≡ feed (after feed MayCome Free r xs) e
after_more r [] e = refl
after_more r (x ∷ xs) e = after_more (feed r x) xs e

-- ---- inputs that can be stored

pub all_fit : (is : List Input) → AllOf IsStorableInput is → AllOf IsFit is
all_fit [] all = tt
all_fit (i ∷ is) all = (stored_fits i all.0, all_fit is all.1)

pub all_joined : (is js : List Input) → AllOf IsStorableInput is → AllOf IsStorableInput js → AllOf IsStorableInput (is ++ js)
all_joined [] js all more = more
all_joined (i ∷ is) js all more = (all.0, all_joined is js all.1 more)

steps_joined : (s : State) (is js : List Input) → steps s (is ++ js) ≡ steps (steps s is) js
steps_joined s [] js = refl
steps_joined s (i ∷ is) js = steps_joined (step s i) is js

pub sound_from : (is : List Input) → AllOf IsStorableInput is → IsSoundFrom never (state_after is)
sound_from is all = steps_keep never empty_state is (all_fit is all) empty_sound

-- ---- a start is for the first job of its lane

due_of : (room : Bool) (now : ℕ) (running : List ℕ) (all : List Job) (job : Job) → cond room (next_due now running all) None ≡ Some job → next_due now running all ≡ Some job
due_of true now running all job is = is
due_of false now running all job is = absurd (let e : None ≡ Some job = is in cc)

first_of : (now : ℕ) (running : List ℕ) (all : List Job) (from top : ℕ) (job : Job) → ArePending from all top → next_due now running all ≡ Some job → head job.lane all ≡ Some job
first_of now running all from top job rise is =
    let P : Option Job → Type 0 = λ o. IsNext now running all o in
    (subst P is (next_due_is_next now running all from top rise)).1.first

abbrev job_at : Place → ℕ
job_at (AtStart c text) = c.job
job_at _ = 0

start_job : (now : ℕ) (job : Job) (o : Option UpLane) → job_at (start_place now job o) ≡ job.id
start_job now job None = refl
start_job now job (Some lane) = refl

never_over : (p : Point) (place : Place) (server : Server) → p ≡ AtTurn place server → IsOverAt p → ⊥
never_over p place server is over = let P : Point → Type 0 = λ q. IsOverAt q in subst P is over

-- ---- a session

module _ (s : Session) (is : IsSession s) (before : List Input) (storable : AllOf IsStorableInput before) (comes : ComesTo (view_then before) (slots_of s)) where
  -- the view after inputs of its own
  view_on : (own : List Input) → AllOf IsStorableInput own → view_after (view_then before) own ≡ view_then (before ++ own)
  view_on own stored =
      view_later (state_after before) own (all_fit own stored) (record { base = never; from = sound_from before storable }) ∙ ap view_of (sym (steps_joined empty_state before own))

  keeps : KeepsInputs s.words NoMemory (view_then before) s.before s.events
  keeps =
      let begins : BeginsOn (view_then before) s.before = record { settled = is.settled; bytes = is.bytes; held = is.held; comes = comes } in
      keeps_inputs s.words NoMemory (view_then before) s.before s.events begins is.obeys tt

  abbrev IsAt : List Event → Type 0
  IsAt xs = IsOnCourse (view_then before) (slots_of s) comes (run_after s.words (slots_of s) xs) (grown s.before xs)

  begins_at : (o : Option Plan) (h : History) → IsOnCourse (view_then before) (slots_of s) comes (begin_with o (slots_of s)) h
  begins_at None h = record { slots_are = refl; knows = tt; closed = tt; left = inl tt }
  begins_at (Some plan) h = record { slots_are = refl; knows = refl; closed = tt; left = inl tt }

  course_next : (k : ℕ) (o : Option Event) → slice_get s.events k ≡ o → IsAt (take k s.events) → IsAt (take (suc k) s.events)
  course_next k None past c = let P : List Event → Type 0 = λ xs. IsAt xs in subst P (sym (take_past s.events k past)) c
  course_next k (Some e) next c =
      let v = view_then before in
      let xs = take k s.events in
      let r = run_at s k in
      let h = grown s.before (xs ++ e ∷ []) in
      let P : List Event → Type 0 = λ ys. IsAt ys in
      let Q : Run → Type 0 = λ n. IsOnCourse v (slots_of s) comes n h in
      let R : History → Type 0 = λ g. IsOnCourse v (slots_of s) comes (feed r e) g in
      let may = may_at (begin s.words (slots_of s)) s.before s.events k e is.obeys next in
      subst P (sym (take_more s.events k e next))
      (subst Q (sym (after_more (begin s.words (slots_of s)) xs e))
      (subst R (grown_twice s.before xs (e ∷ [])) (course_step v (slots_of s) comes r (grown s.before xs) e c (keeps.stops k) (keeps.first k e next) may)))

  course : (k : ℕ) → IsAt (take k s.events)
  course zero = begins_at (plan_of s.words) (grown s.before [])
  course (suc k) = course_next k (slice_get s.events k) refl (course k)

  -- ---- it goes on as the one state

  calm_inputs : (r : Run) → r.unclosed ≡ None → inputs_of r ≡ r.closed
  calm_inputs r calm = ap (λ (o : Option Input). r.closed ++ option_to_list o) calm ∙ append-nil r.closed

  state_at : (k : ℕ) (place : Place) (server : Server) → (run_at s k).point ≡ AtTurn place server → (run_at s k).unclosed ≡ None → view_of server.state ≡ view_then (closed_by before s k)
  state_at k place server there calm =
      let r = run_at s k in
      let v = view_then before in
      let P : Point → Type 0 = λ p. Knows v (slots_of s) comes (state_of v (slots_of s) comes r) p in
      let knows : server.state ≡ steps (back v) (inputs_of r) = subst P there (course k).knows in
      ap view_of knows ∙ ap (λ (own : List Input). view_after v own) (calm_inputs r calm) ∙ view_on r.closed (course k).closed

  calm_at : (k id : ℕ) (command : List ℕ) (answer : StartAnswer) (place : Place) (server : Server) → slice_get s.events k ≡ Some (ChildStart id command answer) → (run_at s k).point ≡ AtTurn place server
      → (run_at s k).unclosed ≡ None
  calm_at k id command answer place server next there = elim (keeps.first k (ChildStart id command answer) next) [
    | inl calm ↦ calm
    | inr rest ↦ elim rest [
      | inl writes ↦ absurd writes
      | inr over ↦ absurd (never_over (run_at s k).point place server there over)
    ]
  ]

  start_for : (k id : ℕ) (c : Child) (text : List ℕ) (server : Server) (job : Job) → (run_at s k).point ≡ AtTurn (AtStart c text) server → (run_at s k).unclosed ≡ None → IsStartFor server c text job → id ≡ c.job
      → IsFirstOfLane id (state_after (closed_by before s k)).lanes.jobs
  start_for k id c text server job there calm is_for own =
      let all = closed_by before s k in
      let one = state_after all in
      let sound = sound_from all (all_joined before (run_at s k).closed storable (course k).closed) in
      let same : jobs server ≡ pending one.lanes.jobs = ap (λ (w : View). w.jobs) (state_at k (AtStart c text) server there calm) in
      let P : List Job → Type 0 = λ js. next_due server.now (jobs_of server.children.running) js ≡ Some job in
      let due = subst P same (due_of (nat_lt (length server.children.running) most_children) server.now (jobs_of server.children.running) (jobs server) job is_for.next) in
      let named : c.job ≡ job.id = ap job_at is_for.child ∙ start_job server.now job (checked_first server.children (lanes_up server) (jobs server) job.id) in
      record {
        job = job;
        own = sym (own ∙ named);
        first = first_of server.now (jobs_of server.children.running) (pending one.lanes.jobs) 0 one.lanes.next_job job (pending_bounds never (held moves one.jails) one.lanes sound.lanes) due;
      }

  start_at : (k id : ℕ) (command : List ℕ) (answer : StartAnswer) (p : Point) → slice_get s.events k ≡ Some (ChildStart id command answer) → (run_at s k).point ≡ p → StartsAt p id command
      → IsFirstOfLane id (state_after (closed_by before s k)).lanes.jobs
  start_at k id command answer (AtTurn (AtStart c text) server) next there starts =
      start_for k id c text server starts.0 there (calm_at k id command answer (AtStart c text) server next there) starts.1 starts.2
  start_at k id command answer p next there starts = absurd starts

  pub goes_on : GoesOn before s
  goes_on = record {
    begins = comes;
    state = state_at;
    starts = λ k id command answer next.
        start_at k id command answer (run_at s k).point next refl ((starts_in_turn s.words (slots_of s) s.before s.events is.obeys).starts k id command answer next);
  }

  -- ---- what a stop leaves of it

  pub record Leaves (slots : ℕ → List ℕ) : Type 0 where
    pub own : List Input
    pub count : Count s own
    pub stored : AllOf IsStorableInput own
    pub view : ComesTo (view_then (before ++ own)) slots

  leaves_own : (slots : ℕ → List ℕ) (own : List Input) → Count s own → AllOf IsStorableInput own → ComesTo (view_after (view_then before) own) slots → Leaves slots
  leaves_own slots own count stored view = record {
    own = own;
    count = count;
    stored = stored;
    view = (let P : View → Type 0 = λ w. ComesTo w slots in subst P (view_on own stored) view);
  }

  pub leaves : (slots : ℕ → List ℕ) → PermitsBoth (history_of s) slots → Leaves slots
  leaves slots permits =
      let r = run_of s in
      let c = course s.stop in
      elim c.left [
        | inl stored ↦ elim ((keeps.stops s.stop).each slots permits) [
          | inl own ↦ leaves_own slots r.closed (inl refl) c.closed own
          | inr all ↦ leaves_own slots (inputs_of r) (inr refl) (all_stored r.closed r.unclosed c.closed stored) all
        ]
        | inr kept ↦ leaves_own slots r.closed (inl refl) c.closed (kept slots permits)
      ]
