-- A server whose jobs were tried in their order, and what an input and an end leave of it.
use Rattle.std.proofs.Common.{ℕ, zero, suc, ◌≡◌, inl, inr, Bool, true, false, cond, ◌||◌, List, [], ◌∷◌, Option, Some, None, refl, sym, ap, subst}
use Rattle.std.specs.Prelude.{slice_get, ◌==◌}
use Rattle.std.specs.List.{remove}
use Rattle.std.proofs.lemmas.Bool.{both_ways, cases_Bool, eq-eqb, eqb-true, ne_eqb, or_cases, or_left, or_parts, or_right}
use Rattle.f2b_base.specs.declared.input.Input.{Input}
use Rattle.f2b_base.specs.declared.input.What.{What}
use Rattle.f2b_base.specs.declared.input.What.TheVariants.{Ended, CheckFailed}
use Rattle.f2b_base.specs.declared.job.LaneId.{LaneId}
use Rattle.f2b_base.specs.declared.outside.Reading.{Reading}
use Rattle.f2b_model.specs.Active.{held}
use Rattle.f2b_model.specs.Jobs.{Ledger}
use Rattle.f2b_model.specs.Lanes.{Lanes, books, lanes_step}
use Rattle.f2b_model.specs.Lists.{placed}
use Rattle.f2b_model.specs.Steps.{at_reading, moves, step_by}
use Rattle.f2b_model.specs.Told.{jails_told}
use Rattle.f2b_model.specs.Whole.{State, is_whole_spent, step}
use Rattle.child_table.specs.Children.{comes_before, has, jobs_of}
use Rattle.child_table.specs.declared.child.Child.{Child}
use Rattle.run_law.specs.Law.{turns}
use Rattle.reconcile.specs.Loads.{Loaded}
use Rattle.run_law.specs.News.{server_after}
use Rattle.run_law.specs.Polls.{gone, gone_passed}
use Rattle.run_law.specs.Server.{Server, begun, input_at, taken}
use Rattle.run_law.specs.Starts.{with_child, without_child}
use Rattle.run_jobs.specs.Runs.{AreOnce}
use Rattle.run_jobs.proofs.HeadLemmas.{Heads, IsFreeOf, stepped_heads}
use Rattle.run_jobs.proofs.StepLemmas.{IsStarted, StandsInOrder, step_fine}

-- ---- a server

-- the first unsettled job of some lane
abbrev pub HeadsSome : ℕ → Lanes Ledger → Type 0
HeadsSome job l = (lane : LaneId) × Heads job lane l

-- its lanes are as they should be, and what runs was started, once, for the first job of a lane
pub record IsServerInOrder (started : List ℕ) (s : Server) : Type 0 where
  pub lanes : StandsInOrder started s.state.lanes
  pub children : (job : ℕ) → has job (jobs_of s.children.running) ≡ true → has job started ≡ true
  pub once : AreOnce (jobs_of s.children.running)
  pub heads : (job : ℕ) → has job (jobs_of s.children.running) ≡ true → HeadsSome job s.state.lanes

pub begun_right : (turns : ℕ) (l : Loaded) (answer : Reading) → StandsInOrder [] l.state.lanes → IsServerInOrder [] (begun turns l answer)
begun_right turns l answer fine = record { lanes = fine; children = λ job is. is; once = tt; heads = λ job is. absurd (let e : false ≡ true = is in cc) }

-- what an event brings ends nothing that was not started, and nothing that still runs
abbrev pub BringsStarted : List ℕ → List ℕ → Option What → Type 0
BringsStarted started running None = Unit {0}
BringsStarted started running (Some what) = IsStarted started running what

lanes_if : (started : List ℕ) (spent : Bool) (w v : State) → StandsInOrder started w.lanes → StandsInOrder started v.lanes → StandsInOrder started (cond spent w v).lanes
lanes_if started true w v at_true at_false = at_true
lanes_if started false w v at_true at_false = at_false

stepped : (started running : List ℕ) (w : State) (input : Input) → IsStarted started running input.what → StandsInOrder started w.lanes → StandsInOrder started (step w input).lanes
stepped started running w input is fine =
    let after = step_by moves w.jails input in
    let lanes = lanes_step books after.at input.what (held moves (at_reading moves input.secs w.jails)) (held moves after) (jails_told moves w.jails input) w.lanes in
    lanes_if started (is_whole_spent moves books w) w (record { jails = after; lanes = lanes }) fine
    (step_fine started after.at running input.what (held moves (at_reading moves input.secs w.jails)) (held moves after) (jails_told moves w.jails input) w.lanes is fine)

-- no try of a job that runs ends, and no check of it fails
free_of : (started running : List ℕ) (what : What) (job : ℕ) → IsStarted started running what → has job running ≡ true → IsFreeOf job what
free_of started running (Ended other outcome) job is there = λ same. both_ways (has other running) is.1 (subst (λ (x : ℕ). has x running ≡ true) (sym same) there)
free_of started running (CheckFailed other outcome) job is there = λ same. both_ways (has other running) is (subst (λ (x : ℕ). has x running ≡ true) (sym same) there)
free_of started running _ job is there = tt

pub taken_right : (started : List ℕ) (what : What) (s : Server) → IsStarted started (jobs_of s.children.running) what → IsServerInOrder started s → IsServerInOrder started (taken what s)
taken_right started what s is right =
    let running : List ℕ = jobs_of s.children.running in
    record {
      lanes = stepped started running s.state (input_at s what) is right.lanes;
      children = right.children;
      once = right.once;
      heads = λ job there.
          let of = right.heads job there in
          (of.0, stepped_heads started running s.state (input_at s what) job of.0 is (free_of started running what job is there) right.lanes of.1);
    }

pub after_right : (started : List ℕ) (o : Option What) (s : Server) → BringsStarted started (jobs_of s.children.running) o → IsServerInOrder started s → IsServerInOrder started (server_after o s)
after_right started None s is right = right
after_right started (Some what) s is right = taken_right started what s is right

-- ---- children

none_from : (b : Bool) → (b ≡ true → ⊥) → b ≡ false
none_from true not = absurd (not refl)
none_from false not = refl

has_gone : (job : ℕ) (cs : List Child) (i : ℕ) → has job (jobs_of (remove cs i)) ≡ true → has job (jobs_of cs) ≡ true
has_gone job [] zero is = is
has_gone job [] (suc i) is = is
has_gone job (c ∷ cs) zero is = or_right (c.job == job) (has job (jobs_of cs)) is
has_gone job (c ∷ cs) (suc i) is = elim (or_cases (c.job == job) (has job (jobs_of (remove cs i))) is) [
  | inl h ↦ or_left (c.job == job) (has job (jobs_of cs)) h
  | inr h ↦ or_right (c.job == job) (has job (jobs_of cs)) (has_gone job cs i h)
]

pub has_at : (cs : List Child) (i : ℕ) (c : Child) → slice_get cs i ≡ Some c → has c.job (jobs_of cs) ≡ true
has_at [] i c is = absurd (let e : None ≡ Some c = is in cc)
has_at (d ∷ cs) zero c is = let same : d ≡ c = cc in or_left (d.job == c.job) (has c.job (jobs_of cs)) (eq-eqb d.job c.job (ap (λ (x : Child). x.job) same))
has_at (d ∷ cs) (suc i) c is = or_right (d.job == c.job) (has c.job (jobs_of cs)) (has_at cs i c is)

has_placed : (job : ℕ) (c : Child) (cs : List Child) → has job (jobs_of (placed comes_before c cs)) ≡ true → has job (jobs_of (c ∷ cs)) ≡ true
has_placed job c [] is = is
has_placed job c (d ∷ ds) is = elim (cases_Bool (comes_before c d)) [
  | inl h ↦ rw h at is
  | inr h ↦
      let either : ((d.job == job) || has job (jobs_of (placed comes_before c ds))) ≡ true = rw h at is in
      elim (or_cases (d.job == job) (has job (jobs_of (placed comes_before c ds))) either) [
        | inl here ↦ or_right (c.job == job) _ (or_left (d.job == job) (has job (jobs_of ds)) here)
        | inr later ↦ elim (or_cases (c.job == job) (has job (jobs_of ds)) (has_placed job c ds later)) [
          | inl k ↦ or_left (c.job == job) _ k
          | inr k ↦ or_right (c.job == job) _ (or_right (d.job == job) (has job (jobs_of ds)) k)
        ]
      ]
]

once_gone : (cs : List Child) (i : ℕ) → AreOnce (jobs_of cs) → AreOnce (jobs_of (remove cs i))
once_gone [] zero once = once
once_gone [] (suc i) once = once
once_gone (c ∷ cs) zero once = once.1
once_gone (c ∷ cs) (suc i) once = (none_from (has c.job (jobs_of (remove cs i))) (λ is. both_ways (has c.job (jobs_of cs)) once.0 (has_gone c.job cs i is)), once_gone cs i once.1)

-- what ended runs no longer
pub gone_absent : (cs : List Child) (i : ℕ) (c : Child) → slice_get cs i ≡ Some c → AreOnce (jobs_of cs) → has c.job (jobs_of (remove cs i)) ≡ false
gone_absent [] i c is once = absurd (let e : None ≡ Some c = is in cc)
gone_absent (d ∷ cs) zero c is once = let same : d ≡ c = cc in subst (λ (x : Child). has x.job (jobs_of cs) ≡ false) same once.0
gone_absent (d ∷ cs) (suc i) c is once =
    let apart : (d.job == c.job) ≡ false = ne_eqb d.job c.job (λ same. both_ways (has d.job (jobs_of cs)) once.0 (subst (λ (x : ℕ). has x (jobs_of cs) ≡ true) (sym same) (has_at cs i c is))) in
    rw apart (gone_absent cs i c is once.1)

once_placed : (c : Child) (cs : List Child) → has c.job (jobs_of cs) ≡ false → AreOnce (jobs_of cs) → AreOnce (jobs_of (placed comes_before c cs))
once_placed c [] absent once = (refl, tt)
once_placed c (d ∷ ds) absent once =
    let parts = or_parts (d.job == c.job) (has c.job (jobs_of ds)) absent in
    elim (cases_Bool (comes_before c d)) [
      | inl h ↦ rw h (absent, once)
      | inr h ↦
          let apart : (c.job == d.job) ≡ false = ne_eqb c.job d.job (λ same. both_ways (d.job == c.job) parts.0 (eq-eqb d.job c.job (sym same))) in
          let rest : has d.job (jobs_of (c ∷ ds)) ≡ false = rw apart once.0 in
          rw h (none_from (has d.job (jobs_of (placed comes_before c ds))) (λ is. both_ways (has d.job (jobs_of (c ∷ ds))) rest (has_placed d.job c ds is)), once_placed c ds parts.1 once.1)
    ]

pub gone_right : (started : List ℕ) (i : ℕ) (s : Server) → IsServerInOrder started s → IsServerInOrder started (gone i s)
gone_right started i s right = record {
  lanes = right.lanes;
  children = λ job is. right.children job (has_gone job s.children.running i is);
  once = once_gone s.children.running i right.once;
  heads = λ job is. right.heads job (has_gone job s.children.running i is);
}

pub passed_right : (started : List ℕ) (job i : ℕ) (s : Server) → IsServerInOrder started s → IsServerInOrder started (gone_passed job i s)
passed_right started job i s right = record {
  lanes = right.lanes;
  children = λ other is. right.children other (has_gone other s.children.running i is);
  once = once_gone s.children.running i right.once;
  heads = λ other is. right.heads other (has_gone other s.children.running i is);
}

-- one that starts is another one than those that run
pub record IsNew (started : List ℕ) (c : Child) (s : Server) : Type 0 where
  pub counts : has c.job started ≡ true
  pub absent : has c.job (jobs_of s.children.running) ≡ false
  pub heads : HeadsSome c.job s.state.lanes

pub with_right : (started : List ℕ) (c : Child) (s : Server) → IsNew started c s → IsServerInOrder started s → IsServerInOrder started (with_child c s)
with_right started c s new right = record {
  lanes = right.lanes;
  children = λ job there. placed_each (λ (j : ℕ). has j started ≡ true) new.counts right.children job there;
  once = once_placed c s.children.running new.absent right.once;
  heads = λ job there. placed_each (λ (j : ℕ). HeadsSome j s.state.lanes) new.heads right.heads job there;
}
  where
    placed_each : (P : ℕ → Type 0) → P c.job → ((job : ℕ) → has job (jobs_of s.children.running) ≡ true → P job) → (job : ℕ) → has job (jobs_of (with_child c s).children.running) ≡ true → P job
    placed_each P own each job there = elim (or_cases (c.job == job) (has job (jobs_of s.children.running)) (has_placed job c s.children.running there)) [
      | inl h ↦ subst P (eqb-true c.job job h) own
      | inr h ↦ each job h
    ]

pub without_right : (started : List ℕ) (c : Child) (s : Server) → IsServerInOrder started s → IsServerInOrder started (without_child c s)
without_right started c s right = record { lanes = right.lanes; children = right.children; once = right.once; heads = right.heads }
