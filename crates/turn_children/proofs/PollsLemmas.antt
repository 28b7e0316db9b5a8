-- One poll behind the other.
use Rattle.std.proofs.Common.{ℕ, ◌≡◌, ◌≤◌, Bool, false, cond, nat_lt, length, refl, ap, subst}
use Rattle.std.proofs.lemmas.Bool.{le-ltb}
use Rattle.f2b_world.specs.Told.{Standing}
use Rattle.child_table.specs.Children.{Children}
use Rattle.run_law.specs.Points.{AtTurn, AtPoll}
use Rattle.run_law.specs.Server.{Server}
use Rattle.run_law.specs.Stages.{MoveFails, Moves}
use Rattle.run_law.specs.Turn.{to_accept, to_children, to_polls}
use Rattle.run_law.specs.declared.status.Status.{Status}
use Rattle.run_law.proofs.StageLemmas.{fails_as, move_fails_on, moves_as, moves_none, moves_trans}
use Rattle.run_steps.specs.Keeping.{KeepsRunning}
use Rattle.run_steps.specs.declared.running.Running.{Running}

children_are : (s : Server) → to_children s ≡ to_polls 0 s
unfolding to_children
children_are s = refl

past_all : (kept : Running) (place : ℕ) → length kept.children.running ≤ place → (s : Server) → KeepsRunning s kept → to_polls place s ≡ to_accept s
past_all kept place past s keeps =
    let P : Children → Type 0 = λ t. length t.running ≤ place in
    let is : nat_lt place (length s.children.running) ≡ false = le-ltb place (length s.children.running) (subst P keeps.children past) in
    ap (λ (more : Bool). cond more (AtTurn (AtPoll place) s) (to_accept s)) is

pub polls_begin : (a : Standing) (kept : Running) → Moves KeepsRunning a a (to_polls 0) (to_polls 0) kept kept
polls_begin a kept = moves_none KeepsRunning a (to_polls 0) kept

module _ (a b : Standing) (place : ℕ) (before between : Running) (moves : Moves KeepsRunning a b (to_polls 0) (to_polls place) before between) where
  pub polls_on : (c : Standing) (next : ℕ) (after : Running) → Moves KeepsRunning b c (to_polls place) (to_polls next) between after → Moves KeepsRunning a c (to_polls 0) (to_polls next) before after
  polls_on c next after more = moves_trans KeepsRunning a b c (to_polls 0) (to_polls place) (to_polls next) before between after moves more

  pub polls_end : length between.children.running ≤ place → Moves KeepsRunning a b to_children to_accept before between
  polls_end past = moves_as KeepsRunning a b to_children (to_polls 0) to_accept (to_polls place) before between (λ s keeps. children_are s) (past_all between place past) moves

  pub polls_fail : (c : Standing) (status : Status) → MoveFails KeepsRunning b c (to_polls place) between status → MoveFails KeepsRunning a c to_children before status
  polls_fail c status fails =
      fails_as KeepsRunning a c to_children (to_polls 0) before status (λ s keeps. children_are s)
      (move_fails_on KeepsRunning a b c (to_polls 0) (to_polls place) before between status moves fails)

pub ruleset polls = (polls_begin, polls_on, polls_end, polls_fail)
