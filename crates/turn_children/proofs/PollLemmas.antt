-- The poll of one child: what its end brings, and how the run goes on over it.
use Rattle.std.proofs.Common.{ℕ, ◌≡◌, ◌+◌, ◌-◌, ◌<◌, Bool, true, false, cond, nat_lt, List, [], length, Option, Some, None, refl, sym, ap, ◌∙◌, subst, arith}
use Rattle.std.specs.Prelude.{option_map, remove, slice_get}
use Rattle.std.proofs.lemmas.Bool.{lt-ltb}
use Rattle.std.proofs.lemmas.List.Edits.{length-remove}
use Rattle.f2b_base.specs.declared.job.Outcome.{Outcome}
use Rattle.f2b_base.specs.declared.job.Outcome.TheVariants.{Status as EndedWith, TimedOut}
use Rattle.f2b_model.proofs.ListLemmas.{by_test}
use Rattle.f2b_world.specs.Told.{Called, History, Standing}
use Rattle.f2b_world.specs.declared.answer.PollAnswer.{PollAnswer}
use Rattle.f2b_world.specs.declared.answer.PollAnswer.TheVariants.{Running as StillRuns, Ended as PollEnded, Failed}
use Rattle.f2b_world.specs.declared.event.Event.TheVariants.{ChildPoll, ChildKill}
use Rattle.child_table.specs.Children.{Children, ended, passed_by}
use Rattle.child_table.specs.Late.{is_late}
use Rattle.child_table.specs.declared.child.Child.{Child}
use Rattle.run_law.specs.Calls.{Call, AskKill, AskPoll, IsNext}
use Rattle.run_law.specs.Law.{Goes, Halts}
use Rattle.run_law.specs.News.{after_news}
use Rattle.run_law.specs.Points.{Point, AtTurn, AtPoll, AtKill, Run}
use Rattle.run_law.specs.Polls.{child_ended, end_news, end_of, ended_as, gone, gone_passed, has_succeeded, kill_call, killed_at, poll_call, polled, polled_at, still_point}
use Rattle.run_law.specs.Server.{Server}
use Rattle.run_law.specs.Stages.{Brings, BringFails, IsAt, MoveFails, Moves, Reaches}
use Rattle.run_law.specs.Turn.{to_accept, to_polls}
use Rattle.run_law.specs.declared.status.Status.{Status}
use Rattle.run_law.specs.declared.status.Status.TheVariants.{NoMemory}
use Rattle.run_law.proofs.EntryLemmas.{saying_polls}
use Rattle.run_law.proofs.PointLemmas.{goes_refl, goes_trans, halts_after, halts_here, turn_goes}
use Rattle.run_law.proofs.StageLemmas.{move_fails_on, moves_trans}
use Rattle.run_steps.specs.Keeping.{IsPlacedIn, KeepsRunning, news_of}
use Rattle.run_steps.specs.declared.running.Running.{Running}
use Rattle.turn_children.specs.Polling.{EndBrings, EndFails, HasPassed, IsGone, at_kill, outcome_of, place_behind}

-- ---- what the end of a child brings

-- the code's part of a server that another table of children alone tells apart
pub keeps_children : (before after : Running) (s : Server) (t : Children) → KeepsRunning s before → after.clocked ≡ before.clocked → after.logs ≡ before.logs → after.clients ≡ before.clients
    → after.left ≡ before.left → after.children ≡ t → KeepsRunning (record s { children = t }) after
keeps_children before after s t keeps clocked logs clients left children =
    let u : Server = record s { children = t } in
    let mid : Running = record { clocked = before.clocked; logs = before.logs; children = t; clients = before.clients; left = before.left } in
    let same : mid ≡ after = λ i. record { clocked = sym clocked i; logs = sym logs i; children = sym children i; clients = sym clients i; left = sym left i } in
    let P : Running → Type 0 = λ k. KeepsRunning u k in
    subst P same (record {
      clocked = record { core = keeps.clocked.core; sound = keeps.clocked.sound; journal = keeps.clocked.journal; now = keeps.clocked.now; word = keeps.clocked.word };
      logs = keeps.logs;
      children = refl;
      clients = keeps.clients;
      left = keeps.left;
    })

gone_keeps : (before after : Running) (place : ℕ) (s : Server) → IsGone place before after → KeepsRunning s before → KeepsRunning (gone place s) after
gone_keeps before after place s gone keeps =
    keeps_children before after s (ended place s.children) keeps gone.clocked gone.logs gone.clients gone.left (gone.children ∙ ap (ended place) keeps.children)

passed_keeps : (before after : Running) (place job : ℕ) (s : Server) → HasPassed place job before after → KeepsRunning s before → KeepsRunning (gone_passed job place s) after
passed_keeps before after place job s passed keeps =
    keeps_children before after s (passed_by job (ended place s.children)) keeps passed.clocked passed.logs passed.clients passed.left
    (passed.children ∙ ap (λ (t : Children). passed_by job (ended place t)) keeps.children)

module _ (a : Standing) (place : ℕ) (child : Child) (outcome : Outcome) (before : Running) where
  module _ (succeeded : Bool) (is : succeeded ≡ has_succeeded child.task outcome) where
    -- a check has passed
    pub end_passed : (after : Running) → succeeded ≡ true → HasPassed place child.job before after → EndBrings a a place child outcome before after
    end_passed after holds passed = record {
      runs = λ r s here at keeps.
          let P : Bool → Type 0 = λ b. Reaches KeepsRunning a a (ended_as b outcome child place s r) (to_polls place) after in
          subst P (sym holds ∙ is) (record {
            to = ended_as true outcome child place s r;
            server = gone_passed child.job place s;
            goes = goes_refl a.told (ended_as true outcome child place s r);
            at = record { point = refl; still = record { written = at.still.written; paid = at.still.paid } };
            keeps = passed_keeps before after place child.job s passed keeps;
          });
    }

    module _ (b : Standing) (mid : Running) (no : succeeded ≡ false) (gone_is : IsGone place before mid) where
      -- anything else is an input
      pub end_brought : (after : Running) → Brings KeepsRunning a b (news_of [] (Some (end_of child.task child.job outcome)) []) mid after → EndBrings a b place child outcome before after
      end_brought after brought = record {
        runs = λ r s here at keeps.
            let t = gone place s in
            let one = brought.runs r (λ u. here) (to_polls place) t (saying_polls place) at (gone_keeps before mid place s gone_is keeps) in
            let Q : Bool → Type 0 = λ d. Reaches KeepsRunning a b (ended_as d outcome child place s r) (to_polls place) after in
            subst Q (sym no ∙ is) (record { to = one.to; server = after_news (end_news child outcome) t; goes = one.goes; at = one.at; keeps = one.keeps });
      }

      pub end_unbrought : (status : Status) → BringFails KeepsRunning a b (news_of [] (Some (end_of child.task child.job outcome)) []) mid status → EndFails a b place child outcome before status
      end_unbrought status fails = record {
        runs = λ r s here at keeps.
            let Q : Bool → Type 0 = λ d. Halts a.told b.told (ended_as d outcome child place s r) status in
            subst Q (sym no ∙ is) (fails.runs r (λ u. here) (to_polls place) (gone place s) (saying_polls place) at (gone_keeps before mid place s gone_is keeps));
      }

  -- memory ran out
  pub end_lost : EndFails a a place child outcome before NoMemory
  end_lost = record { runs = λ r s here at keeps. halts_here a.told (child_ended outcome child place s r) }

gone_fewer : (before : Children) (after : Children) (place : ℕ) → place < length before.running → after.running ≡ remove before.running place → length after.running + 1 ≡ length before.running
gone_fewer before after place within is =
    let one : length after.running ≡ length (remove before.running place) = ap (λ (cs : List Child). length cs) is in
    omega (arith, one, length-remove before.running place within)

pub passed_fewer : (before after : Running) (place job : ℕ) → place < length before.children.running → HasPassed place job before after → length after.children.running + 1 ≡ length before.children.running
passed_fewer before after place job within passed = gone_fewer before.children after.children place within (ap (λ (t : Children). t.running) passed.children)

pub ended_fewer : (before mid after : Running) (place : ℕ) → place < length before.children.running → IsGone place before mid → after.children ≡ mid.children
    → length after.children.running + 1 ≡ length before.children.running
ended_fewer before mid after place within gone_is same =
    gone_fewer before.children after.children place within (ap (λ (t : Children). t.running) (same ∙ gone_is.children))

pub passed_left : (before after : Running) (place job : ℕ) → HasPassed place job before after → after.left ≡ before.left
passed_left before after place job passed = passed.left

pub gone_left : (before mid after : Running) (place : ℕ) → IsGone place before mid → after.left ≡ mid.left → after.left ≡ before.left
gone_left before mid after place gone_is same = same ∙ gone_is.left

-- the journal stands where it did
pub passed_placed : (before after : Running) (place job : ℕ) (told : Option History) → HasPassed place job before after → IsPlacedIn told before.clocked → IsPlacedIn told after.clocked
passed_placed before after place job told passed placed = subst (IsPlacedIn told) (sym passed.clocked) placed

pub gone_placed : (before mid : Running) (place : ℕ) (told : Option History) → IsGone place before mid → IsPlacedIn told before.clocked → IsPlacedIn told mid.clocked
gone_placed before mid place told gone_is placed = subst (IsPlacedIn told) (sym gone_is.clocked) placed

pub ruleset child_ends = (end_passed, end_brought, end_unbrought, end_lost, passed_fewer, ended_fewer, passed_left, gone_left, passed_placed, gone_placed)

-- the place behind a child is the next one, where it is not late
goes_behind : (now place : ℕ) (c : Child) (behind : ℕ) → place_behind now place c ≡ Some behind → (is_late now c ≡ false) × (place + 1 ≡ behind)
goes_behind now place c behind is =
    by_test (is_late now c) _
    (λ late. absurd (let e : None ≡ Some behind = rw late at is in cc))
    (λ on. (on, (let e : Some (place + 1) ≡ Some behind = rw on at is in cc)))

stays_behind : (now place : ℕ) (c : Child) → place_behind now place c ≡ None → is_late now c ≡ true
stays_behind now place c is =
    by_test (is_late now c) _
    (λ late. late)
    (λ on. absurd (let e : Some (place + 1) ≡ None = rw on at is in cc))

-- ---- a child by its place

module _ (before : Running) (place : ℕ) (child : Child) (there : slice_get before.children.running place ≡ Some child) where
  same_child : (s : Server) → KeepsRunning s before → slice_get s.children.running place ≡ Some child
  same_child s keeps = ap (λ (t : Children). slice_get t.running place) (sym keeps.children) ∙ there

  poll_goes : (a b : Standing) (answer : PollAnswer) (r : Run) (s : Server) → Called a (ChildPoll child.job answer) b → IsAt r (AtTurn (AtPoll place) s) → KeepsRunning s before
      → Goes a.told b.told r (polled answer child place s r)
  poll_goes a b answer r s call at keeps =
      let is = same_child s keeps in
      let P : Option Call → Type 0 = λ c. IsNext c (ChildPoll child.job answer) in
      let Q : Option Child → Type 0 = λ o. Goes a.told b.told r (polled_at o answer place s r) in
      let next : poll_call place s ≡ Some (AskPoll child.job) = ap (λ (o : Option Child). option_map (λ (c : Child). AskPoll c.job) o) is in
      subst Q is (turn_goes a b (ChildPoll child.job answer) r (AtPoll place) s call at (subst P (sym next) refl) refl)

  kill_goes : (a b : Standing) (r : Run) (s : Server) → Called a (ChildKill child.job) b → IsAt r (at_kill place s) → KeepsRunning s before → Goes a.told b.told r (child_ended TimedOut child place s r)
  kill_goes a b r s call at keeps =
      let is = same_child s keeps in
      let P : Option Call → Type 0 = λ c. IsNext c (ChildKill child.job) in
      let Q : Option Child → Type 0 = λ o. Goes a.told b.told r (killed_at o place s r) in
      let next : kill_call place s ≡ Some (AskKill child.job) = ap (λ (o : Option Child). option_map (λ (c : Child). AskKill c.job) o) is in
      subst Q is (turn_goes a b (ChildKill child.job) r (AtKill place) s call at (subst P (sym next) refl) refl)

  module _ (a b c : Standing) (call : Called a (ChildKill child.job) b) where
    pub kill_moves : (after : Running) → EndBrings b c place child TimedOut before after → Moves KeepsRunning a c (at_kill place) (to_polls place) before after
    kill_moves after brought = record {
      runs = λ r s at keeps.
          let last = brought.runs r s (at_kill place s) at keeps in
          record {
            to = last.to;
            server = last.server;
            goes = goes_trans a.told b.told c.told r (child_ended TimedOut child place s r) last.to (kill_goes a b r s call at keeps) last.goes;
            at = last.at;
            keeps = last.keeps;
          };
    }

    pub kill_fails : (status : Status) → EndFails b c place child TimedOut before status → MoveFails KeepsRunning a c (at_kill place) before status
    kill_fails status fails = record {
      runs = λ r s at keeps.
          halts_after a.told b.told c.told r (child_ended TimedOut child place s r) status (kill_goes a b r s call at keeps) (fails.runs r s (at_kill place s) at keeps);
    }

  module _ (within : place < length before.children.running) where
    stands_at : (s : Server) → KeepsRunning s before → to_polls place s ≡ AtTurn (AtPoll place) s
    stands_at s keeps =
        let P : Children → Type 0 = λ t. place < length t.running in
        let is : nat_lt place (length s.children.running) ≡ true = lt-ltb place (length s.children.running) (subst P keeps.children within) in
        ap (λ (more : Bool). cond more (AtTurn (AtPoll place) s) (to_accept s)) is

    here : (r : Run) (s : Server) → IsAt r (to_polls place s) → KeepsRunning s before → IsAt r (AtTurn (AtPoll place) s)
    here r s at keeps = record { point = at.point ∙ stands_at s keeps; still = at.still }

    module _ (a b : Standing) (answer : PollAnswer) (call : Called a (ChildPoll child.job answer) b) where
      -- it has ended
      ended_goes : (outcome : Outcome) (r : Run) (s : Server) → outcome_of answer ≡ Some outcome → IsAt r (AtTurn (AtPoll place) s) → KeepsRunning s before
          → Goes a.told b.told r (child_ended outcome child place s r)
      ended_goes outcome r s is at keeps = by_answer answer call is
        where
          by_answer : (answer : PollAnswer) → Called a (ChildPoll child.job answer) b → outcome_of answer ≡ Some outcome → Goes a.told b.told r (child_ended outcome child place s r)
          by_answer (PollEnded status) call is =
              let same : EndedWith status ≡ outcome = (let e : Some (EndedWith status) ≡ Some outcome = is in cc) in
              let Q : Outcome → Type 0 = λ o. Goes a.told b.told r (child_ended o child place s r) in
              subst Q same (poll_goes a b (PollEnded status) r s call at keeps)
          by_answer StillRuns call is = absurd (let e : None ≡ Some outcome = is in cc)
          by_answer Failed call is = absurd (let e : None ≡ Some outcome = is in cc)

      -- it still runs, or that could not be told
      still_goes : (r : Run) (s : Server) → outcome_of answer ≡ None → IsAt r (AtTurn (AtPoll place) s) → KeepsRunning s before → Goes a.told b.told r (polled StillRuns child place s r)
      still_goes r s is at keeps = by_answer answer call is
        where
          by_answer : (answer : PollAnswer) → Called a (ChildPoll child.job answer) b → outcome_of answer ≡ None → Goes a.told b.told r (polled StillRuns child place s r)
          by_answer (PollEnded status) call is = absurd (let e : Some (EndedWith status) ≡ None = is in cc)
          by_answer StillRuns call is = poll_goes a b StillRuns r s call at keeps
          by_answer Failed call is = poll_goes a b Failed r s call at keeps

      module _ (o : Option Outcome) (told : o ≡ outcome_of answer) where
        module _ (c : Standing) (outcome : Outcome) (is : o ≡ Some outcome) where
          pub poll_ended : (after : Running) → EndBrings b c place child outcome before after → Moves KeepsRunning a c (to_polls place) (to_polls place) before after
          poll_ended after brought = record {
            runs = λ r s at keeps.
                let at_poll = here r s at keeps in
                let last = brought.runs r s (AtTurn (AtPoll place) s) at_poll keeps in
                record {
                  to = last.to;
                  server = last.server;
                  goes = goes_trans a.told b.told c.told r (child_ended outcome child place s r) last.to (ended_goes outcome r s (sym told ∙ is) at_poll keeps) last.goes;
                  at = last.at;
                  keeps = last.keeps;
                };
          }

          pub poll_fails : (status : Status) → EndFails b c place child outcome before status → MoveFails KeepsRunning a c (to_polls place) before status
          poll_fails status fails = record {
            runs = λ r s at keeps.
                let at_poll = here r s at keeps in
                halts_after a.told b.told c.told r (child_ended outcome child place s r) status (ended_goes outcome r s (sym told ∙ is) at_poll keeps)
                (fails.runs r s (AtTurn (AtPoll place) s) at_poll keeps);
          }

        module _ (none : o ≡ None) (next : Option ℕ) (next_is : next ≡ place_behind before.clocked.now place child) where
          still_moves : (late : Bool) → is_late before.clocked.now child ≡ late → (to : Server → Point) → ((s : Server) → still_point late place s ≡ to s)
              → Moves KeepsRunning a b (to_polls place) to before before
          still_moves late is to point = record {
            runs = λ r s at keeps.
                let at_poll = here r s at keeps in
                let lates : is_late s.now child ≡ late = ap (λ now. is_late now child) (sym keeps.clocked.now) ∙ is in
                record {
                  to = polled StillRuns child place s r;
                  server = s;
                  goes = still_goes r s (sym told ∙ none) at_poll keeps;
                  at = record { point = ap (λ (l : Bool). still_point l place s) lates ∙ point s; still = record { written = at.still.written; paid = at.still.paid } };
                  keeps = keeps;
                };
          }

          -- it is not late
          pub poll_on : (behind : ℕ) → next ≡ Some behind → Moves KeepsRunning a b (to_polls place) (to_polls behind) before before
          poll_on behind is =
              let on = goes_behind before.clocked.now place child behind (sym next_is ∙ is) in
              let P : ℕ → Type 0 = λ n. Moves KeepsRunning a b (to_polls place) (to_polls n) before before in
              subst P on.1 (still_moves false on.0 (to_polls (place + 1)) (λ s. refl))

          poll_late : next ≡ None → Moves KeepsRunning a b (to_polls place) (at_kill place) before before
          poll_late is = still_moves true (stays_behind before.clocked.now place child (sym next_is ∙ is)) (at_kill place) (λ s. refl)

          -- it is late, and ended
          pub poll_killed : (c : Standing) (after : Running) → next ≡ None → Moves KeepsRunning b c (at_kill place) (to_polls place) before after
              → Moves KeepsRunning a c (to_polls place) (to_polls place) before after
          poll_killed c after is moves = moves_trans KeepsRunning a b c (to_polls place) (at_kill place) (to_polls place) before before after (poll_late is) moves

          pub poll_kill_fails : (c : Standing) (status : Status) → next ≡ None → MoveFails KeepsRunning b c (at_kill place) before status → MoveFails KeepsRunning a c (to_polls place) before status
          poll_kill_fails c status is fails = move_fails_on KeepsRunning a b c (to_polls place) (at_kill place) before before status (poll_late is) fails

-- the walk comes nearer to its end: a child is gone, or it is behind
pub fewer_gone : (before after : Running) (place : ℕ) → place < length before.children.running → length after.children.running + 1 ≡ length before.children.running
    → length after.children.running - place < length before.children.running - place
fewer_gone before after place within one = omega (arith, within, one)

pub fewer_behind : (before : Running) (place : ℕ) (child : Child) (next : Option ℕ) (behind : ℕ) → place < length before.children.running → next ≡ place_behind before.clocked.now place child → next ≡ Some behind
    → length before.children.running - behind < length before.children.running - place
fewer_behind before place child next behind within next_is is =
    let one : place + 1 ≡ behind = (goes_behind before.clocked.now place child behind (sym next_is ∙ is)).1 in
    omega (arith, within, one)

pub ruleset killing = (kill_moves, kill_fails)

pub ruleset polling = (poll_ended, poll_fails, poll_on, poll_killed, poll_kill_fails, fewer_gone, fewer_behind)
