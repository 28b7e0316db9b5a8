-- What an event brings, beside the logs, the commands that run, the clients and the turns that are left: they stay as they are where the input leaves the jails as the
-- set of the logs has them.
use Rattle.std.proofs.Common.{◌≡◌, ℕ, List, Option, Some, None, IfSome, refl, sym, ◌∙◌, subst}
use Rattle.f2b_base.specs.declared.input.What.{What}
use Rattle.f2b_world.specs.Told.{Standing}
use Rattle.log_set.specs.Logs.{IsSetOf, LogJail, Watching}
use Rattle.run_law.specs.News.{server_after}
use Rattle.run_law.specs.Server.{Server, log_jails, taken}
use Rattle.run_law.specs.Stages.{Brings, BringFails}
use Rattle.run_law.specs.declared.status.Status.{Status}
use Rattle.run_law.proofs.StageLemmas.{brings_beside, fails_beside}
use Rattle.run_steps.specs.Keeping.{KeepsClocked, KeepsRunning, news_of}
use Rattle.run_steps.specs.declared.clocked.Clocked.{Clocked}
use Rattle.run_steps.specs.declared.running.Running.{Running}

-- the input leaves each jail's definition, and whether it is idle
abbrev pub LeavesJails : What → Type 0
LeavesJails what = (s : Server) → log_jails (taken what s) ≡ log_jails s

-- the logs, the commands that run, the clients and the turns stay as they are
abbrev pub clocked_as : Running → Clocked → Running
clocked_as kept clocked = record kept { clocked = clocked }

module _ (kept : Running) (after : Clocked) where
  keeps_on : (s t : Server) → KeepsRunning s kept → log_jails t ≡ log_jails s → t.logs ≡ s.logs → t.children ≡ s.children → t.clients ≡ s.clients → t.left ≡ s.left → KeepsClocked t after
      → KeepsRunning t (clocked_as kept after)
  keeps_on s t keeps jails logs children clients left clocked =
      let P : List LogJail → Type 0 = λ js. IsSetOf kept.logs js t.logs in
      let Q : List Watching → Type 0 = λ ws. IsSetOf kept.logs (log_jails s) ws in
      record {
        clocked = clocked;
        logs = subst P (sym jails) (subst Q (sym logs) keeps.logs);
        children = keeps.children ∙ sym children;
        clients = keeps.clients ∙ sym clients;
        left = keeps.left ∙ sym left;
      }

  keeps_beside : (what : Option What) → IfSome what LeavesJails → (s : Server) → KeepsRunning s kept → KeepsClocked (server_after what s) after → KeepsRunning (server_after what s) (clocked_as kept after)
  keeps_beside None leaves s keeps clocked = keeps_on s s keeps refl refl refl refl refl clocked
  keeps_beside (Some what) leaves s keeps clocked = keeps_on s (taken what s) keeps (leaves s) refl refl refl refl clocked

  pub bring_beside : (a b : Standing) (pre post : List (List ℕ)) (what : Option What) → IfSome what LeavesJails → Brings KeepsClocked a b (news_of pre what post) kept.clocked after
      → Brings KeepsRunning a b (news_of pre what post) kept (clocked_as kept after)
  bring_beside a b pre post what leaves brought =
      brings_beside KeepsClocked KeepsRunning a b (news_of pre what post) kept.clocked after kept (clocked_as kept after) (λ s keeps. keeps.clocked) (keeps_beside what leaves) brought

pub bring_fails_beside : (a b : Standing) (kept : Running) (pre post : List (List ℕ)) (what : Option What) (status : Status) → BringFails KeepsClocked a b (news_of pre what post) kept.clocked status
    → BringFails KeepsRunning a b (news_of pre what post) kept status
bring_fails_beside a b kept pre post what status fails =
    fails_beside KeepsClocked KeepsRunning a b (news_of pre what post) kept.clocked kept status (λ s keeps. keeps.clocked) fails
