-- What a client made happen, taken with the searches of the logs: how the run goes on over it.
use Rattle.std.proofs.Common.{ℕ, ◌≡◌, List, [], Bool, false, Option, Some, None, IfSome, refl, sym, ap, ◌∙◌, subst}
use Rattle.std.specs.Prelude.{option_and_then}
use Rattle.f2b_base.specs.declared.input.What.{What}
use Rattle.f2b_base.specs.declared.input.What.TheVariants.{Stop, Ban, Unban, Attempt, Ignore, Findtime, Bantime, Maxretry, Idle}
use Rattle.f2b_base.specs.declared.jail.JailDef.{JailDef}
use Rattle.f2b_model.specs.Lanes.{books_now}
use Rattle.f2b_model.specs.Steps.{moves_now}
use Rattle.f2b_model.specs.Whole.{Now, is_whole_spent, now_of}
use Rattle.f2b_world.specs.Told.{Standing}
use Rattle.log_set.specs.Logs.{ChangesJail, IsSetOf, Logs, ignoring}
use Rattle.run_law.specs.News.{server_after}
use Rattle.run_law.specs.Server.{Server, is_spent, log_jails, taken}
use Rattle.run_law.specs.Stages.{Brings, BringFails}
use Rattle.run_law.specs.declared.status.Status.{Status}
use Rattle.run_law.specs.declared.status.Status.TheVariants.{NoMemory}
use Rattle.run_law.proofs.ChangeLemmas.{findtime_set, idle_set, masks_set, neutral_set, no_masks_set, told_behind}
use Rattle.run_law.proofs.PointLemmas.{halts_after, halts_here}
use Rattle.run_law.proofs.StageLemmas.{brings_beside, fails_beside, fails_early}
use Rattle.run_steps.specs.Keeping.{IsLive, KeepsClocked, KeepsRunning, Makes, news_of}
use Rattle.run_steps.specs.declared.clocked.Clocked.{Clocked}
use Rattle.run_steps.specs.declared.running.Running.{Running}
use Rattle.turn_clients.specs.Responding.{IsAskedFor}
use Rattle.turn_clients.specs.Searching.{HasMasks, IsChanged, change_of}

-- ---- the logs

-- serials and ids are used up for the code exactly where they are for the server
live_as : (s : Server) (kept : Clocked) → KeepsClocked s kept → IsLive kept → is_spent s ≡ false
live_as s kept keeps live = sym (ap (λ (n : Now). is_whole_spent moves_now books_now n) keeps.core) ∙ live

module _ (s : Server) (live : is_spent s ≡ false) (old new : Logs) (set : IsSetOf old (log_jails s) s.logs) where
  masked : (jail : List ℕ) (what : What) (o : Option JailDef) → told_behind s live what jail ≡ o → HasMasks o jail old new
      → ((d : JailDef) → told_behind s live what jail ≡ Some d → ChangesJail old new jail (ignoring d.ignore) → IsSetOf new (log_jails (taken what s)) s.logs)
      → (told_behind s live what jail ≡ None → IsSetOf old (log_jails (taken what s)) s.logs) → IsSetOf new (log_jails (taken what s)) s.logs
  masked jail what None is has at_some at_none = let P : Logs → Type 0 = λ k. IsSetOf k (log_jails (taken what s)) s.logs in subst P (sym has) (at_none is)
  masked jail what (Some d) is has at_some at_none = at_some d is has

  -- a set that is changed as an input asks is one of the jails behind it
  set_behind : (what : What) → IsAskedFor what → IsChanged (now_of (taken what s).state) (change_of what) old new → IsSetOf new (log_jails (taken what s)) s.logs
  set_behind (Ignore jail cidr add) asked changed =
      masked jail (Ignore jail cidr add) (told_behind s live (Ignore jail cidr add) jail) refl changed (λ d is changes. masks_set s live jail cidr add d old new s.logs is changes set)
      (λ none. no_masks_set s live jail cidr add old s.logs none set)
  set_behind (Findtime jail secs) asked changed = findtime_set s live jail secs old new s.logs changed set
  set_behind (Idle jail idle) asked changed = idle_set s live jail idle old new s.logs changed set
  set_behind Stop asked changed = let P : Logs → Type 0 = λ k. IsSetOf k (log_jails (taken Stop s)) s.logs in subst P (sym changed) (neutral_set s live Stop tt old s.logs set)
  set_behind (Ban jail addrs) asked changed =
      let what = Ban jail addrs in
      let P : Logs → Type 0 = λ k. IsSetOf k (log_jails (taken what s)) s.logs in
      subst P (sym changed) (neutral_set s live what tt old s.logs set)
  set_behind (Unban jail addrs) asked changed =
      let what = Unban jail addrs in
      let P : Logs → Type 0 = λ k. IsSetOf k (log_jails (taken what s)) s.logs in
      subst P (sym changed) (neutral_set s live what tt old s.logs set)
  set_behind (Attempt jail addr) asked changed =
      let what = Attempt jail addr in
      let P : Logs → Type 0 = λ k. IsSetOf k (log_jails (taken what s)) s.logs in
      subst P (sym changed) (neutral_set s live what tt old s.logs set)
  set_behind (Bantime jail secs) asked changed =
      let what = Bantime jail secs in
      let P : Logs → Type 0 = λ k. IsSetOf k (log_jails (taken what s)) s.logs in
      subst P (sym changed) (neutral_set s live what tt old s.logs set)
  set_behind (Maxretry jail number) asked changed =
      let what = Maxretry jail number in
      let P : Logs → Type 0 = λ k. IsSetOf k (log_jails (taken what s)) s.logs in
      subst P (sym changed) (neutral_set s live what tt old s.logs set)
  set_behind _ asked changed = absurd asked

-- ---- what is kept

-- another state and other logs, and all else as before
abbrev pub behind_take : Running → Clocked → Logs → Running
behind_take kept clocked logs = record kept { clocked = clocked; logs = logs }

module _ (kept : Running) (what : Option What) (asked : IfSome what IsAskedFor) (after : Clocked) (logs : Logs) where
  keeps_behind : (what : Option What) → IfSome what IsAskedFor → Makes kept.clocked what after → IsChanged after.engine.core (option_and_then change_of what) kept.logs logs → (s : Server) → KeepsRunning s kept
      → KeepsClocked (server_after what s) after → KeepsRunning (server_after what s) (behind_take kept after logs)
  keeps_behind None asked makes changed s keeps clocked = record {
    clocked = clocked;
    logs = let P : Logs → Type 0 = λ k. IsSetOf k (log_jails s) s.logs in subst P (sym changed) keeps.logs;
    children = keeps.children;
    clients = keeps.clients;
    left = keeps.left;
  }
  keeps_behind (Some what) asked makes changed s keeps clocked =
      let P : Now → Type 0 = λ n. IsChanged n (change_of what) kept.logs logs in
      record {
        clocked = clocked;
        logs = set_behind s (live_as s kept.clocked keeps.clocked makes.1) kept.logs logs keeps.logs what asked (subst P clocked.core changed);
        children = keeps.children;
        clients = keeps.clients;
        left = keeps.left;
      }

  pub take_brings : (a b : Standing) (behind : List (List ℕ)) → Makes kept.clocked what after → Brings KeepsClocked a b (news_of [] what behind) kept.clocked after
      → IsChanged after.engine.core (option_and_then change_of what) kept.logs logs → Brings KeepsRunning a b (news_of [] what behind) kept (behind_take kept after logs)
  take_brings a b behind makes brought changed =
      brings_beside KeepsClocked KeepsRunning a b (news_of [] what behind) kept.clocked after kept (behind_take kept after logs) (λ s keeps. keeps.clocked) (keeps_behind what asked makes changed) brought

-- it could not be taken
pub take_fails : (a b : Standing) (kept : Running) (what : Option What) (behind : List (List ℕ)) (status : Status) → BringFails KeepsClocked a b (news_of [] what behind) kept.clocked status
    → BringFails KeepsRunning a b (news_of [] what behind) kept status
take_fails a b kept what behind status fails = fails_beside KeepsClocked KeepsRunning a b (news_of [] what behind) kept.clocked kept status (λ s keeps. keeps.clocked) fails

-- memory ran out before it was, or for the searches behind it
pub take_early : (a : Standing) (kept : Running) (what : Option What) (behind : List (List ℕ)) → BringFails KeepsRunning a a (news_of [] what behind) kept NoMemory
take_early a kept what behind = fails_early KeepsRunning a (news_of [] what behind) kept

pub take_late : (a b : Standing) (kept : Running) (what : Option What) (behind : List (List ℕ)) (after : Clocked) → Brings KeepsClocked a b (news_of [] what behind) kept.clocked after
    → BringFails KeepsRunning a b (news_of [] what behind) kept NoMemory
take_late a b kept what behind after brought = record {
  runs = λ r at next s saying is_at keeps.
      let one = brought.runs r at next s saying is_at keeps.clocked in
      halts_after a.told b.told b.told _ one.to NoMemory one.goes (halts_here b.told one.to);
}

pub ruleset taking = (take_brings, take_fails, take_early, take_late)
