-- The logs that go on behind a reload.
use Rattle.std.proofs.Common.{ℕ, ◌≡◌, [], sym, ◌∙◌, subst}
use Rattle.f2b_world.specs.Told.{Standing}
use Rattle.log_set.specs.Logs.{GoesOn, IsSetOf, Logs}
use Rattle.run_law.specs.Logs.{logs_of}
use Rattle.run_law.specs.Reload.{reloaded}
use Rattle.run_law.specs.Server.{Server, following, jails, log_jails}
use Rattle.run_law.specs.Turn.{behind_client}
use Rattle.run_law.specs.declared.plan.Plan.{Plan}
use Rattle.run_start.specs.Followed.{FollowsAll}
use Rattle.run_steps.specs.Keeping.{KeepsClocked, KeepsRunning}
use Rattle.run_steps.specs.declared.running.Running.{Running}
use Rattle.turn_reload.specs.Reloading.{FollowsOn, ReadsTo}
use Rattle.turn_reload.specs.Taking.{KeepsReloaded}
use Rattle.turn_reload.specs.declared.reloaded.Reloaded.{Reloaded}

pub follows_on : (before : Reloaded) (first set : Logs) (after : Running) → FollowsAll before.clocked first → GoesOn before.logs.items first set → after.clocked ≡ before.clocked → after.logs ≡ set
    → after.children ≡ before.children → after.clients ≡ before.clients → after.left ≡ before.left → FollowsOn before after
follows_on before first set after follows goes clocked logs children clients left = record {
  keeps = λ s keeps.
      let t : Server = following s in
      let all : IsSetOf set (log_jails s) (logs_of s.logs (jails s)) = goes s.logs (log_jails s) (logs_of [] (jails s)) keeps.logs (follows.sets s keeps.clocked keeps.awake) in
      let P : Logs → Type 0 = λ l. IsSetOf l (log_jails s) (logs_of s.logs (jails s)) in
      let now : KeepsClocked t before.clocked = record { core = keeps.clocked.core; sound = keeps.clocked.sound; journal = keeps.clocked.journal; now = keeps.clocked.now; word = keeps.clocked.word } in
      record {
        clocked = subst (KeepsClocked t) (sym clocked) now;
        logs = subst P (sym logs) all;
        children = children ∙ keeps.children;
        clients = clients ∙ keeps.clients;
        left = left ∙ keeps.left;
      };
}

pub ruleset following_on = (follows_on)

-- so a configuration that is taken leads behind the client as one that is not does
pub read_on : (a b : Standing) (plan : Plan) (place : ℕ) (before after : Running) (taken : Reloaded) → ReadsTo KeepsReloaded a b plan place (reloaded place) before taken → FollowsOn taken after
    → ReadsTo KeepsRunning a b plan place (behind_client place) before after
read_on a b plan place before after taken reads follows = record {
  runs = λ r s is at keeps.
      let one = reads.runs r s is at keeps in
      record { to = one.to; server = following one.server; goes = one.goes; at = one.at; keeps = follows.keeps one.server one.keeps };
}

pub ruleset reading_on = (read_on)
