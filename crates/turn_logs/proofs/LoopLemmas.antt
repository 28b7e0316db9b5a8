-- One look behind the other.
use Rattle.std.proofs.Common.{◌≡◌, ◌+◌, ℕ, Bool, true, false, Option, Some, None, refl, sym, ap, ◌∙◌}
use Rattle.std.specs.Prelude.{if◌then◌else◌}
use Rattle.f2b_model.specs.Whole.{Now}
use Rattle.f2b_world.specs.Told.{Standing}
use Rattle.log_set.specs.Logs.{ComesNext}
use Rattle.run_law.specs.Server.{Server, log_jails}
use Rattle.run_law.specs.Stages.{MoveFails, Moves}
use Rattle.run_law.specs.Turn.{look_point, to_children, to_logs, to_looks}
use Rattle.run_law.specs.declared.status.Status.{Status}
use Rattle.run_law.proofs.StageLemmas.{fails_as, move_fails_on, moves_as, moves_none, moves_trans}
use Rattle.run_steps.specs.Keeping.{KeepsRunning}
use Rattle.run_steps.specs.declared.running.Running.{Running}
use Rattle.turn_logs.specs.Looking.{at_look}

-- where a run stands from a place on
next_is : (kept : Running) (from : ℕ) (next : Option ℕ) → ComesNext kept.logs from next → (s : Server) → KeepsRunning s kept → to_looks from s ≡ look_point next s
next_is kept from next comes s keeps = ap (λ (o : Option ℕ). look_point o s) (sym (comes (log_jails s) s.logs keeps.logs))

pub looks_begin : (a : Standing) (kept : Running) → Moves KeepsRunning a a (to_looks 0) (to_looks 0) kept kept
looks_begin a kept = moves_none KeepsRunning a (to_looks 0) kept

module _ (a b : Standing) (from : ℕ) (next : Option ℕ) (before between : Running) (moves : Moves KeepsRunning a b (to_looks 0) (to_looks from) before between)
    (comes : ComesNext between.logs from next) where
  module _ (i : ℕ) (is : next ≡ Some i) where
    there : (s : Server) → KeepsRunning s between → to_looks from s ≡ at_look i s
    there s keeps = next_is between from next comes s keeps ∙ ap (λ (o : Option ℕ). look_point o s) is

    -- one look more
    pub looks_on : (c : Standing) (after : Running) → Moves KeepsRunning b c (at_look i) (to_looks (i + 1)) between after → Moves KeepsRunning a c (to_looks 0) (to_looks (i + 1)) before after
    looks_on c after looked =
        moves_trans KeepsRunning a b c (to_looks 0) (to_looks from) (to_looks (i + 1)) before between after moves
        (moves_as KeepsRunning b c (to_looks from) (at_look i) (to_looks (i + 1)) (to_looks (i + 1)) between after there (λ s keeps. refl) looked)

    -- the run ends in it
    pub looks_fail : (c : Standing) (status : Status) → MoveFails KeepsRunning b c (at_look i) between status → MoveFails KeepsRunning a c (to_looks 0) before status
    looks_fail c status fails =
        move_fails_on KeepsRunning a b c (to_looks 0) (to_looks from) before between status moves
        (fails_as KeepsRunning b c (to_looks from) (at_look i) between status there fails)

  -- no log is left
  pub looks_end : next ≡ None → Moves KeepsRunning a b (to_looks 0) to_children before between
  looks_end is =
      moves_as KeepsRunning a b (to_looks 0) (to_looks 0) to_children (to_looks from) before between (λ s keeps. refl)
      (λ s keeps. next_is between from next comes s keeps ∙ ap (λ (o : Option ℕ). look_point o s) is) moves

pub ruleset looks = (looks_begin, looks_on, looks_fail, looks_end)

-- ---- whether a stop was asked for

logs_are : (kept : Running) (stopping : Bool) → stopping ≡ kept.clocked.engine.core.lanes.stopping → (s : Server) → KeepsRunning s kept → to_logs s ≡ (if stopping then to_children s else to_looks 0 s)
unfolding to_logs
logs_are kept stopping is s keeps =
    ap (λ (b : Bool). if b then to_children s else to_looks 0 s) (sym (is ∙ ap (λ (n : Now). n.lanes.stopping) keeps.clocked.core))

module _ (a : Standing) (kept : Running) (stopping : Bool) (stopping_is : stopping ≡ kept.clocked.engine.core.lanes.stopping) where
  -- then no log is looked at
  pub logs_none : stopping ≡ true → Moves KeepsRunning a a to_logs to_children kept kept
  logs_none is =
      moves_as KeepsRunning a a to_logs to_children to_children to_children kept kept
      (λ s keeps. logs_are kept stopping stopping_is s keeps ∙ ap (λ (b : Bool). if b then to_children s else to_looks 0 s) is) (λ s keeps. refl)
      (moves_none KeepsRunning a to_children kept)

  module _ (is : stopping ≡ false) where
    first : (s : Server) → KeepsRunning s kept → to_logs s ≡ to_looks 0 s
    first s keeps = logs_are kept stopping stopping_is s keeps ∙ ap (λ (b : Bool). if b then to_children s else to_looks 0 s) is

    pub logs_looked : (b : Standing) (after : Running) → Moves KeepsRunning a b (to_looks 0) to_children kept after → Moves KeepsRunning a b to_logs to_children kept after
    logs_looked b after moves = moves_as KeepsRunning a b to_logs (to_looks 0) to_children to_children kept after first (λ s keeps. refl) moves

    pub logs_fail : (b : Standing) (status : Status) → MoveFails KeepsRunning a b (to_looks 0) kept status → MoveFails KeepsRunning a b to_logs kept status
    logs_fail b status fails = fails_as KeepsRunning a b to_logs (to_looks 0) kept status first fails

pub ruleset logs = (logs_none, logs_looked, logs_fail)
