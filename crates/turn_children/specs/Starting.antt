-- How a child is started, and why starts come to an end.
use Rattle.std.specs.Prelude.{ℕ, ◌≡◌, ◌+◌, ◌-◌, ◌<◌, ◌≤◌, Bool, true, false, length}
use Rattle.f2b_model.specs.Starts.{checks_left, jobs_then, tries_left}
use Rattle.child_table.specs.Children.{most_children, not_started, started}
use Rattle.child_table.specs.declared.child.Child.{Child}
use Rattle.child_table.specs.declared.child.Task.{Task}
use Rattle.child_table.specs.declared.child.Task.TheVariants.{Check, Command}
use Rattle.run_steps.specs.declared.running.Running.{Running}

-- the child runs, and all else is as before
pub record HasStarted (child : Child) (before after : Running) : Type 0 where
  pub clocked : after.clocked ≡ before.clocked
  pub logs : after.logs ≡ before.logs
  pub children : after.children ≡ started child before.children
  pub clients : after.clients ≡ before.clients
  pub left : after.left ≡ before.left

-- it could not be started
pub record HasNotStarted (child : Child) (before after : Running) : Type 0 where
  pub clocked : after.clocked ≡ before.clocked
  pub logs : after.logs ≡ before.logs
  pub children : after.children ≡ not_started child before.children
  pub clients : after.clients ≡ before.clients
  pub left : after.left ≡ before.left

abbrev pub is_check : Task → Bool
is_check Check = true
is_check Command = false

-- how many checks are left before tries of jobs, once the bans that are due have ended
abbrev pub checks_then : Running → ℕ
checks_then kept = checks_left (jobs_then kept.clocked.now kept.clocked.engine.core)

-- how many starts there may be without a check that cannot be started: each adds a child, or takes one of the tries that are left
abbrev pub steps_left : Running → ℕ
steps_left kept = (most_children - length kept.children.running) + tries_left (jobs_then kept.clocked.now kept.clocked.engine.core)

-- A start brings the end nearer: one of a check that fails by the checks that are left, and any other by the starts that there may be.
pub record ComesNearer (before after : Running) (lost : Bool) : Type 0 where
  pub checks : checks_then after ≤ checks_then before
  pub steps : lost ≡ false → steps_left after < steps_left before
  pub fewer : lost ≡ true → checks_then after < checks_then before
