-- When a run is over behind a stop, as what the code keeps of it says.
use Rattle.std.specs.Prelude.{◌==◌, ◌&&◌, not, Bool, length}
use Rattle.client_table.specs.Clients.{have_unwritten}
use Rattle.run_steps.specs.declared.running.Running.{Running}

-- a stop was asked for, all jobs are settled, and all replies are taken
abbrev pub has_drained : Running → Bool
has_drained kept = kept.clocked.engine.core.lanes.stopping && (length kept.clocked.engine.core.lanes.jobs == 0 && not (have_unwritten kept.clients))
