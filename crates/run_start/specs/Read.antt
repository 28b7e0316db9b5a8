-- Where the walk over the paths begins.
use Rattle.std.specs.Prelude.{◌≡◌, max, []}
use Rattle.f2b_base.specs.declared.outside.Reading.{Reading}
use Rattle.jail_conf.specs.declared.settings.Settings.{Settings}
use Rattle.reconcile.specs.Engines.{EngineNow}
use Rattle.run_law.specs.Paths.{first_naming}
use Rattle.run_law.specs.Server.{moment_of}
use Rattle.run_start.specs.Walks.{naming_of}
use Rattle.run_start.specs.declared.walk.PathWalk.{PathWalk}
use Rattle.run_steps.specs.declared.clocked.Clocked.{Clocked}

-- what the code keeps of a server that has read the clock once, from what was loaded
pub record IsRead (loaded : EngineNow) (reading : Reading) (kept : Clocked) : Type 0 where
  pub engine : kept.engine ≡ loaded
  pub now : kept.now ≡ max loaded.core.jails.at (moment_of reading)
  pub word : kept.word ≡ reading.word

-- the walk behind the first reading
pub record IsFirstWalk (settings : Settings) (kept : Clocked) (walk : PathWalk) : Type 0 where
  pub clocked : walk.clocked ≡ kept
  pub naming : naming_of walk ≡ first_naming settings.defs
  pub before : walk.before ≡ []
