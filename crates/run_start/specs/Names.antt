-- Names in the place of all wildcards of a configuration, whoever reads it.
use Rattle.std.specs.Prelude.{◌≡◌, List, []}
use Rattle.f2b_base.specs.declared.jail.Defs.{Defs}
use Rattle.f2b_world.specs.Told.{Standing}
use Rattle.jail_conf.specs.declared.settings.Settings.{Settings}
use Rattle.run_law.specs.Law.{Goes, Halts}
use Rattle.run_law.specs.Paths.{Path, first_naming, with_paths}
use Rattle.run_law.specs.Points.{Run}
use Rattle.run_law.specs.Readers.{Namer}
use Rattle.run_law.specs.Reading.{names_from}
use Rattle.run_law.specs.Server.{Server}
use Rattle.run_law.specs.Stages.{IsStill}
use Rattle.run_law.specs.declared.status.Status.{Status}
use Rattle.run_start.specs.declared.named.Named.{Named}
use Rattle.run_start.specs.declared.walk.PathWalk.{PathWalk}
use Rattle.run_steps.specs.Keeping.{KeepsClocked}
use Rattle.run_steps.specs.declared.clocked.Clocked.{Clocked}

-- these are the definitions of a configuration with paths that were found
pub record HasFound (whole found : Defs) : Type 0 where
  pub paths : List Path
  pub is : found ≡ with_paths whole paths

-- where the run of whoever reads goes as the walk over the paths begins
abbrev pub naming : Namer → Settings → Server → Run → Run
naming k settings s here = names_from k.at_names k.found [] settings (first_naming settings.defs) s here

-- the run comes to where all paths are found
pub record IsNamed (old new : Standing) (k : Namer) (r : Run) (s : Server) (to : Named) : Type 0 where
  pub here : Run
  pub still : IsStill here
  pub goes : Goes old.told new.told r (k.found to.before to.defs s here)
  pub keeps : KeepsClocked s to.clocked

-- from where the walk begins to where all paths are found
pub record Names (old new : Standing) (settings : Settings) (kept : Clocked) (to : Named) : Type 0 where
  pub runs : (k : Namer) (here : Run) (s : Server) → IsStill here → KeepsClocked s kept → IsNamed old new k (naming k settings s here) s to

-- the run ends on the way
pub record NameFails (old new : Standing) (settings : Settings) (kept : Clocked) (status : Status) : Type 0 where
  pub runs : (k : Namer) (here : Run) (s : Server) → IsStill here → KeepsClocked s kept → Halts old.told new.told (naming k settings s here) status

-- what is found at the end of a walk
pub record IsOfWalk (settings : Settings) (walk : PathWalk) (to : Named) : Type 0 where
  pub clocked : to.clocked ≡ walk.clocked
  pub defs : to.defs ≡ with_paths settings.defs walk.found
  pub before : to.before ≡ walk.before
