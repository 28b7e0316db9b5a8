-- The walk over the paths of a configuration, whoever reads it: the start of a run, or a client that asked for it.
use Rattle.std.specs.Prelude.{ℕ, ◌≡◌, true, List, [], ◌∷◌}
use Rattle.f2b_base.specs.declared.jail.WatchDef.{WatchDef}
use Rattle.f2b_world.specs.Told.{Standing}
use Rattle.jail_conf.specs.declared.settings.Settings.{Settings}
use Rattle.log_follow.specs.Globs.{has_wildcard}
use Rattle.run_law.specs.Law.{Goes, Halts}
use Rattle.run_law.specs.Paths.{Naming, Path}
use Rattle.run_law.specs.Points.{Run}
use Rattle.run_law.specs.Readers.{Namer}
use Rattle.run_law.specs.Reading.{names_from}
use Rattle.run_law.specs.Server.{Server}
use Rattle.run_law.specs.Stages.{IsStill}
use Rattle.run_law.specs.declared.status.Status.{Status}
use Rattle.run_start.specs.declared.walk.PathWalk.{PathWalk}
use Rattle.run_steps.specs.Keeping.{KeepsClocked}

-- a path of the jail of a name
abbrev pub path_at : List ℕ → WatchDef → Path
path_at jail w = record { jail = jail; watch = w }

-- the first path has a wildcard, if there is one
abbrev pub IsWild : List Path → Type 0
IsWild [] = Unit {0}
IsWild (p ∷ ps) = has_wildcard p.watch.path ≡ true

-- what the walk has found, and what is left
abbrev pub naming_of : PathWalk → Naming
naming_of w = record { found = w.found; left = w.left.now }

-- where the run of whoever reads goes from right behind an event that brought these lines
abbrev pub walking : Namer → Settings → PathWalk → Server → Run → Run
walking k settings w s here = names_from k.at_names k.found w.before settings (naming_of w) s here

-- the run comes to where the walk stands
pub record Walked (old new : Standing) (k : Namer) (settings : Settings) (r : Run) (s : Server) (to : PathWalk) : Type 0 where
  pub here : Run
  pub still : IsStill here
  pub goes : Goes old.told new.told r (walking k settings to s here)
  pub keeps : KeepsClocked s to.clocked

-- from where one walk stands to where another does
pub record WalksTo (old new : Standing) (settings : Settings) (from to : PathWalk) : Type 0 where
  pub runs : (k : Namer) (here : Run) (s : Server) → IsStill here → KeepsClocked s from.clocked → Walked old new k settings (walking k settings from s here) s to

-- the run ends on the way
pub record WalkFails (old new : Standing) (settings : Settings) (from : PathWalk) (status : Status) : Type 0 where
  pub runs : (k : Namer) (here : Run) (s : Server) → IsStill here → KeepsClocked s from.clocked → Halts old.told new.told (walking k settings from s here) status
