-- What the answer to the reading of a configuration comes to.
use Rattle.std.specs.Prelude.{◌≡◌, Contains, Result, Ok, Err}
use Rattle.f2b_base.specs.declared.jail.JailDef.{JailDef}
use Rattle.f2b_base.specs.declared.outside.Tree.{Tree}
use Rattle.f2b_base.specs.declared.outside.TreeAnswer.{TreeAnswer}
use Rattle.f2b_base.specs.declared.outside.TreeAnswer.TheVariants.{Tree as TreeGiven, Failed as TreeFailed, TooLarge as TreeTooLarge, NoMemory as TreeNoMemory}
use Rattle.f2b_model.specs.Storable.{AreStorableDefs}
use Rattle.f2b_world.specs.Told.{Standing}
use Rattle.jail_conf.specs.Conf.{conf}
use Rattle.jail_conf.specs.declared.conf_error.ConfError.{ConfError}
use Rattle.jail_conf.specs.declared.fail.Fail.{Fail}
use Rattle.jail_conf.specs.declared.fail.Fail.TheVariants.{Refused, NoMemory as FailNoMemory}
use Rattle.jail_conf.specs.declared.settings.Settings.{Settings}
use Rattle.run_law.specs.Stages.{HasCause}
use Rattle.run_law.specs.declared.status.Status.{Status}
use Rattle.run_law.specs.declared.status.Status.TheVariants.{ConfFault, ConfRefused, ConfTooLarge}

-- some tree comes to this configuration
pub record IsOfTree (settings : Settings) : Type 0 where
  pub tree : Tree
  pub defined : conf tree ≡ Ok settings

-- a tree comes to this configuration
pub record IsRead (tree : Tree) (settings : Settings) : Type 0 where
  pub defined : conf tree ≡ Ok settings
  -- each value of it is within the bounds of what is stored
  pub storable : AreStorableDefs settings.defs

-- an answer comes to the configuration that it holds, or to why there is none
abbrev pub IsDecided : TreeAnswer → Result Settings Status → Type 0
IsDecided (TreeGiven tree) (Ok settings) = IsRead tree settings
IsDecided (TreeGiven tree) (Err (ConfRefused error)) = conf tree ≡ Err error
IsDecided TreeFailed (Err ConfFault) = Unit {0}
IsDecided TreeTooLarge (Err ConfTooLarge) = Unit {0}
IsDecided _ _ = ⊥

-- What was made of a tree is taken, or not taken for why it is refused. Memory is lost just where there was none to make it.
abbrev pub IsOutcome : {E : Type 0} → Result Settings (Fail ConfError) → Result (Result Settings Status) E → Type 0
IsOutcome (Ok settings) (Ok (Ok same)) = same ≡ settings
IsOutcome (Err (Refused error)) (Ok (Err (ConfRefused same))) = same ≡ error
IsOutcome (Err FailNoMemory) (Err lost) = Unit {0}
IsOutcome _ _ = ⊥

-- memory may run out over the answer: it is a tree, or there was none for it
abbrev pub MayWantMemory : TreeAnswer → Type 0
MayWantMemory (TreeGiven tree) = Unit {0}
MayWantMemory TreeNoMemory = Unit {0}
MayWantMemory _ = ⊥

-- a pattern of the jail is refused for a cause, whatever configuration the jail stands in
pub record IsCaused (old new : Standing) (jail : JailDef) (status : Status) : Type 0 where
  pub cause : (settings : Settings) → IsOfTree settings → Contains settings.defs.jails jail → HasCause old new status
