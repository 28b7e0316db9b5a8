-- What a part of the reading of a configuration does, whoever reads it: the start of a run, or a client that asked for it.
use Rattle.std.specs.Prelude.{◌≡◌, ◌++◌, List, Result, IfErr, IfOk}
use Rattle.f2b_base.specs.declared.jail.JailDef.{JailDef}
use Rattle.f2b_base.specs.declared.outside.TreeAnswer.TheVariants.{Failed as TreeFailed, TooLarge as TreeTooLarge}
use Rattle.f2b_model.specs.Lists.{AllOf}
use Rattle.f2b_world.specs.Told.{Adds, Standing}
use Rattle.f2b_world.specs.declared.answer.MakeAnswer.TheVariants.{Syntax as WasSyntax, TooBig as WasTooBig}
use Rattle.f2b_world.specs.declared.event.Event.{Event}
use Rattle.f2b_world.specs.declared.event.Event.TheVariants.{Config, Make}
use Rattle.jail_conf.specs.declared.settings.Settings.{Settings}
use Rattle.run_law.specs.Law.{Goes, Halts}
use Rattle.run_law.specs.News.{goes_to}
use Rattle.run_law.specs.Patterns.{Pattern, patterns_of_jail}
use Rattle.run_law.specs.Points.{Run}
use Rattle.run_law.specs.Readers.{Reader}
use Rattle.run_law.specs.Stages.{IsStill}
use Rattle.run_law.specs.declared.plan.Plan.{Plan}
use Rattle.run_law.specs.declared.status.Status.{Status}
use Rattle.run_law.specs.declared.status.Status.TheVariants.{NoMemory}

-- ---- where the run of whoever reads stands

-- at the configuration
abbrev pub at_tree : Reader → Run → Run
at_tree k r = goes_to k.at_tree r

-- where these patterns are left
abbrev pub with_left : Settings → List Pattern → Reader → Run → Run
with_left settings left k r = k.left_to_make settings left r

-- behind a configuration that is not taken
abbrev pub not_taken : Status → Reader → Run → Run
not_taken status k r = k.untaken status r

-- ---- from where to where it goes

pub record Reads (old new : Standing) (plan : Plan) (from there : Reader → Run → Run) : Type 0 where
  pub runs : (k : Reader) (r : Run) → r.plan ≡ plan → IsStill r → Goes old.told new.told (from k r) (there k r)

-- memory ran out on the way
pub record ReadsShort (old new : Standing) (plan : Plan) (from : Reader → Run → Run) : Type 0 where
  pub runs : (k : Reader) (r : Run) → r.plan ≡ plan → IsStill r → Halts old.told new.told (from k r) NoMemory

-- ---- what is answered on the way

-- the tree is read, and the pattern is built
abbrev pub RefusesNothing : Event → Type 0
RefusesNothing (Config root TreeFailed) = ⊥
RefusesNothing (Config root TreeTooLarge) = ⊥
RefusesNothing (Make text WasSyntax) = ⊥
RefusesNothing (Make text WasTooBig) = ⊥
RefusesNothing _ = Unit {0}

-- no answer refuses the configuration
abbrev pub IsUnrefused : Standing → Standing → Type 0
IsUnrefused old new = Adds old.told new.told (λ g events. AllOf RefusesNothing events)

-- ---- the patterns of one jail, whatever comes behind them

-- all of them are built
pub record Builds (old new : Standing) (jail : JailDef) : Type 0 where
  pub runs : (plan : Plan) (settings : Settings) (left : List Pattern) → Reads old new plan (with_left settings (patterns_of_jail jail ++ left)) (with_left settings left)

-- one of them is not, for this status
pub record BuildFails (old new : Standing) (jail : JailDef) (status : Status) : Type 0 where
  pub runs : (plan : Plan) (settings : Settings) (left : List Pattern) → Reads old new plan (with_left settings (patterns_of_jail jail ++ left)) (not_taken status)

-- memory ran out at one of them
pub record BuildsShort (old new : Standing) (jail : JailDef) : Type 0 where
  pub runs : (plan : Plan) (settings : Settings) (left : List Pattern) → ReadsShort old new plan (with_left settings (patterns_of_jail jail ++ left))

-- ---- what comes of it: memory ran out, or it is taken or not

abbrev pub IfTaken : {A E : Type 0} → Result (Result A Status) E → (A → Type 0) → Type 0
IfTaken result P = IfOk result (λ outcome. IfOk outcome P)

abbrev pub IfUntaken : {A E : Type 0} → Result (Result A Status) E → (Status → Type 0) → Type 0
IfUntaken result P = IfOk result (λ outcome. IfErr outcome P)
