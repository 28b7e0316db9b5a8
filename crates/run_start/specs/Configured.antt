-- A configuration as an input, with the paths that were found.
use Rattle.std.specs.Prelude.{ℕ, ◌≡◌, Bool, true, false, List, Option, Some, None, map}
use Rattle.f2b_base.specs.declared.input.What.{What}
use Rattle.f2b_base.specs.declared.input.What.TheVariants.{Config}
use Rattle.f2b_base.specs.declared.jail.Defs.{Defs}
use Rattle.f2b_model.specs.Lists.{AllOf}
use Rattle.f2b_model.specs.Whole.{Now}
use Rattle.f2b_model.specs.declared.jail_now.JailNow.{JailNow}
use Rattle.run_law.specs.Changes.{config_changes}
use Rattle.run_law.specs.News.{News}
use Rattle.run_law.specs.Reading.{config_news}
use Rattle.run_law.specs.Server.{Server}
use Rattle.run_steps.specs.Keeping.{KeepsClocked}
use Rattle.run_steps.specs.declared.clocked.Clocked.{Clocked}

-- a configuration is an input where it changes something
abbrev pub input_if : Bool → Defs → Option What
input_if true defs = Some (Config defs)
input_if false defs = None

-- what happened is the configuration, for any server that is kept so
pub record TellsInput (kept : Clocked) (defs : Defs) (what : Option What) : Type 0 where
  pub tells : (s : Server) → KeepsClocked s kept → what ≡ input_if (config_changes s.state defs) defs

-- the configuration between these lines
abbrev pub configuring : List (List ℕ) → Defs → List (List ℕ) → Server → News
configuring before defs behind s = config_news (config_changes s.state defs) before defs behind

-- the jails are those of the definitions, and none is idle
pub record HasJails (defs : Defs) (n : Now) : Type 0 where
  pub definitions : map (λ (j : JailNow). j.definition) n.jails.jails ≡ defs.jails
  pub awake : AllOf (λ (j : JailNow). j.idle ≡ false) n.jails.jails

-- what happened is the configuration, or nothing where the jails are its own already
abbrev pub IsConfiguring : Defs → Now → Option What → Type 0
IsConfiguring defs n (Some what) = what ≡ Config defs
IsConfiguring defs n None = HasJails defs n
