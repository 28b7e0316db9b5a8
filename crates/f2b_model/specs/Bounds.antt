-- Which definitions and inputs have their numbers within bounds, and which inputs are taken.
use Rattle.std.specs.Prelude.{◌^◌, ◌<◌, ◌≤◌, ◌≤ℤ◌, pos}
use Rattle.f2b_base.specs.Span.{IsRule}
use Rattle.f2b_base.specs.declared.input.Input.{Input}
use Rattle.f2b_base.specs.declared.input.What.{What}
use Rattle.f2b_base.specs.declared.input.What.TheVariants.{Config, Findtime, Bantime, Maxretry}
use Rattle.f2b_base.specs.declared.jail.JailDef.{JailDef}
use Rattle.f2b_model.specs.Lists.{AllOf}
use Rattle.f2b_model.specs.Sound.{IsFit}

-- a definition within its bounds
pub record IsBounded (d : JailDef) : Type 0 where
  pub rule : IsRule d.rule
  pub findtime : 1 ≤ d.findtime
  pub maxretry : 1 ≤ d.maxretry
  pub most : d.maxretry < 2 ^ 32

-- the numbers of what happened are within their bounds
abbrev pub IsBoundedWhat : What → Type 0
IsBoundedWhat (Config defs) = AllOf IsBounded defs.jails
IsBoundedWhat (Findtime jail secs) = 1 ≤ secs
IsBoundedWhat (Bantime jail secs) = secs ≤ℤ pos 3153600000
IsBoundedWhat (Maxretry jail number) = (1 ≤ number) × (number < 2 ^ 32)
IsBoundedWhat _ = Unit {0}

-- an input that the core takes: one that the model takes, with its numbers within their bounds
pub record IsTakenInput (input : Input) : Type 0 where
  pub fit : IsFit input
  pub bounded : IsBoundedWhat input.what
