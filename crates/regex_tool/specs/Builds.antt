-- How the filter of a jail is built, or why not.
use Rattle.std.specs.Prelude.{◌≡◌, ◌≢◌, ◌≤◌, ◌⊎◌, ℕ, List, Option, Some, None, Contains}
use Rattle.f2b_base.specs.declared.jail.JailDef.{JailDef}
use Rattle.f2b_world.specs.Faults.{Fault, OfPatterns}
use Rattle.f2b_world.specs.Told.{Standing, Leaves}
use Rattle.date_detect.specs.declared.error.BuildError.{BuildError}
use Rattle.date_detect.specs.declared.error.BuildError.TheVariants as date
use Rattle.filter_regex.specs.Builds.{IsCause}
use Rattle.filter_regex.specs.Rules.{patterns, rules_of}
use Rattle.filter_regex.specs.declared.error.BuildKind.{BuildKind}
use Rattle.filter_regex.specs.declared.error.BuildKind.TheVariants as build
use Rattle.filter_regex.specs.declared.error.PatternPlace.{PatternPlace}
use Rattle.filter_regex.specs.declared.error.PatternPlace.TheVariants.{Date}
use Rattle.regex_tool.specs.Checks.{first_fault, refused}
use Rattle.regex_tool.specs.declared.kind.ToolKind.{ToolKind}
use Rattle.regex_tool.specs.declared.kind.ToolKind.TheVariants.{Syntax, TooBig}
use Rattle.regex_tool.specs.declared.status.ToolStatus.{ToolStatus}
use Rattle.regex_tool.specs.declared.status.ToolStatus.TheVariants.{PatternRefused, NoMemory}

abbrev pub tool_kind : BuildKind → ToolKind
tool_kind build.Syntax = Syntax
tool_kind build.TooBig = TooBig

-- why a test is refused whose dates are not built
abbrev pub not_dated : BuildError → ToolStatus
not_dated date.Syntax = PatternRefused Date Syntax
not_dated date.TooBig = PatternRefused Date TooBig
not_dated date.NoMemory = NoMemory

-- Patterns were built, and nothing is told of files.
pub record IsBuilt (old new : Standing) : Type 0 where
  pub leaves : Leaves old new
  pub steady : old.faults OfPatterns ≤ new.faults OfPatterns
  pub still : (kind : Fault) → kind ≢ OfPatterns → new.faults kind ≡ old.faults kind

-- no pattern has a fault that is seen before it is built, and one is not built: its text has no reading, or the outside counted that
-- it is too big
pub record IsNotBuilt (jail : JailDef) (old new : Standing) (place : PatternPlace) (kind : ToolKind) : Type 0 where
  pub none : first_fault jail ≡ None
  pub text : List ℕ
  pub stands : Contains (patterns (rules_of jail)) (place, text)
  pub build : BuildKind
  pub kind_is : kind ≡ tool_kind build
  pub cause : IsCause build text old new

-- a pattern has a fault, or else is not built
abbrev pub IsRefusedFor : JailDef → Standing → Standing → PatternPlace → ToolKind → Type 0
IsRefusedFor jail old new place kind = (first_fault jail ≡ Some (refused place kind)) ⊎ IsNotBuilt jail old new place kind

-- why no filter is built of a jail
abbrev pub HasBuildCause : JailDef → Standing → Standing → ToolStatus → Type 0
HasBuildCause jail old new (PatternRefused place kind) = IsRefusedFor jail old new place kind
HasBuildCause jail old new NoMemory = Unit {0}
HasBuildCause jail old new _ = ⊥
