-- The patterns of a configuration.
use Rattle.std.specs.Prelude.{ℕ, List, map}
use Rattle.std.specs.List.{flat_map}
use Rattle.f2b_base.specs.declared.jail.Defs.{Defs}
use Rattle.f2b_base.specs.declared.jail.JailDef.{JailDef}
use Rattle.filter_regex.specs.Rules.{patterns, rules_of}
use Rattle.filter_regex.specs.declared.error.PatternPlace.{PatternPlace}

-- a pattern of a jail, with its tags expanded
pub record Pattern : Type 0 where
  pub jail : List ℕ
  pub place : PatternPlace
  pub text : List ℕ

abbrev pub pattern_in : JailDef → PatternPlace × List ℕ → Pattern
pattern_in d placed = record { jail = d.name; place = placed.0; text = placed.1 }

abbrev pub patterns_of_jail : JailDef → List Pattern
patterns_of_jail d = map (pattern_in d) (patterns (rules_of d))

-- jail by jail, each in the order in which its patterns are built
abbrev pub patterns_of : Defs → List Pattern
patterns_of defs = flat_map patterns_of_jail defs.jails
