-- The texts of definitions are UTF-8. A text of the code is so by its type; what a configuration is defined to come to are bytes alone.
use Rattle.std.specs.Prelude.{ℕ, List, Option, None, Some, IsUtf8}
use Rattle.f2b_base.specs.declared.jail.ActionDef.{ActionDef}
use Rattle.f2b_base.specs.declared.jail.DateSpec.{DateSpec}
use Rattle.f2b_base.specs.declared.jail.DateSpec.TheVariants.{Pattern, AnchoredPattern}
use Rattle.f2b_base.specs.declared.jail.Defs.{Defs}
use Rattle.f2b_base.specs.declared.jail.JailDef.{JailDef}
use Rattle.f2b_base.specs.declared.jail.WatchDef.{WatchDef}
use Rattle.f2b_model.specs.Lists.{AllOf}

abbrev pub IsUtf8OrNone : Option (List ℕ) → Type 0
IsUtf8OrNone None = Unit {0}
IsUtf8OrNone (Some text) = IsUtf8 text

abbrev pub IsUtf8Date : DateSpec → Type 0
IsUtf8Date (Pattern text) = IsUtf8 text
IsUtf8Date (AnchoredPattern text) = IsUtf8 text
IsUtf8Date _ = Unit {0}

abbrev pub IsUtf8Log : WatchDef → Type 0
IsUtf8Log log = IsUtf8 log.path

pub record IsUtf8Action (a : ActionDef) : Type 0 where
  pub name : IsUtf8 a.name
  pub start : IsUtf8 a.start
  pub stop : IsUtf8 a.stop
  pub ban : IsUtf8 a.ban
  pub unban : IsUtf8 a.unban
  pub check : IsUtf8 a.check

pub record IsUtf8Jail (d : JailDef) : Type 0 where
  pub logs : AllOf IsUtf8Log d.watches
  pub date : IsUtf8Date d.date
  pub pref : IsUtf8OrNone d.pref
  pub fail : AllOf IsUtf8 d.fail
  pub ignore_lines : AllOf IsUtf8 d.ignore_lines
  pub actions : AllOf IsUtf8Action d.actions

-- each of the definitions
abbrev pub AreUtf8 : Defs → Type 0
AreUtf8 defs = AllOf IsUtf8Jail defs.jails
