-- The jail that is tested, and how few patterns it has.
use Rattle.std.proofs.Common.{◌≡◌, ℕ, ◌+◌, ◌<◌, ◌≤◌, ◌^◌, pos, List, [], ◌∷◌, ◌++◌, length, slice_get, Option, None, Some, Result, Ok, Err, refl, sym, ap, subst, ◌∙◌, arith}
use Rattle.std.proofs.lemmas.List.Sums.{sum_by-append}
use Rattle.f2b_base.specs.declared.jail.JailDef.{JailDef}
use Rattle.f2b_base.specs.declared.outside.Tree.{Tree}
use Rattle.std.specs.Prelude.{sum_by}
use Rattle.jail_conf.specs.Conf.{conf, patterns_in}
use Rattle.jail_conf.specs.Laws.{AreWithinLimits}
use Rattle.jail_conf.specs.declared.settings.Settings.{Settings}
use Rattle.regex_tool.specs.Asks.{Asks}
use Rattle.regex_tool.specs.Checks.{IsFew, IsTestable}
use Rattle.regex_tool.specs.Definitions.{IsJailOf, filter_tree, first_of, lines_or, plain_jail, with_words}
use Rattle.regex_tool.specs.Targets.{Target}
use Rattle.regex_tool.specs.Zones.{IsNear}

none_is_some : {A : Type 0} (jail : JailDef) → None ≡ Some jail → A
none_is_some jail is = cc

few_first : (jails : List JailDef) → sum_by patterns_in jails ≤ 512 → IsFew (first_of jails)
few_first [] few = record { fail = omega arith; ignore_lines = omega arith }
few_first (first ∷ jails) few =
    let all = sum_by-append patterns_in (first ∷ []) jails in
    record { fail = omega (arith, all, few); ignore_lines = omega (arith, all, few) }

-- the one jail of an accepted configuration has few patterns
pub few_of : (settings : Settings) (jail : JailDef) → AreWithinLimits settings.defs → jail ≡ first_of settings.defs.jails → IsFew jail
few_of settings jail limits is = subst IsFew (sym is) (few_first settings.defs.jails limits.patterns)

-- it is the jail of the filter
pub jail_of_filter : (target : Target) (tree own : Tree) (settings : Settings) (jail : JailDef) → own ≡ filter_tree target tree → conf own ≡ Ok settings
    → jail ≡ first_of settings.defs.jails → IsJailOf target tree jail
jail_of_filter target tree own settings jail is accepted first = record { settings = settings; accepted = ap conf (sym is) ∙ accepted; first = first }

few_lines : (given : Option (List ℕ)) (lines : List (List ℕ)) → length lines < 2 ^ 32 → length (lines_or given lines) < 2 ^ 32
few_lines None lines few = few
few_lines (Some text) lines few = omega arith

-- patterns of the words stand in place of others
pub testable_with : (asks : Asks) (jail : JailDef) → IsNear asks.zone → IsFew jail → IsTestable (with_words asks jail)
testable_with asks jail near few = record { zone = near; few = record { fail = few.fail; ignore_lines = few_lines asks.ignore jail.ignore_lines few.ignore_lines } }

-- the jail at the first place
pub first_at : (jails : List JailDef) (jail : JailDef) → slice_get jails 0 ≡ Some jail → jail ≡ first_of jails
first_at [] jail is = none_is_some jail is
first_at (first ∷ jails) jail is = cc

-- there is none
pub none_at : (jails : List JailDef) → slice_get jails 0 ≡ None → plain_jail [] ≡ first_of jails
none_at [] is = refl
none_at (first ∷ jails) is = none_is_some first (sym is)
