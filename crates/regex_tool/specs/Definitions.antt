-- The jail that is tested: that of a pattern, or that of a filter, with the patterns that the words give in place of its own.
use Rattle.std.specs.Prelude.{◌≡◌, ◌<◌, ◌^◌, ℕ, ℤ, pos, nat_eq, Bool, false, List, [], ◌∷◌, ◌++◌, length, drop, filter, Option, None, Some, Result, Ok, IfSome, codes, if◌then◌else◌}
use Rattle.std.specs.List.{starts_with}
use Rattle.std.specs.Str.{bytes_eq}
use Rattle.f2b_base.specs.declared.ban.BanRule.{BanRule}
use Rattle.f2b_base.specs.declared.jail.JailDef.{JailDef}
use Rattle.f2b_base.specs.declared.jail.DateSpec.{DateSpec}
use Rattle.f2b_base.specs.declared.jail.DateSpec.TheVariants.{Default, Anchored, NoDate, Epoch, Iso, Pattern, AnchoredPattern}
use Rattle.f2b_base.specs.declared.outside.Tree.{Tree}
use Rattle.f2b_base.specs.declared.outside.TreeFile.{TreeFile}
use Rattle.f2b_base.specs.declared.outside.TreeAnswer.TheVariants.{Tree as IsATree}
use Rattle.f2b_world.specs.Shelves.{Shelf}
use Rattle.f2b_world.specs.Trees.{IsTreeOf}
use Rattle.jail_conf.specs.Conf.{conf}
use Rattle.jail_conf.specs.Dates.{anchor}
use Rattle.jail_conf.specs.declared.settings.Settings.{Settings}
use Rattle.regex_tool.specs.Asks.{Asks}
use Rattle.regex_tool.specs.Targets.{Target, target_in}

-- ---- of a pattern

abbrev pub no_rule : BanRule
no_rule = record { base = pos 1; increment = false; factor = 1000; multipliers = []; maxtime = 1; rndtime = 0 }

-- a jail with these patterns of failures
abbrev pub plain_jail : List (List ℕ) → JailDef
plain_jail patterns = record {
  name = codes "regex";
  watches = [];
  zone = pos 0;
  date = Default;
  pref = None;
  fail = patterns;
  ignore_lines = [];
  ignore = [];
  findtime = 1;
  maxretry = 1;
  maxmatches = 0;
  rule = no_rule;
  actions = [];
}

-- a jail with this one
abbrev pub pattern_jail : List ℕ → JailDef
pattern_jail regex = plain_jail (regex ∷ [])

-- ---- of a filter

abbrev pub option_text : Option (List ℕ) → List ℕ
option_text None = []
option_text (Some options) = codes "[" ++ options

-- the jail of a filter, in four lines of a file
abbrev pub jail_text : Target → List ℕ
jail_text target =
    codes "[" ++ target.name ++ codes "]\nenabled = true\nignoreself = false\nfilter = " ++ target.name ++ option_text target.options ++ codes "\n"

abbrev pub is_of_filters : TreeFile → Bool
is_of_filters file = starts_with nat_eq file.path (codes "filter.d/")

abbrev pub jail_file : Target → TreeFile
jail_file target = record { path = codes "jail.conf"; content = jail_text target }

-- the files of filters, and that jail
unfoldable pub filter_tree : Target → Tree → Tree
filter_tree target tree = record { files = filter is_of_filters tree.files ++ jail_file target ∷ [] }

-- the first jail, or one without patterns where there is none
abbrev pub first_of : List JailDef → JailDef
first_of [] = plain_jail []
first_of (jail ∷ jails) = jail

-- the files come to this one jail
pub record IsJailOf (target : Target) (tree : Tree) (jail : JailDef) : Type 0 where
  pub settings : Settings
  pub accepted : conf (filter_tree target tree) ≡ Ok settings
  pub first : jail ≡ first_of settings.defs.jails

-- those of the filter's directory do
pub record IsOfFilter (shelf : Option Shelf) (target : Target) (jail : JailDef) : Type 0 where
  pub tree : Tree
  pub files : IfSome shelf (IsTreeOf target.dir (IsATree tree))
  pub jail_is : IsJailOf target tree jail

-- ---- with the words

-- one of four words, or a pattern, perhaps behind the anchor
abbrev pub date_spec : List ℕ → DateSpec
date_spec text =
    if bytes_eq text anchor then Anchored
    else if bytes_eq text (codes "{NONE}") then NoDate
    else if bytes_eq text (codes "Epoch") then Epoch
    else if bytes_eq text (codes "ISO8601") then Iso
    else if starts_with nat_eq text anchor then AnchoredPattern (drop (length anchor) text)
    else Pattern text

abbrev pub date_or : Option (List ℕ) → DateSpec → DateSpec
date_or None date = date
date_or (Some text) date = date_spec text

abbrev pub lines_or : Option (List ℕ) → List (List ℕ) → List (List ℕ)
lines_or None lines = lines
lines_or (Some text) lines = text ∷ []

-- dates without a zone are those of the words' zone, no address is left out, and patterns of the words stand in place of the jail's
abbrev pub with_words : Asks → JailDef → JailDef
with_words asks jail = record jail { zone = asks.zone; date = date_or asks.date jail.date; ignore_lines = lines_or asks.ignore jail.ignore_lines; ignore = [] }

-- the filter that the words name, if they name one
abbrev pub target_for : Asks → Option Target
target_for asks = target_in asks.dir asks.regex

abbrev pub IsBase : Option Shelf → List ℕ → Option Target → JailDef → Type 0
IsBase shelf regex None jail = jail ≡ pattern_jail regex
IsBase shelf regex (Some target) jail = IsOfFilter shelf target jail

-- the jail that the words ask to test
pub record IsDefined (shelf : Option Shelf) (asks : Asks) (jail : JailDef) : Type 0 where
  pub base : JailDef
  pub is_base : IsBase shelf asks.regex (target_for asks) base
  pub is : jail ≡ with_words asks base
