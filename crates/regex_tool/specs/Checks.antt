-- Which patterns are refused before any is built.
use Rattle.std.specs.Prelude.{◌≡◌, ◌<◌, ◌^◌, ℕ, ◌+◌, nat_lt, Bool, List, [], ◌∷◌, length, Option, None, Some, option_map, if◌then◌else◌}
use Rattle.std.specs.Option.{option_or}
use Rattle.f2b_base.specs.declared.jail.JailDef.{JailDef}
use Rattle.f2b_base.specs.declared.jail.DateSpec.{DateSpec}
use Rattle.f2b_base.specs.declared.jail.DateSpec.TheVariants.{Pattern, AnchoredPattern}
use Rattle.date_words.specs.Directives.{is_date_pattern}
use Rattle.host_ident.specs.Expanded.{hosts_in}
use Rattle.filter_regex.specs.declared.error.PatternPlace.{PatternPlace}
use Rattle.filter_regex.specs.declared.error.PatternPlace.TheVariants.{Date, Pref, Fail, Ignore}
use Rattle.regex_tool.specs.Zones.{IsNear}
use Rattle.regex_tool.specs.declared.checks.Refused.{Refused}
use Rattle.regex_tool.specs.declared.kind.ToolKind.{ToolKind}
use Rattle.regex_tool.specs.declared.kind.ToolKind.TheVariants.{TooLong, BadDate, NoHost, TwoHosts}

abbrev pub most_bytes : ℕ
most_bytes = 8_192

abbrev pub length_fault : List ℕ → Option ToolKind
length_fault text = if nat_lt most_bytes (length text) then Some TooLong else None

abbrev pub date_pattern_fault : List ℕ → Option ToolKind
date_pattern_fault text = option_or (length_fault text) (if is_date_pattern text then None else Some BadDate)

abbrev pub date_fault : DateSpec → Option ToolKind
date_fault (Pattern text) = date_pattern_fault text
date_fault (AnchoredPattern text) = date_pattern_fault text
date_fault _ = None

abbrev pub pref_fault : Option (List ℕ) → Option ToolKind
pref_fault None = None
pref_fault (Some text) = length_fault text

-- more hosts than one
abbrev pub hosts_fault : ℕ → Option ToolKind
hosts_fault hosts = if nat_lt 1 hosts then Some TwoHosts else None

-- a pattern of failures finds a host
abbrev pub host_fault : ℕ → Option ToolKind
host_fault hosts = if nat_lt hosts 1 then Some NoHost else hosts_fault hosts

abbrev pub fail_fault : List ℕ → Option ToolKind
fail_fault text = option_or (length_fault text) (host_fault (hosts_in text))

abbrev pub ignore_fault : List ℕ → Option ToolKind
ignore_fault text = option_or (length_fault text) (hosts_fault (hosts_in text))

abbrev pub refused : PatternPlace → ToolKind → Refused
refused place kind = record { place = place; kind = kind }

-- the first of some patterns that has a fault, where the first of them has the number n
abbrev pub first_from : (ℕ → PatternPlace) → (List ℕ → Option ToolKind) → (n : ℕ) → List (List ℕ) → Option Refused
first_from place fault n [] = None
first_from place fault n (text ∷ texts) = option_or (option_map (refused (place n)) (fault text)) (first_from place fault (n + 1) texts)

-- the first pattern with a fault, in the order in which they are built
unfoldable pub first_fault : JailDef → Option Refused
first_fault jail =
    option_or (option_map (refused Date) (date_fault jail.date))
    (option_or (option_map (refused Pref) (pref_fault jail.pref))
    (option_or (first_from Fail fail_fault 1 jail.fail) (first_from Ignore ignore_fault 1 jail.ignore_lines)))

-- few enough patterns for numbers of 32 bits
pub record IsFew (jail : JailDef) : Type 0 where
  pub fail : length jail.fail < 2 ^ 32
  pub ignore_lines : length jail.ignore_lines < 2 ^ 32

-- and a zone less than a day away from UTC
pub record IsTestable (jail : JailDef) : Type 0 where
  pub zone : IsNear jail.zone
  pub few : IsFew jail
