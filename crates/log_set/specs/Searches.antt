-- What the search of a jail finds.
use Rattle.std.specs.Prelude.{ℕ, Bool, false, not, List, [], find, Option, Some, None, option_map, bytes_eq}
use Rattle.std.specs.List.{filter_map}
use Rattle.f2b_base.specs.declared.addr.Cidr.{Cidr}
use Rattle.f2b_base.specs.declared.ban.Failure.{Failure}
use Rattle.f2b_base.specs.declared.jail.JailDef.{JailDef}
use Rattle.filter_regex.specs.Findings.{finding}
use Rattle.filter_regex.specs.Rules.{Rules, rules_of}
use Rattle.filter_regex.specs.declared.finding.Finding.{Finding}
use Rattle.filter_regex.specs.declared.finding.Finding.TheVariants.{Failure as Failed}
use Rattle.log_follow.specs.declared.line.Line.{Line}
use Rattle.log_follow.specs.declared.line.Line.TheVariants.{Whole}
use Rattle.log_follow.specs.declared.step.Step.{Step}
use Rattle.log_follow.specs.declared.step.Step.TheVariants.{Lines}
use Rattle.log_set.specs.Shown.{kept_in, shows_lines}
use Rattle.log_set.specs.declared.jail_search.JailSearch.{JailSearch}
use Rattle.log_set.specs.declared.log.Log.{Log}

-- the lines that a step brings
abbrev pub lines_in : Step → List Line
lines_in (Lines lines) = lines
lines_in _ = []

-- the failure that a finding is, if it is one, which keeps this of its line
abbrev pub failure_in : List ℕ → Finding → Option Failure
failure_in kept (Failed addr time index) = Some (record { addr = addr; time = time; line = kept })
failure_in kept _ = None

-- the failure that a line shows now, by these rules, where the addresses in these masks are never banned; a line that is too long
-- shows none
abbrev pub line_failure : Bool → Rules → List Cidr → ℕ → ℕ → Line → Option Failure
line_failure shows rules masks findtime now (Whole text) = failure_in (kept_in shows text) (finding rules masks now findtime text)
line_failure shows rules masks findtime now _ = None

-- ---- by the definition of a jail

-- the failures that lines show now, in their order
abbrev pub failures_of : JailDef → ℕ → List Line → List Failure
failures_of d now lines = filter_map (line_failure (shows_lines d) (rules_of d) d.ignore d.findtime now) lines

-- ---- by its search

-- the search of a jail that is not idle, by the rules of its filter
abbrev pub search_by : Rules → JailDef → JailSearch
search_by rules d = record { name = d.name; searcher = rules; ignore = d.ignore; findtime = d.findtime; shows = shows_lines d; idle = false }

abbrev pub failure_by : JailSearch → ℕ → Line → Option Failure
failure_by j now line = line_failure j.shows j.searcher j.ignore j.findtime now line

abbrev pub failures_by : JailSearch → ℕ → List Line → List Failure
failures_by j now lines = filter_map (failure_by j now) lines

-- a search of the jail with that name
abbrev pub is_named : List ℕ → JailSearch → Bool
is_named name j = bytes_eq j.name name

-- a jail that is there and not idle
abbrev pub is_awake : Option Bool → Bool
is_awake None = false
is_awake (Some idle) = not idle

-- the log's jail is
abbrev pub is_log_awake : List JailSearch → Log → Bool
is_log_awake jails log = is_awake (option_map (λ (j : JailSearch). j.idle) (find (is_named log.jail) jails))
