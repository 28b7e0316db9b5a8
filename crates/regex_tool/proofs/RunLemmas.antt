-- The stages of a test, one after another.
use Rattle.std.proofs.Common.{◌≡◌, ◌≢◌, ℕ, ◌<◌, ◌≤◌, ◌-◌, ◌^◌, ◌⊎◌, min, List, length, Option, None, Some, inl, inr, refl, sym, ap, subst, ◌∙◌, arith}
use Rattle.f2b_base.specs.declared.jail.JailDef.{JailDef}
use Rattle.f2b_world.specs.Faults.{Fault, OfFiles, OfPatterns, Rose}
use Rattle.f2b_world.specs.Shelves.{Shelf}
use Rattle.f2b_world.specs.Told.{Standing}
use Rattle.f2b_base.specs.Limits.{latest_reading}
use Rattle.regex_tool.specs.Asks.{Asks}
use Rattle.regex_tool.specs.Builds.{HasBuildCause, IsBuilt}
use Rattle.regex_tool.specs.Checks.{first_fault}
use Rattle.regex_tool.specs.Counts.{by_fail, by_ignore}
use Rattle.regex_tool.specs.Definitions.{IsDefined, target_for}
use Rattle.regex_tool.specs.Readings.{HasLogCause, IsOfLog, IsOpened}
use Rattle.regex_tool.specs.Outputs.{output}
use Rattle.regex_tool.specs.Runs.{HasCause, HasTreeCause, IsOutput}
use Rattle.regex_tool.specs.declared.counts.Counts.{Counts}
use Rattle.regex_tool.specs.declared.results.Results.{Results}
use Rattle.regex_tool.specs.declared.status.ToolStatus.{ToolStatus}
use Rattle.regex_tool.specs.declared.status.ToolStatus.TheVariants.{Done, Usage, FileFault, ConfRefused, SinkFault, TooLarge, PatternRefused, NoMemory}
use Rattle.regex_tool.proofs.BuildLemmas.{refused_since}
use Rattle.regex_tool.proofs.CountsLemmas.{length-decided_from}
use Rattle.regex_tool.proofs.FileLemmas.{rose_since}

is_of_patterns : Fault → Type 0
is_of_patterns OfPatterns = Unit {0}
is_of_patterns _ = ⊥

is_of_files : Fault → Type 0
is_of_files OfFiles = Unit {0}
is_of_files _ = ⊥

patterns_are_no_files : OfPatterns ≢ OfFiles
unfolding is_of_patterns
patterns_are_no_files is = subst is_of_patterns is tt

files_are_no_patterns : OfFiles ≢ OfPatterns
unfolding is_of_files
files_are_no_patterns is = subst is_of_files is tt

-- there is no jail to test
pub tree_cause : (asks : Asks) (old new : Standing) (status : ToolStatus) → HasTreeCause (target_for asks) old new status → HasCause asks old new status
tree_cause asks old new Done cause = absurd cause
tree_cause asks old new Usage cause = absurd cause
tree_cause asks old new FileFault cause = cause
tree_cause asks old new (ConfRefused error) cause = cause
tree_cause asks old new SinkFault cause = absurd cause
tree_cause asks old new TooLarge cause = cause
tree_cause asks old new (PatternRefused place kind) cause = absurd cause
tree_cause asks old new NoMemory cause = tt

patterns_later : (old mid : Standing) → IsOpened old mid → old.faults OfPatterns ≤ mid.faults OfPatterns
patterns_later old mid opened = let same = opened.still OfPatterns patterns_are_no_files in omega (arith, same)

-- no filter is built
pub build_cause : (asks : Asks) (jail : JailDef) (old mid new : Standing) (status : ToolStatus) → IsOpened old mid → IsDefined old.shelf asks jail → HasBuildCause jail mid new status → HasCause asks old new status
build_cause asks jail old mid new Done opened defined cause = absurd cause
build_cause asks jail old mid new Usage opened defined cause = absurd cause
build_cause asks jail old mid new FileFault opened defined cause = absurd cause
build_cause asks jail old mid new (ConfRefused error) opened defined cause = absurd cause
build_cause asks jail old mid new SinkFault opened defined cause = absurd cause
build_cause asks jail old mid new TooLarge opened defined cause = absurd cause
build_cause asks jail old mid new (PatternRefused place kind) opened defined cause = record { jail = jail; defined = defined; cause = refused_since jail old mid new place kind (patterns_later old mid opened) cause }
build_cause asks jail old mid new NoMemory opened defined cause = tt

files_later : (old mid built : Standing) → IsOpened old mid → IsBuilt mid built → old.faults OfFiles ≤ built.faults OfFiles
files_later old mid built opened builds = let same = builds.still OfFiles files_are_no_patterns in omega (arith, opened.steady, same)

-- the log is not read
pub log_cause : (asks : Asks) (old mid built new : Standing) (status : ToolStatus) → IsOpened old mid → IsBuilt mid built → HasLogCause built new status → HasCause asks old new status
log_cause asks old mid built new Done opened builds cause = absurd cause
log_cause asks old mid built new Usage opened builds cause = absurd cause
log_cause asks old mid built new FileFault opened builds cause = rose_since _ _ _ (files_later old mid built opened builds) cause
log_cause asks old mid built new (ConfRefused error) opened builds cause = absurd cause
log_cause asks old mid built new SinkFault opened builds cause = absurd cause
log_cause asks old mid built new TooLarge opened builds cause = absurd cause
log_cause asks old mid built new (PatternRefused place kind) opened builds cause = absurd cause
log_cause asks old mid built new NoMemory opened builds cause = tt

-- what is said is what the words ask for
pub reported : (asks : Asks) (jail : JailDef) (old mid built : Standing) (results : Results) (now at : ℕ) (text : List ℕ) → IsOpened old mid → IsBuilt mid built → IsDefined old.shelf asks jail
    → first_fault jail ≡ None → at ≡ min now latest_reading → IsOfLog built.shelf jail asks at results → text ≡ output asks.shows jail results → IsOutput old.shelf asks now text
reported asks jail old mid built results now at text opened builds defined none clock of_log is = record {
  jail = jail;
  defined = defined;
  none = none;
  results = results;
  of_log = subst (λ n. IsOfLog old.shelf jail asks n results) clock
      (subst (λ (shelf : Option Shelf). IsOfLog shelf jail asks at results) (builds.leaves.shelf ∙ opened.leaves.shelf) of_log);
  is = is;
}

-- there is a count for each pattern
pub counts_for_fail : (shelf : Option Shelf) (jail : JailDef) (asks : Asks) (now : ℕ) (results : Results) → IsOfLog shelf jail asks now results → length results.counts.fail ≡ length jail.fail
counts_for_fail shelf jail asks now results of_log = ap (λ (c : Counts). length c.fail) of_log.are.counts ∙ length-decided_from by_fail 1 jail.fail _

pub counts_for_ignore : (shelf : Option Shelf) (jail : JailDef) (asks : Asks) (now : ℕ) (results : Results) → IsOfLog shelf jail asks now results → length results.counts.ignore_lines ≡ length jail.ignore_lines
counts_for_ignore shelf jail asks now results of_log = ap (λ (c : Counts). length c.ignore_lines) of_log.are.counts ∙ length-decided_from by_ignore 1 jail.ignore_lines _
