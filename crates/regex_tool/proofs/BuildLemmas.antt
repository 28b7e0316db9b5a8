-- Why a filter is not built, or its dates a second time.
use Rattle.std.proofs.Common.{◌≡◌, ◌≤◌, ℕ, List, Option, None, Err, inl, inr, refl, ◌∙◌, arith}
use Rattle.date_detect.specs.Builds as dates
use Rattle.date_detect.specs.Forms.{HasDatePattern, rule_of, texts}
use Rattle.date_detect.specs.declared.error.BuildError.{BuildError}
use Rattle.date_detect.specs.declared.error.BuildError.TheVariants as date
use Rattle.f2b_base.specs.declared.jail.JailDef.{JailDef}
use Rattle.f2b_world.specs.Faults.{OfPatterns}
use Rattle.f2b_world.specs.Told.{Standing}
use Rattle.filter_regex.specs.Builds.{Builds, IsCause}
use Rattle.filter_regex.specs.Rules.{Rules, IsSupported, rules_of}
use Rattle.filter_regex.specs.declared.error.BuildKind.{BuildKind}
use Rattle.filter_regex.specs.declared.error.BuildKind.TheVariants.{Syntax, TooBig}
use Rattle.filter_regex.specs.declared.error.PatternError.TheVariants.{Refused}
use Rattle.filter_regex.specs.declared.error.PatternPlace.{PatternPlace}
use Rattle.filter_regex.specs.declared.error.PatternPlace.TheVariants.{Date}
use Rattle.filter_regex.proofs.BuildLemmas.{dates_failed as filter_failed}
use Rattle.filter_regex.proofs.DatesLemmas.{dates_failed}
use Rattle.regex_tool.specs.Builds.{HasBuildCause, IsBuilt, IsNotBuilt, IsRefusedFor, not_dated, tool_kind}
use Rattle.regex_tool.specs.Checks.{IsTestable, first_fault}
use Rattle.regex_tool.specs.declared.kind.ToolKind.{ToolKind}
use Rattle.regex_tool.specs.declared.status.ToolStatus.{ToolStatus}
use Rattle.regex_tool.specs.declared.status.ToolStatus.TheVariants.{Done, Usage, FileFault, ConfRefused, SinkFault, TooLarge, PatternRefused, NoMemory}
use Rattle.regex_tool.proofs.FileLemmas.{rose_since}

-- a jail with few patterns and a zone near UTC can be built
pub supported : (jail : JailDef) → IsTestable jail → HasDatePattern jail.date → IsSupported jail
supported jail testable date = record {
  date = date;
  zone = testable.zone;
  fail = testable.few.fail;
  ignore_lines = testable.few.ignore_lines;
}

-- a pattern is refused as the build refused it
pub refused_for : (jail : JailDef) (old new : Standing) (place : PatternPlace) (kind : BuildKind) → first_fault jail ≡ None
    → Builds (rules_of jail) (Err (Refused place kind)) old new → IsNotBuilt jail old new place (tool_kind kind)
refused_for jail old new place kind none builds = record { none = none; text = builds.cause.0; stands = builds.cause.1; build = kind; kind_is = refl; cause = builds.cause.2 }

-- dates that are not built a second time are a pattern of the filter that is not built
pub dates_not_built : (jail : JailDef) (error : BuildError) (old new : Standing) → first_fault jail ≡ None → dates.Builds (texts (rule_of jail.date)) (Err error) old new
    → HasBuildCause jail old new (not_dated error)
dates_not_built jail date.Syntax old new none builds =
    inr (refused_for jail old new Date Syntax none (filter_failed jail Rules (Refused Date Syntax) old new (dates_failed ℕ (texts (rule_of jail.date)) date.Syntax old new builds)))
dates_not_built jail date.TooBig old new none builds =
    inr (refused_for jail old new Date TooBig none (filter_failed jail Rules (Refused Date TooBig) old new (dates_failed ℕ (texts (rule_of jail.date)) date.TooBig old new builds)))
dates_not_built jail date.NoMemory old new none builds = tt

-- ---- one build after another

pub built_none : (at : Standing) → IsBuilt at at
built_none at = record { leaves = record { talk = refl; shelf = refl }; steady = omega arith; still = λ kind other. refl }

pub built_then : (old mid new : Standing) → IsBuilt old mid → IsBuilt mid new → IsBuilt old new
built_then old mid new first second = record {
  leaves = record { talk = second.leaves.talk ∙ first.leaves.talk; shelf = second.leaves.shelf ∙ first.leaves.shelf };
  steady = omega (arith, first.steady, second.steady);
  still = λ kind other. second.still kind other ∙ first.still kind other;
}

cause_since : (build : BuildKind) (text : List ℕ) (old mid new : Standing) → old.faults OfPatterns ≤ mid.faults OfPatterns → IsCause build text mid new → IsCause build text old new
cause_since Syntax text old mid new later cause = cause
cause_since TooBig text old mid new later cause = rose_since _ _ _ later cause

-- a pattern that is refused later is refused
pub refused_since : (jail : JailDef) (old mid new : Standing) (place : PatternPlace) (kind : ToolKind) → old.faults OfPatterns ≤ mid.faults OfPatterns
    → IsRefusedFor jail mid new place kind → IsRefusedFor jail old new place kind
refused_since jail old mid new place kind later (inl fault) = inl fault
refused_since jail old mid new place kind later (inr unbuilt) = inr (record {
  none = unbuilt.none;
  text = unbuilt.text;
  stands = unbuilt.stands;
  build = unbuilt.build;
  kind_is = unbuilt.kind_is;
  cause = cause_since unbuilt.build unbuilt.text old mid new later unbuilt.cause;
})

pub build_cause_since : (jail : JailDef) (old mid new : Standing) (status : ToolStatus) → IsBuilt old mid → HasBuildCause jail mid new status → HasBuildCause jail old new status
build_cause_since jail old mid new Done built cause = absurd cause
build_cause_since jail old mid new Usage built cause = absurd cause
build_cause_since jail old mid new FileFault built cause = absurd cause
build_cause_since jail old mid new (ConfRefused error) built cause = absurd cause
build_cause_since jail old mid new SinkFault built cause = absurd cause
build_cause_since jail old mid new TooLarge built cause = absurd cause
build_cause_since jail old mid new (PatternRefused place kind) built cause = refused_since jail old mid new place kind built.steady cause
build_cause_since jail old mid new NoMemory built cause = tt
