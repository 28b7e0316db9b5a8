use Rattle.std.proofs.Common.{◌≡◌, ◌+◌, drop}
use Rattle.filter_regex.specs.declared.error.PatternPlace.TheVariants.{Fail}
use Rattle.regex_tool.specs.Checks.{first_from, fail_fault}
use Rattle.regex_tool.proofs.checks.first_of_fail.Given as goal

-- what is left decides
abbrev pub invariant-loop-text : goal.invariant-loop-text
invariant-loop-text l = record {
  number : l.number ≡ l.text-index;
  left : first_from Fail fail_fault 1 l.texts ≡ first_from Fail fail_fault (l.text-index + 1) (drop l.text-index l.texts);
}
