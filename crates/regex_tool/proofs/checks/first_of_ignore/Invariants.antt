use Rattle.std.proofs.Common.{◌≡◌, ◌+◌, drop}
use Rattle.filter_regex.specs.declared.error.PatternPlace.TheVariants.{Ignore}
use Rattle.regex_tool.specs.Checks.{first_from, ignore_fault}
use Rattle.regex_tool.proofs.checks.first_of_ignore.Given as goal

-- what is left decides
abbrev pub invariant-loop-text : goal.invariant-loop-text
invariant-loop-text l = record {
  number : l.number ≡ l.text-index;
  left : first_from Ignore ignore_fault 1 l.texts ≡ first_from Ignore ignore_fault (l.text-index + 1) (drop l.text-index l.texts);
}
