use Rattle.std.proofs.Common.{◌≡◌, ◌+◌, ◌++◌, drop}
use Rattle.regex_tool.specs.Warnings.{fail_warnings}
use Rattle.regex_tool.proofs.warnings.push_fail.Given as goal

-- the warnings so far and those to come
abbrev pub invariant-loop-pattern : goal.invariant-loop-pattern
invariant-loop-pattern l = record {
  number : l.number ≡ l.pattern-index;
  written : l.text ++ fail_warnings (l.pattern-index + 1) (drop l.pattern-index l.patterns) ≡ l.fn.text ++ fail_warnings 1 l.patterns;
}
