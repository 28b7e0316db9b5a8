use Rattle.std.proofs.Common.{◌≡◌, ◌+◌, drop}
use Rattle.filter_regex.specs.Findings.{first_match}
use Rattle.filter_regex.proofs.part.first_match.Given as goal

abbrev pub invariant-loop-matcher : goal.invariant-loop-matcher
invariant-loop-matcher l = record {
  same : l.matcher-items ≡ l.initial.matcher-items;
  number : l.number ≡ l.matcher-index;
  rest : first_match (l.number + 1) (drop l.matcher-index l.matcher-items) l.line ≡ first_match 1 l.fn.patterns.items l.line;
}
