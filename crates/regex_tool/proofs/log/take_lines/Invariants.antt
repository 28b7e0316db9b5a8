use Rattle.std.proofs.Common.{◌≡◌, take}
use Rattle.regex_tool.specs.Results.{Adds}
use Rattle.regex_tool.proofs.log.take_lines.Given as goal

abbrev pub invariant-loop-line : goal.invariant-loop-line
invariant-loop-line l = record {
  same : l.search ≡ l.fn.search;
  results : Adds l.fn.search l.now l.fn.results (take l.line-index l.lines) l.results;
}
