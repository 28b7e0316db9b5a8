use Rattle.std.proofs.Common.{◌≡◌, ◌+◌, ◌++◌, drop}
use Rattle.regex_tool.specs.Report.{rows}
use Rattle.regex_tool.proofs.report.push_rows.Given as goal

-- the rows so far and those to come
abbrev pub invariant-loop-place : goal.invariant-loop-place
invariant-loop-place l = record {
  number : l.number ≡ l.place;
  written : l.text ++ rows (l.place + 1) (drop l.place l.counts) (drop l.place l.patterns) ≡ l.fn.text ++ rows 1 l.counts l.patterns;
}
