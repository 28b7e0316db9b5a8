use Rattle.std.proofs.Common.{sym}
use Rattle.log_follow.proofs.LineLemmas.{line_of-long, line_of-text}
use Rattle.log_follow.proofs.line.Line.of.Goals as goal

pub returns-then-part-gt-LONGEST : goal.returns-then-part-gt-LONGEST
returns-then-part-gt-LONGEST c = sym (line_of-long c.args.part.now c.if-part-gt-LONGEST.true)

pub returns : goal.returns
returns c = line_of-text c.args.part.now c.without_return.result.now _ c.if-part-gt-LONGEST.false c.without_return.ensures c.in_ok-decode.ensures
