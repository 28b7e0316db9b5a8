use Rattle.std.proofs.Common.{arith}
use Rattle.regex_tool.proofs.ReadLemmas.{finish_none, finish_rest, on_ok_more}
use Rattle.regex_tool.proofs.log_test.LogTest.end.Goals as goal

pub returns-then-len-eq0 : goal.returns-then-len-eq0
returns-then-len-eq0 c = finish_none c.args.self.now (omega (arith, c.len.ensures, c.if-len-eq0.true))

pub returns : goal.returns
returns c = on_ok_more c.add.result _ _
    (λ adds. finish_rest c.args.self.now c.in_ok-line.line _ (omega (arith, c.len.ensures, c.if-len-eq0.false)) c.in_ok-line.ensures adds) c.add.ensures
