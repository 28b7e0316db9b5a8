use Rattle.regex_tool.proofs.ReadLemmas.{adds_line, on_ok_all}
use Rattle.regex_tool.proofs.log_test.LogTest.add.Goals as goal

pub returns : goal.returns
returns c = on_ok_all c.add.result _ _ _ _
    (λ counts sections notes. adds_line c.args.self.now.search c.args.self.now.now c.args.self.now.results c.add.new.self c.args.line.now _ c.in_ok-seen.ensures.seen counts sections notes)
    c.add.ensures.counts c.add.ensures.sections c.add.ensures.notes
