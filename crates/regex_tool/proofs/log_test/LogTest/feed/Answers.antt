use Rattle.std.proofs.Common.{◌∙◌, refl}
use Rattle.regex_tool.proofs.ReadLemmas.{read_more, on_ok_more}
use Rattle.regex_tool.proofs.log_test.LogTest.feed.Goals as goal

pub returns : goal.returns
returns c = on_ok_more c.take_lines.result _ _
    (λ adds. read_more c.args.self.now _ c.as_slice.result.now c.args.bytes.now c.take_lines.ensures.same refl c.in_ok-lines.ensures.carries
    (λ seen carried. c.as_slice.ensures ∙ c.in_ok-lines.ensures.lines seen carried) adds) c.take_lines.ensures.results
