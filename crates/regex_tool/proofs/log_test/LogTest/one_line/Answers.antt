use Rattle.std.proofs.Common.{◌∙◌, ap}
use Rattle.log_follow.specs.Lines.{line_of}
use Rattle.regex_tool.proofs.ReadLemmas.{finish_one}
use Rattle.regex_tool.proofs.log_test.LogTest.one_line.Goals as goal

pub returns : goal.returns
returns c = finish_one c.args.self c.in_ok-line.line (line_of c.args.line.now) c.add.new.self.results (c.in_ok-line.ensures ∙ ap line_of c.as_bytes.ensures.value) c.in_ok-add.ensures
