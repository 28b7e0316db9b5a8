use Rattle.std.proofs.Common.{◌∙◌}
use Rattle.regex_tool.proofs.ReadLemmas.{read_none}
use Rattle.regex_tool.proofs.log_test.LogTest.new.Goals as goal

pub returns : goal.returns
returns c = read_none c.args.jail.now c.args.shows _ (c.in_ok-search.ensures ∙ c.requires.built) c.new-4.ensures c.in_ok-new-2.ensures.counts c.in_ok-new-2.ensures.sections
    c.in_ok-new-2.ensures.notes
