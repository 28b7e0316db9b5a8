use Rattle.std.proofs.Common.{List, ℕ, codes}
use Rattle.std.proofs.lemmas.Result.{on_ok_weaker}
use Rattle.regex_tool.specs.Outputs.{shown_lines, under}
use Rattle.regex_tool.proofs.TextLemmas.{grown}
use Rattle.regex_tool.proofs.output.push_lines.Goals as goal

pub returns : goal.returns
unfolding shown_lines
returns c =
    let missed : List ℕ = under (codes "Missed lines:\n") c.args.shows.now.missed c.args.sections.now.missed in
    on_ok_weaker c.push_under-3.result
    (grown c.args.text.now _ missed c.push_under-2.new.text c.push_under-3.new.text
    (grown c.args.text.now _ _ c.push_under.new.text c.push_under-2.new.text c.in_ok-push_under.ensures c.in_ok-push_under-2.ensures))
    c.push_under-3.ensures
