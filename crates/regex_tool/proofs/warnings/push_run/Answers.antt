use Rattle.std.proofs.lemmas.Result.{on_ok_weaker}
use Rattle.regex_tool.specs.Warnings.{zone_advice}
use Rattle.regex_tool.proofs.TextLemmas.{grown}
use Rattle.regex_tool.proofs.warnings.push_run.Goals as goal

pub returns : goal.returns
returns c =
    on_ok_weaker c.push_advice.result
    (grown c.args.text.now _ (zone_advice c.args.other) c.push_counted.new.text c.push_advice.new.text c.in_ok-push_counted.ensures)
    c.push_advice.ensures
