use Rattle.std.proofs.Common.{◌∙◌, ap}
use Rattle.std.proofs.lemmas.Result.{IfOk-weaker}
use Rattle.regex_tool.specs.Asks.{with_flags, with_places, with_values}
use Rattle.regex_tool.proofs.words.command.Goals as goal

pub returns : goal.returns
returns c = IfOk-weaker c.with_places.result _ _ (λ r h. h
    ∙ ap with_places (c.in_ok-command-2.ensures ∙ ap with_flags (c.in_ok-command.ensures ∙ ap with_values c.bare_command.ensures))) c.with_places.ensures
