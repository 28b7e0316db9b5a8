use Rattle.std.proofs.Common.{ap, ap₂, ◌∙◌}
use Rattle.std.proofs.lemmas.Result.{IfOk-weaker}
use Rattle.clap.specs.Words.{app_of, with_rule}
use Rattle.regex_tool.proofs.words.with_values.Goals as goal

pub returns : goal.returns
returns c =
    IfOk-weaker c.arg-4.result _ _ (λ r h. h.shape c.named.ensures.local
    ∙ ap₂ with_rule (c.in_ok-command-3.ensures.shape c.letter-3.ensures.local
    ∙ ap₂ with_rule (c.in_ok-command-2.ensures.shape c.letter-2.ensures.local
    ∙ ap₂ with_rule (c.in_ok-command.ensures.shape c.letter.ensures.local
    ∙ ap (with_rule (app_of c.args.command)) c.letter.ensures.rule) c.letter-2.ensures.rule) c.letter-3.ensures.rule) c.named.ensures.rule) c.arg-4.ensures
