use Rattle.std.proofs.Common.{◌≡◌, ap, ap₂, ◌∙◌, codes, rules}
use Rattle.std.proofs.lemmas.Result.{IfOk-weaker}
use Rattle.clap.specs.Words.{app_of, new_rule, rule_of, with_rule}
use Rattle.regex_tool.proofs.words.with_places.Goals as goal

pub returns : goal.returns
returns c =
    let ignore_is : rule_of c.new.result ≡ new_rule (codes "ignore") = search rules in
    IfOk-weaker c.arg-3.result _ _ (λ r h. h.shape (search rules)
    ∙ ap₂ with_rule (c.in_ok-command-2.ensures.shape c.needed-2.ensures.local
    ∙ ap₂ with_rule (c.in_ok-command.ensures.shape c.needed.ensures.local
    ∙ ap (with_rule (app_of c.args.command)) c.needed.ensures.rule) c.needed-2.ensures.rule) ignore_is) c.arg-3.ensures
