use Rattle.std.proofs.Common.{◌≡◌, ◌∙◌, []}
use Rattle.std.specs.Prelude.{max}
use Rattle.std.specs.Option.{option_map_or}
use Rattle.std.proofs.lemmas.Result.{IfOk-weaker}
use Rattle.f2b_base.specs.declared.jail.JailDef.{JailDef}
use Rattle.client_replies.specs.Meant.{definition_named}
use Rattle.client_replies.specs.Replies.{text_of, text_of_definition}
use Rattle.client_replies.proofs.DefaultLemmas.{default_tells}
use Rattle.client_replies.proofs.replies.text_of.Goals as goal

pub returns-in_default : goal.returns-in_default
returns-in_default c =
    let moment = max c.args.core.now.jails.at c.args.now in
    let now = c.args.core.now in
    let asked = c.args.request.now in
    let o = c.in_default in
    let same =
    default_tells moment now asked o.not-Ping o.not-Version o.not-Status o.not-StatusAll o.not-StatusOf o.not-Banned o.not-Holders o.not-UnbanAll o.not-Unban o.not-Reload o.not-Stop
    o.not-SetBanip o.not-SetUnbanip o.not-SetAttempt o.not-GetBanip o.not-GetBantimes in
    IfOk-weaker c.definition_text.result (λ text. text ≡ option_map_or (λ (d : JailDef). text_of_definition d asked) (definition_named now asked) [])
    (λ text. text ≡ text_of moment now asked) (λ text is. is ∙ same) c.definition_text.ensures
