use Rattle.std.proofs.Common.{◌≡◌, ◌∙◌}
use Rattle.std.specs.Option.{option_and_then}
use Rattle.std.proofs.lemmas.Result.{IfOk-weaker}
use Rattle.f2b_base.specs.declared.jail.JailDef.{JailDef}
use Rattle.client_replies.specs.Changes.{change_of, change_of_definition}
use Rattle.client_replies.specs.Meant.{definition_named}
use Rattle.client_replies.proofs.DefaultLemmas.{default_changes}
use Rattle.client_replies.proofs.change.change_of.Goals as goal

pub returns-in_default : goal.returns-in_default
returns-in_default c =
    let now = c.args.core.now in
    let asked = c.args.request.now in
    let o = c.in_default in
    let same = default_changes now asked o.not-UnbanAll o.not-Unban o.not-Stop o.not-SetBanip o.not-SetUnbanip o.not-SetAttempt o.not-SetIdle in
    IfOk-weaker c.definition_change.result (λ change. change ≡ option_and_then (λ (d : JailDef). change_of_definition d asked) (definition_named now asked))
    (λ change. change ≡ change_of now asked) (λ change is. is ∙ same) c.definition_change.ensures
