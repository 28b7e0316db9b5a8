use Rattle.std.proofs.Common.{◌≡◌, ◌∙◌, map, max}
use Rattle.std.specs.Prelude.{codes}
use Rattle.std.specs.List.{join_by}
use Rattle.std.proofs.lemmas.Result.{IfOk-weaker}
use Rattle.f2b_base.specs.declared.view.JailView.{JailView}
use Rattle.f2b_model.specs.Views.{jail_view}
use Rattle.client_replies.specs.Replies.{each_status, status_named}
use Rattle.client_replies.specs.Texts.{itself}
use Rattle.client_replies.proofs.TextLemmas.{statuses_shown}
use Rattle.client_replies.proofs.status.each_status.Goals as goal

pub returns : goal.returns
returns c =
    let now = c.args.core.now in
    let moment = max now.jails.at c.args.now in
    let listed = rw (c.as_slice.ensures, c.in_ok-texts.ensures) at c.joined.ensures in
    IfOk-weaker c.joined.result (λ text. text ≡ join_by itself (codes "\n\n") (map (λ (v : JailView). status_named moment now v.name) (map jail_view now.jails.jails)))
    (λ text. text ≡ each_status moment now) (λ text is. is ∙ statuses_shown moment now (codes "\n\n") now.jails.jails) listed
