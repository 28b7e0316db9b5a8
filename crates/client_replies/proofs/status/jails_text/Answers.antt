use Rattle.std.proofs.Common.{ap, codes}
use Rattle.f2b_base.specs.declared.jail.Defs.{Defs}
use Rattle.client_replies.specs.Texts.{jails_text}
use Rattle.client_replies.proofs.TextLemmas.{titles_shown}
use Rattle.client_replies.proofs.status.jails_text.Goals as goal

pub returns : goal.returns
unfolding jails_text
returns c =
    titles_shown _ _ (codes ", ") c.args.core.now.jails.jails c.in_ok-defs.defs.jails c.as_slice.result.now c.new-reply.result c.push_titled_number.new.reply c.push_titled_list.new.reply
    c.len.result (ap (λ (d : Defs). d.jails) c.in_ok-defs.ensures) c.new-reply.ensures c.len.ensures c.as_slice.ensures c.in_ok-push_titled_number.ensures
    c.in_ok-push_titled_list.ensures
