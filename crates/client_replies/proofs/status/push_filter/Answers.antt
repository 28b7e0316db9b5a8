use Rattle.std.proofs.lemmas.Result.{IfOk-equal}
use Rattle.client_replies.specs.Texts.{filter_text}
use Rattle.client_replies.proofs.TextLemmas.{three_more}
use Rattle.client_replies.proofs.status.push_filter.Goals as goal

pub returns : goal.returns
unfolding filter_text
returns c =
    let first = rw c.from.ensures at c.in_ok-push_titled_number.ensures in
    let second = rw c.from-2.ensures at c.in_ok-push_titled_number-2.ensures in
    let third = rw c.as_slice.ensures at c.push_titled_list.ensures in
    IfOk-equal c.push_titled_list.result c.push_titled_list.new.reply _ _ third (three_more c.args.reply.now _ _ _ _ _ first second)
