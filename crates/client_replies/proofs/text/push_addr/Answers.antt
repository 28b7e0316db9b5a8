use Rattle.f2b_model.proofs.ShownTextLemmas.{printed_utf8}
use Rattle.client_replies.proofs.text.push_addr.Goals as goal

pub text_of-requires : goal.text_of-requires
text_of-requires c = rw c.print-len.ensures.value (printed_utf8 c.args.addr.now)
