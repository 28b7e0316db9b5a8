use Rattle.client_table.proofs.ReplyLemmas.{few_framed}
use Rattle.client_table.proofs.client.Client.answer.Goals as goal

pub of-requires : goal.of-requires
of-requires c = few_framed c.args.reply.now c.in_ok-frame.frame c.in_ok-frame.ensures c.requires
