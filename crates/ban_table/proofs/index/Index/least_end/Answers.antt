use Rattle.ban_table.proofs.IndexLemmas.{least_is}
use Rattle.ban_table.proofs.index.Index.least_end.Goals as goal

pub returns : goal.returns
returns c = λ bans index. least_is c.args.self.now bans c.first.result c.copied.result index c.copied.ensures c.first.ensures.variant c.first.ensures.member c.first.ensures.least
