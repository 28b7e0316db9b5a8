use Rattle.client_replies.proofs.KnownLemmas.{known_more}
use Rattle.client_replies.proofs.known.Known.add.Goals as goal

pub returns : goal.returns
returns c = λ test is. known_more c.args.self.now _ c.args.addr test is (rw (c.key_of.ensures) at c.in_ok-insert.ensures.updates.0)
