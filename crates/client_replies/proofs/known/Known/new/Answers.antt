use Rattle.client_replies.proofs.KnownLemmas.{known_none}
use Rattle.client_replies.proofs.known.Known.new.Goals as goal

pub returns : goal.returns
returns c = known_none _ c.new.ensures.empty
