use Rattle.run_replies.proofs.RunLemmas.{replies_in_order}
use Rattle.run_replies.proofs.BehindLemmas.{replies_behind_inputs}
use Rattle.run_replies.proofs.replied_law.Goals as goal

pub returns : goal.returns
returns c = record { in_order = replies_in_order; behind = replies_behind_inputs }
