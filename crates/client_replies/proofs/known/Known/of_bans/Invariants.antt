use Rattle.std.proofs.Common.{take}
use Rattle.f2b_model.specs.Moves.{is_banned}
use Rattle.client_replies.specs.Known.{IsKnown}
use Rattle.client_replies.proofs.known.Known.of_bans.Given as goal

abbrev pub invariant-loop-ban : goal.invariant-loop-ban
invariant-loop-ban l = IsKnown l.known (λ addr. is_banned addr (take l.ban-index l.bans))
