use Rattle.std.proofs.Common.{refl}
use Rattle.log_follow.proofs.StandLemmas.{stands_tail}
use Rattle.log_follow.proofs.follower.Follower.new.Goals as goal

pub returns-in-Tail : goal.returns-in-Tail
returns-in-Tail c = rw c.in-Tail.is (stands_tail _ refl refl c.new.ensures c.new-in-Tail.ensures)
