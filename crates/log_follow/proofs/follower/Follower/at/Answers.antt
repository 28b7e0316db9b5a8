use Rattle.std.proofs.Common.{refl, arith}
use Rattle.log_follow.proofs.StandLemmas.{stands_at}
use Rattle.log_follow.proofs.follower.Follower.at.Goals as goal

pub returns : goal.returns
returns c = stands_at _ c.args.position c.args.head refl refl c.new.ensures refl (omega (arith, c.requires))
