use Rattle.std.proofs.Common.{refl, ap, length, arith}
use Rattle.log_follow.proofs.StandLemmas.{stands_more}
use Rattle.log_follow.proofs.WatchLemmas.{length-joined}
use Rattle.log_follow.proofs.follower.Follower.add.Goals as goal

pub invariant_of-self-2 : goal.invariant_of-self-2
invariant_of-self-2 c = record {
  within = omega (arith, c.in_ok-lines.ensures.len, c.args.self.now.within);
  heading = omega (arith, ap length c.in_ok-head.ensures, length-joined c.args.self.now.head c.args.bytes.now c.args.self.now.from c.args.self.now.heading);
}

pub returns-clause-stands : goal.returns-clause-stands
returns-clause-stands c = λ w stands. stands_more c.args.self.now _ w c.args.bytes.now stands refl refl (c.in_ok-lines.ensures.carries w.seen stands.carry) c.in_ok-head.ensures
