use Rattle.std.proofs.Common.{◌≡◌, ◌+◌, length, ap, arith}
use Rattle.log_follow.specs.Carried.{length_of}
use Rattle.log_follow.proofs.CarryLemmas.{join_kept, join_long, join_longer}
use Rattle.log_follow.proofs.carry.Carry.join.Goals as goal
use Rattle.log_follow.proofs.carry.Carry.join.Goals.{in_default-via-in-Kept+else-count, in_default-via-in_default}

pub returns-in_ok-push_slice-in-Kept-clause-ok : goal.returns-in_ok-push_slice-in-Kept-clause-ok
returns-in_ok-push_slice-in-Kept-clause-ok c = λ rest is.
    join_kept c.args.self.now rest c.args.bytes.now c.in-Kept.kept c.push_slice.new.self c.in-Kept.is is c.in_ok-push_slice-in-Kept.ensures.ok
    (omega (arith, c.len.ensures))

pub returns-in_default-clause-ok : goal.returns-in_default-clause-ok
returns-in_default-clause-ok c = λ rest is.
    let count : c.len.result + length c.args.bytes.now ≡ length_of c.args.self.now + length c.args.bytes.now = ap (λ n. n + length c.args.bytes.now) c.len.ensures in
    elim c.in_default.branch [
      | in_default-via-in-Kept+else-count w ↦ join_long c.args.self.now rest c.args.bytes.now _ is count w.if-count.false
      | in_default-via-in_default w ↦ join_longer c.args.self.now rest c.args.bytes.now w.in_default.field-0 _ w.in_default.is is count
    ]
