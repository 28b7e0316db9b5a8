use Rattle.std.proofs.Common.{◌∙◌, arith}
use Rattle.log_follow.proofs.WatchLemmas.{joined_by}
use Rattle.log_follow.proofs.follower.joined.Goals as goal

pub returns : goal.returns
returns c =
    joined_by _ _ c.args.head.now c.args.bytes.now _ c.min.result c.in_ok-push_slice.ensures.ok (c.in_ok-joined.ensures ∙ c.as_slice.ensures) (grind arith)
    (omega arith) c.requires
