use Rattle.std.proofs.Common.{◌∙◌, ap, sym}
use Rattle.log_set.specs.Followers.{taken_over_by}
use Rattle.log_set.proofs.FollowersLemmas.{over_more}
use Rattle.log_set.proofs.followers.go_on.Goals as goal

pub loop-log-preserved : goal.loop-log-preserved
loop-log-preserved c =
    c.take_over.ensures ∙ ap (taken_over_by c.in-Some.log) c.loop-log.invariant ∙ sym (over_more c.loop-log.yielded c.in-Some.log c.args.logs.now)
