use Rattle.std.proofs.Common.{◌∙◌, ap, get_or, sym}
use Rattle.log_set.proofs.FirstLemmas.{changed_at, unchanged}
use Rattle.log_set.proofs.FollowersLemmas.{same_over}
use Rattle.log_set.specs.Followers.{is_same}
use Rattle.log_set.specs.declared.log.Log.{Log}
use Rattle.log_set.proofs.followers.take_over.Goals as goal

pub returns-in-Some : goal.returns-in-Some
returns-in-Some c =
    let over = λ (log : Log). record log { follower = c.args.old.follower } in
    let log = get_or c.args.logs.now c.in-Some.place c.index-logs-place.result in
    changed_at (is_same c.args.old) over c.args.logs.now c.in-Some.place c.index-logs-place.result _ (sym c.in-Some.ensures) c.index-logs-place.is
    (same_over log c.args.old.follower _ ∙ ap over (sym c.index-logs-place.is))

pub returns-in_default : goal.returns-in_default
returns-in_default c = unchanged (is_same c.args.old) (λ (log : Log). record log { follower = c.args.old.follower }) c.args.logs.now (sym c.in_default.ensures)
