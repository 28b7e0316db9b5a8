-- Names of actions that are found one by one.
use Rattle.std.proofs.Common.{◌≡◌, ℕ, ◌+◌, ◌<◌, List, [], length, take, get_or}
use Rattle.std.specs.List.{fold}
use Rattle.std.proofs.lemmas.List.Sums.{fold_more}
use Rattle.f2b_base.specs.declared.jail.ActionDef.{ActionDef}
use Rattle.client_replies.specs.Texts.{with_name}

pub names_more : (actions : List ActionDef) (i : ℕ) (d : ActionDef) → i < length actions
    → fold with_name [] (take (i + 1) actions) ≡ with_name (fold with_name [] (take i actions)) (get_or actions i d)
names_more actions i d less = fold_more with_name [] actions i d less
