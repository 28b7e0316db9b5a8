use Rattle.std.proofs.Common.{◌∙◌, refl, ap}
use Rattle.std.specs.Vec.{with_items}
use Rattle.std.proofs.lemmas.List.{with_items_is}
use Rattle.log_set.proofs.CallLemmas.{goes_on}
use Rattle.log_set.specs.Followers.{taken_over}
use Rattle.log_set.specs.Logs.{Logs}
use Rattle.log_set.proofs.set.LogSet.go_on.Goals as goal

pub returns : goal.returns
returns c =
    let old : Logs = record { jails = c.self.inside.jails.items; logs = c.self.inside.logs.items } in
    let new : Logs = record { jails = c.self.inside.jails.items; logs = (with_items c.self.inside.logs c.go_on.new.logs).items } in
    let kept = with_items_is c.self.inside.logs c.go_on.new.logs (c.go_on.auto.logs ∙ c.deref_mut.ensures.len) in
    rw (← c.self.view_is) (goes_on old new c.args.old.items refl (kept ∙ c.go_on.ensures ∙ ap (taken_over c.args.old.items) c.deref_mut.ensures.value))
