use Rattle.std.proofs.Common.{◌∙◌, List, refl, ap}
use Rattle.std.specs.Vec.{with_items}
use Rattle.std.proofs.lemmas.List.{with_items_is}
use Rattle.f2b_base.specs.declared.addr.Cidr.{Cidr}
use Rattle.log_set.proofs.CallLemmas.{ignores}
use Rattle.log_set.specs.Changes.{searches_changed}
use Rattle.log_set.specs.Logs.{Logs}
use Rattle.log_set.specs.declared.change.Change.TheVariants.{Ignore}
use Rattle.log_set.proofs.set.LogSet.set_ignore.Goals as goal

pub returns-clause-ok : goal.returns-clause-ok
returns-clause-ok c =
    let old : Logs = record { jails = c.self.inside.jails.items; logs = c.self.inside.logs.items } in
    let new : Logs = record { jails = (with_items c.self.inside.jails c.change_named.new.jails).items; logs = c.self.inside.logs.items } in
    let kept = with_items_is c.self.inside.jails c.change_named.new.jails (c.change_named.auto.jails ∙ c.deref_mut.ensures.len) in
    rw (← c.self.view_is)
    (ignores old new _ refl _ (kept ∙ c.change_named.ensures
    ∙ ap (searches_changed c.args.jail.now (Ignore c.in_ok-ignore.ignore)) c.deref_mut.ensures.value
    ∙ ap (λ (masks : List Cidr). searches_changed c.args.jail.now (Ignore masks) old.jails) c.in_ok-ignore.ensures))
