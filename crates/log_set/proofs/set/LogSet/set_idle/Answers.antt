use Rattle.std.proofs.Common.{◌∙◌, refl, ap}
use Rattle.std.specs.Vec.{with_items}
use Rattle.std.proofs.lemmas.List.{with_items_is}
use Rattle.log_set.proofs.CallLemmas.{rests}
use Rattle.log_set.specs.Changes.{searches_changed}
use Rattle.log_set.specs.Logs.{Logs}
use Rattle.log_set.specs.declared.change.Change.TheVariants.{Idle}
use Rattle.log_set.proofs.set.LogSet.set_idle.Goals as goal

pub returns : goal.returns
returns c =
    let old : Logs = record { jails = c.self.inside.jails.items; logs = c.self.inside.logs.items } in
    let new : Logs = record { jails = (with_items c.self.inside.jails c.change_named.new.jails).items; logs = c.self.inside.logs.items } in
    let kept = with_items_is c.self.inside.jails c.change_named.new.jails (c.change_named.auto.jails ∙ c.deref_mut.ensures.len) in
    rw (← c.self.view_is) (rests old new _ refl _ (kept ∙ c.change_named.ensures ∙ ap (searches_changed c.args.jail.now (Idle c.args.idle)) c.deref_mut.ensures.value))
