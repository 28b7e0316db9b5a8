use Rattle.std.proofs.Common.{◌≡◌, ◌≢◌, ◌↔◌, Bool, not, ◌&&◌, IsTrue, sym, ◌∙◌, ap, ap₂, subst}
use Rattle.f2b_base.specs.declared.jail.Defs.{Defs}
use Rattle.f2b_model.specs.Lanes.{lanes_of, are_just}
use Rattle.f2b_model.specs.Whole.{Now}
use Rattle.f2b_model.specs.Configured.{configured_now}
use Rattle.f2b_model.specs.Laws.{AreWatched}
use Rattle.jail_rooms.proofs.ConfigureLemmas.{defs_now}
use Rattle.jail_core.proofs.ConfigLemmas.{any_idle, changes_is}
use Rattle.jail_core.proofs.state.Core.config_changes.Goals as goal

pub returns-clause-changes : goal.returns-clause-changes
returns-clause-changes c =
    let defs : Defs = c.args.defs.now in
    let n : Now = record { jails = c.self.inside.jails.state; lanes = c.self.inside.actions } in
    let same : IsTrue c.has_defs-same.result ↔ (defs ≡ defs_now n) = c.has_defs-same.ensures in
    let kept : c.stays.result ≡ (c.has_defs-same.result && (not n.lanes.stopping && (not (any_idle n) && are_just (lanes_of defs) n.lanes.up))) =
    c.stays.ensures
    ∙ ap (λ b. c.has_defs-same.result && (not b && (not c.is_any_idle-idle.result && c.are_just-just.result))) c.is_stopping-stopping.ensures
    ∙ ap₂ (λ b d. c.has_defs-same.result && (not n.lanes.stopping && (not b && d))) c.is_any_idle-idle.ensures c.are_just-just.ensures in
    subst (λ (m : Now). IsTrue (not c.stays.result) ↔ (configured_now defs m ≢ m)) c.self.view_is
    (changes_is defs n c.has_defs-same.result c.stays.result c.requires c.self.invariant same kept)

pub returns-clause-watched : goal.returns-clause-watched
returns-clause-watched c = subst (λ (m : Now). AreWatched m.jails) c.self.view_is c.self.invariant
