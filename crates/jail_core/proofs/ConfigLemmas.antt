-- When a configuration changes something.
use Rattle.std.proofs.Common.{◌≡◌, ◌≢◌, ◌↔◌, Bool, true, false, not, ◌&&◌, IsTrue, refl, sym, ◌∙◌, ap}
use Rattle.std.specs.List.{list_any}
use Rattle.f2b_base.specs.declared.jail.Defs.{Defs}
use Rattle.f2b_model.specs.declared.jail_now.JailNow.{JailNow}
use Rattle.f2b_model.specs.Lanes.{lanes_of, are_just}
use Rattle.f2b_model.specs.Laws.{AreWatched}
use Rattle.f2b_model.specs.Sound.{AreFitDefs}
use Rattle.f2b_model.specs.Whole.{Now}
use Rattle.f2b_model.proofs.ListLemmas.{by_test}
use Rattle.f2b_model.specs.Configured.{configured_now}
use Rattle.jail_rooms.proofs.ConfigureLemmas.{IsConfigured, configured_stays, defs_now, stays_configured}

-- of four tests that all pass each does
each_passes : (a b c d : Bool) → (a && (not b && (not c && d))) ≡ true → (a ≡ true) × ((b ≡ false) × ((c ≡ false) × (d ≡ true)))
each_passes true false false true h = (refl, (refl, (refl, refl)))
each_passes false b c d h = absurd (let k : false ≡ true = h in cc)
each_passes true true c d h = absurd (let k : false ≡ true = h in cc)
each_passes true false true d h = absurd (let k : false ≡ true = h in cc)
each_passes true false false false h = absurd (let k : false ≡ true = h in cc)

-- whether some jail is idle
abbrev pub any_idle : Now → Bool
any_idle n = list_any (λ (j : JailNow). j.idle) n.jails.jails

-- a configuration changes something exactly where one of four tests fails
pub changes_is : (defs : Defs) (n : Now) (same kept : Bool) → AreFitDefs defs → AreWatched n.jails → (IsTrue same ↔ (defs ≡ defs_now n))
    → kept ≡ (same && (not n.lanes.stopping && (not (any_idle n) && are_just (lanes_of defs) n.lanes.up)))
    → IsTrue (not kept) ↔ (configured_now defs n ≢ n)
changes_is defs n same kept fit watched same_is kept_is = (
  (λ changes stays.
      let is : IsConfigured defs n = stays_configured defs n stays in
      let own : same ≡ true = same_is.1 is.defs_are in
      let all : kept ≡ true = kept_is ∙ (rw (own, is.not_stopping, is.none_idle, is.just) refl) in
      let k : false ≡ true = ap not (sym all) ∙ changes in
      cc),
  (λ changes. by_test kept _
      (λ e. absurd (let each = each_passes same n.lanes.stopping (any_idle n) (are_just (lanes_of defs) n.lanes.up) (sym kept_is ∙ e) in
      changes (configured_stays defs n fit watched (record { defs_are = same_is.0 each.0; not_stopping = each.1.0; none_idle = each.1.1.0; just = each.1.1.1 }))))
      (λ e. ap not e)),
)
