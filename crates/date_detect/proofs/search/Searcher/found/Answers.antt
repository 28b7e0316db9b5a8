use Rattle.std.proofs.Common.{◌<◌, FitsSigned, w32, to_z-of_z, is_some, length, set, refl, sym, ap, ◌∙◌, arith}
use Rattle.std.proofs.lemmas.List.{set-get_or, drop_all, with_items_is}
use Rattle.date_detect.specs.Dates.{first_date}
use Rattle.date_detect.proofs.DateLemmas.{first_date-none, first_date-some, first_date-more}
use Rattle.date_detect.proofs.search.Searcher.found.Goals as goal

pub loop-form-init : goal.loop-form-init
loop-form-init c = (refl, rw (← c.self.view_is, c.deref_mut-form-items.ensures.value) refl)

pub returns-then-is_some-clause-found : goal.returns-then-is_some-clause-found
returns-then-is_some-clause-found c =
    let zone : FitsSigned w32 c.args.zone = c.ranges.zone in
    let found = rw (to_z-of_z zone) at c.date-found.ensures.found in
    let some = ap is_some (sym found) ∙ sym c.is_some.ensures ∙ c.if-is_some.true in
    let within : c.loop-form.form-index < length c.loop-form.form-items = omega arith in
    found
    ∙ sym (first_date-some c.self.inside.anchored c.args.now c.args.zone c.args.line.now c.loop-form.form-items c.loop-form.form-index c.form-item.result within some)
    ∙ (rw (to_z-of_z zone) at c.loop-form.invariant.1)

pub returns-then-is_some-clause-same : goal.returns-then-is_some-clause-same
returns-then-is_some-clause-same c =
    let kept = ap (set c.loop-form.form-items c.loop-form.form-index) c.date-found.ensures.same
    ∙ set-get_or c.loop-form.form-items c.loop-form.form-index c.form-item.result in
    let value = c.deref_mut-form-items.ensures.value in
    rw (kept ∙ c.loop-form.invariant.0 ∙ value, with_items_is c.self.inside.forms c.self.inside.forms.items (ap length (sym value) ∙ c.deref_mut-form-items.ensures.len)) c.self.view_is

pub loop-form-preserved : goal.loop-form-preserved
loop-form-preserved c =
    let zone : FitsSigned w32 c.args.zone = c.ranges.zone in
    let found = rw (to_z-of_z zone) at c.date-found.ensures.found in
    let none = ap is_some (sym found) ∙ sym c.is_some.ensures ∙ c.if-is_some.false in
    let within : c.loop-form.form-index < length c.loop-form.form-items = omega arith in
    let kept = ap (set c.loop-form.form-items c.loop-form.form-index) c.date-found.ensures.same
    ∙ set-get_or c.loop-form.form-items c.loop-form.form-index c.form-item.result in
    let more = sym (first_date-more c.self.inside.anchored c.args.now c.args.zone c.args.line.now c.loop-form.form-items c.loop-form.form-index c.form-item.result within none)
    ∙ (rw (to_z-of_z zone) at c.loop-form.invariant.1) in (
      kept ∙ c.loop-form.invariant.0,
      rw (kept, to_z-of_z zone) more,
    )

pub returns-clause-found : goal.returns-clause-found
returns-clause-found c =
    let zone : FitsSigned w32 c.args.zone = c.ranges.zone in
    let all = drop_all c.loop-form.form-index c.loop-form.form-items (omega arith) in
    sym (first_date-none c.self.inside.anchored c.args.now c.args.zone c.args.line.now)
    ∙ ap (λ forms. first_date c.self.inside.anchored forms c.args.now c.args.zone c.args.line.now) (sym all)
    ∙ (rw (to_z-of_z zone) at c.loop-form.invariant.1)

pub returns-clause-same : goal.returns-clause-same
returns-clause-same c =
    let value = c.deref_mut-form-items.ensures.value in
    rw (c.loop-form.invariant.0 ∙ value, with_items_is c.self.inside.forms c.self.inside.forms.items (ap length (sym value) ∙ c.deref_mut-form-items.ensures.len)) c.self.view_is
