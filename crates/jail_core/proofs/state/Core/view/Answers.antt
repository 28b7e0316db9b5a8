use Rattle.std.proofs.Common.{◌≡◌, ◌≤◌, rules, List, map, sym, subst}
use Rattle.f2b_base.specs.declared.ban.Failure.{Failure}
use Rattle.f2b_base.specs.declared.view.JailView.{JailView}
use Rattle.f2b_base.specs.declared.view.View.{View}
use Rattle.f2b_model.specs.Lists.{AllOf}
use Rattle.f2b_model.specs.Storable.{IsStorable}
use Rattle.f2b_model.specs.StorableViews.{IsStorableView}
use Rattle.f2b_model.specs.Views.{spread}
use Rattle.f2b_model.specs.Whole.{Now}
use Rattle.jail_core.proofs.StoredLemmas.{view_storable}
use Rattle.jail_core.proofs.state.Core.view.Goals as goal

pub returns-clause-storable : goal.returns-clause-storable
returns-clause-storable c = λ storable.
    let n : Now = record { jails = c.self.inside.jails.state; lanes = c.self.inside.actions } in
    let v : View = record {
      at = c.now.result;
      defs = c.in_ok-defs.field-0;
      stopping = c.is_stopping.result;
      up = c.in_ok-copies.field-0;
      jails = c.in_ok-views.field-0;
      jobs = c.in_ok-jobs.field-0;
      next_job = c.next_job.result;
      next_ban = c.next_ban.result;
    } in
    let is : v ≡ spread n = search rules in
    subst IsStorableView (sym is)
    (view_storable n (subst IsStorable (sym c.self.view_is) storable) c.self.invariant
    (subst (AllOf (λ (j : JailView). AllOf (λ (f : Failure). f.time ≤ n.jails.at) j.failures)) c.in_ok-views.ensures.views c.in_ok-views.ensures.times))
