-- What is stored of a core, and what it is after a step.
use Rattle.std.proofs.Common.{◌≡◌, ℕ, ◌≤◌, List, [], ◌∷◌, map, refl, sym, ap, subst}
use Rattle.f2b_base.specs.declared.ban.Failure.{Failure}
use Rattle.f2b_base.specs.declared.input.Input.{Input}
use Rattle.f2b_base.specs.declared.jail.JailDef.{JailDef}
use Rattle.f2b_base.specs.declared.view.JailView.{JailView}
use Rattle.f2b_base.specs.declared.view.View.{View}
use Rattle.f2b_model.specs.declared.jail_now.JailNow.{JailNow}
use Rattle.f2b_model.specs.Laws.{AreWatched}
use Rattle.f2b_model.specs.Lists.{AllOf}
use Rattle.f2b_model.specs.Nows.{JailsNow}
use Rattle.f2b_model.specs.Storable.{most_numbers, IsStorable, IsStorableInput}
use Rattle.f2b_model.specs.StorableViews.{IsStorableView}
use Rattle.f2b_model.specs.Views.{jail_view, spread}
use Rattle.f2b_model.specs.Whole.{Now, step_now}
use Rattle.f2b_model.proofs.StorableWholeLemmas.{whole_stored}
use Rattle.f2b_model.proofs.WholeLemmas.{gathered_spread}

-- each jail of a view has the name of its definition
same_names : (js : List JailNow) → map (λ (v : JailView). v.name) (map jail_view js) ≡ map (λ (d : JailDef). d.name) (map (λ (j : JailNow). j.definition) js)
same_names [] = refl
same_names (j ∷ js) = ap (λ (names : List (List ℕ)). j.definition.name ∷ names) (same_names js)

-- what can be stored, and watches just what is defined, has a view that can be stored
pub view_storable : (n : Now) → IsStorable n → AreWatched n.jails → AllOf (λ (v : JailView). AllOf (λ (f : Failure). f.time ≤ n.jails.at) v.failures) (map jail_view n.jails.jails)
    → IsStorableView (spread n)
view_storable n storable watched times = record {
  now = subst IsStorable (sym (gathered_spread n)) storable;
  named = same_names n.jails.jails;
  watched = subst (λ (m : Now). AreWatched m.jails) (sym (gathered_spread n)) watched;
  times = times;
}

-- a step keeps what can be stored, where no id was given that could not be
pub step_storable : (n after : Now) (input : Input) → after ≡ step_now n input → after.lanes.next_job ≤ most_numbers → IsStorableInput input → IsStorable n → IsStorable after
step_storable n after input is few taken storable =
    subst IsStorable (sym is) (whole_stored n input taken (subst (λ (m : Now). m.lanes.next_job ≤ most_numbers) is few) storable)
