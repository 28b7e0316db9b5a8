-- What two slots come to: the view that was stored, after the inputs behind it.
use Rattle.std.specs.Prelude.{ℕ, ◌≡◌, ◌⊎◌, List, Option, Some}
use Rattle.f2b_base.specs.declared.view.View.{View}
use Rattle.f2b_model.specs.Lists.{AllOf}
use Rattle.f2b_model.specs.Sound.{IsSoundView}
use Rattle.f2b_model.specs.Storable.{IsStorableInput}
use Rattle.f2b_model.specs.StorableViews.{IsStorableView}
use Rattle.f2b_world.specs.Told.{History}
use Rattle.journal_slots.specs.Tops.{Stored, meaning}
use Rattle.slot_writes.specs.Rests.{PermitsBoth}
use Rattle.reconcile.specs.Loads.{view_by}

-- of the history, where it is told
abbrev pub WhereTold : Option History → (History → Type 0) → Type 0
WhereTold told P = (g : History) → told ≡ Some g → P g

-- What was stored is sound and can be stored, and comes to this view.
pub record ComesTo (stored : Stored) (v : View) : Type 0 where
  pub sound : IsSoundView stored.view
  pub view : IsStorableView stored.view
  pub inputs : AllOf IsStorableInput stored.inputs
  pub after : v ≡ view_by stored

-- these bytes of both slots mean what comes to this view
pub record OpensTo (v : View) (image : ℕ → List ℕ) : Type 0 where
  pub stored : Stored
  pub means : meaning image ≡ Some stored
  pub comes : ComesTo stored v

-- whatever a stop leaves opens to this view
abbrev pub Opens : View → History → Type 0
Opens v g = (image : ℕ → List ℕ) → PermitsBoth g image → OpensTo v image

-- whatever a stop leaves opens to the one view or to the other
abbrev pub OpensEither : View → View → History → Type 0
OpensEither before after g = (image : ℕ → List ℕ) → PermitsBoth g image → OpensTo before image ⊎ OpensTo after image
