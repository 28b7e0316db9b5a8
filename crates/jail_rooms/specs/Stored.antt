-- What is stored of jails, as far as code asks of it.
use Rattle.std.specs.Prelude.{ℕ, List, [], ◌∷◌}
use Rattle.f2b_base.specs.declared.jail.JailDef.{JailDef}
use Rattle.f2b_base.specs.declared.view.JailView.{JailView}
use Rattle.jail_moves.specs.Rooms.{IsStored}
use Rattle.f2b_model.specs.Bounds.{IsBounded}

-- what is stored of each jail is within its bounds, and so is its definition: as many are stored as there are definitions
abbrev pub AreStored : ℕ → ℕ → List JailDef → List JailView → Type 0
AreStored at next [] [] = Unit {0}
AreStored at next [] (v ∷ vs) = ⊥
AreStored at next (d ∷ ds) [] = ⊥
AreStored at next (d ∷ ds) (v ∷ vs) = IsBounded d × (IsStored at next v × AreStored at next ds vs)
