-- What one more failure does to the failures of an address that a window keeps.
use Rattle.std.specs.Prelude.{◌≡◌, ℕ, ◌≤◌, ◌↔◌, Bool, true, List, [], ◌∷◌, ◌++◌}
use Rattle.f2b_base.specs.declared.ban.Failure.{Failure}
use Rattle.f2b_model.specs.Full.{IsFull}
use Rattle.f2b_model.specs.Stands.{StandsFor}
use Rattle.fail_window.specs.Opened.{IsTidy}

-- One more failure went in. Whatever list the old failures stood for, the new ones stand for that list with one more, and if the address was not full by
-- it, it is told whether it is now.
pub record IsAdded (findtime maxretry now : ℕ) (old new : List Failure) (f : Failure) (full : Bool) : Type 0 where
  pub tidy : IsTidy findtime maxretry new
  pub stands : (last : ℕ) (whole : List Failure) → StandsFor last findtime old whole → last ≤ now → StandsFor now findtime new (whole ++ f ∷ [])
  pub tells : (last : ℕ) (whole : List Failure) → StandsFor last findtime old whole → last ≤ now → (IsFull findtime maxretry f.addr whole → ⊥)
      → (full ≡ true) ↔ IsFull findtime maxretry f.addr (whole ++ f ∷ [])
