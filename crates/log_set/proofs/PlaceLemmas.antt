-- A place of a log can be stored.
use Rattle.std.proofs.Common.{◌≡◌, ℕ, ◌<◌, ◌^◌}
use Rattle.f2b_base.specs.declared.jail.Place.{Place}
use Rattle.f2b_base.specs.declared.jail.Place.TheVariants.{Tail, Pos}
use Rattle.f2b_model.specs.Storable.{IsStorablePlace}
use Rattle.log_follow.specs.Watches.{IsPlace}

-- the position is a number of 64 bits
abbrev pub FitsPlace : Place → Type 0
FitsPlace Tail = Unit {0}
FitsPlace (Pos position head) = position < 2 ^ 64

pub placed_well : (place : Place) → FitsPlace place → IsPlace place → IsStorablePlace place
placed_well Tail fits is = tt
placed_well (Pos position head) fits is = (fits, is)
