-- What a window of failures stands for, and what always holds of a jail's middle state.
use Rattle.std.specs.Prelude.{◌≡◌, ℕ, ◌≤◌, true, List, filter}
use Rattle.f2b_base.specs.declared.ban.Failure.{Failure}
use Rattle.f2b_model.specs.declared.jail_now.JailNow.{JailNow}
use Rattle.f2b_model.specs.Lists.{AllOf, in_order, IsInOrder}
use Rattle.f2b_model.specs.Full.{is_recent}
use Rattle.f2b_model.specs.Nows.{comes_before}
use Rattle.f2b_model.specs.Sound.{IsOnceEach, IsRisingEnds}

-- the kept failures are those of the whole list that are later than two `findtime` before `last`, in order
pub record StandsFor (last findtime : ℕ) (kept whole : List Failure) : Type 0 where
  pub is : kept ≡ in_order comes_before (filter (is_recent last findtime) whole)

-- the bounds of the middle state of a sound jail
pub record IsShown (at : ℕ) (j : JailNow) : Type 0 where
  pub in_order : IsInOrder comes_before j.failures
  pub recent : AllOf (λ (f : Failure). is_recent j.moment j.definition.findtime f ≡ true) j.failures
  pub none_later : AllOf (λ (f : Failure). f.time ≤ at) j.failures
  pub once : IsOnceEach j.bans
  pub rising : IsRisingEnds j.past
