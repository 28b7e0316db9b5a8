-- Calls that change a slot, and a run of such calls: all are done, one fails, or the run stops before one.
use Rattle.std.specs.Prelude.{ℕ, ◌≡◌, ◌⊎◌, List, [], ◌∷◌, ◌++◌, Option}
use Rattle.f2b_world.specs.declared.answer.Synced.TheVariants.{Done as SyncDone, Failed as SyncFailed}
use Rattle.f2b_world.specs.declared.answer.Wrote.TheVariants.{Done as WroteDone, Failed as WroteFailed}
use Rattle.f2b_world.specs.declared.event.Event.{Event}
use Rattle.f2b_world.specs.declared.event.Event.TheVariants.{DiskWrite, DiskSync}
use Rattle.f2b_world.specs.Told.{History, Adds}

-- a call that changes a slot: bytes from a place on, or the sync of what was written
pub data Write : Type 0 where
  Put : ℕ → ℕ → List ℕ → Write
  Sync : ℕ → Write

-- the slot that a call changes
abbrev pub slot_in : Write → ℕ
slot_in (Put slot at bytes) = slot
slot_in (Sync slot) = slot

-- all calls change this slot
abbrev pub AreOn : ℕ → List Write → Type 0
AreOn slot [] = Unit {0}
AreOn slot (w ∷ ws) = (slot_in w ≡ slot) × AreOn slot ws

abbrev pub done_event : Write → Event
done_event (Put slot at bytes) = DiskWrite slot at bytes WroteDone
done_event (Sync slot) = DiskSync slot SyncDone

abbrev pub failed_event : Write → Event
failed_event (Put slot at bytes) = DiskWrite slot at bytes WroteFailed
failed_event (Sync slot) = DiskSync slot SyncFailed

abbrev pub done_events : List Write → List Event
done_events [] = []
done_events (w ∷ ws) = done_event w ∷ done_events ws

-- the calls up to some of them were done
pub record IsFirstPart (ws : List Write) (es : List Event) : Type 0 where
  pub first : List Write
  pub left : List Write
  pub parts : ws ≡ first ++ left
  pub done : es ≡ done_events first

-- the calls up to one of them were done, and that one failed
pub record IsBroken (ws : List Write) (es : List Event) : Type 0 where
  pub first : List Write
  pub one : Write
  pub left : List Write
  pub parts : ws ≡ first ++ one ∷ left
  pub done : es ≡ done_events first ++ failed_event one ∷ []

-- so far a run of these calls can have come
abbrev pub IsPart : List Write → List Event → Type 0
IsPart ws es = IsFirstPart ws es ⊎ IsBroken ws es

-- all of the calls were made, and done
pub record Performs (ws : List Write) (old new : Option History) : Type 0 where
  pub events : Adds old new (λ g es. es ≡ done_events ws)

-- the disk failed at one of them
pub record Breaks (ws : List Write) (old new : Option History) : Type 0 where
  pub events : Adds old new (λ g es. IsBroken ws es)

-- nothing was done from one of them on
pub record StopsShort (ws : List Write) (old new : Option History) : Type 0 where
  pub events : Adds old new (λ g es. IsFirstPart ws es)
