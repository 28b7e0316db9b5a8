-- A history that may have ended.
use Rattle.std.specs.Prelude.{◌≡◌, Bool, true, false, Option, Some, None, List, [], ◌∷◌, ◌++◌}
use Rattle.f2b_world.specs.declared.event.Event.{Event}

abbrev pub is_kept : Option (List Event) → Bool
is_kept (Some events) = true
is_kept None = false

-- one event more, if it is kept
abbrev pub and_then : Option (List Event) → Event → Option (List Event)
and_then (Some events) event = Some (events ++ event ∷ [])
and_then None event = None

abbrev pub Grows : Option (List Event) → Event → Option (List Event) → Type 0
Grows old event new = new ≡ and_then old event

-- of the events, where the history is told
abbrev pub WhereTold : Option (List Event) → (List Event → Type 0) → Type 0
WhereTold told P = (events : List Event) → told ≡ Some events → P events
