-- What the events of a run tell of one client, by its number.
use Rattle.std.specs.Prelude.{ℕ, ◌==◌, Bool, false, if◌then◌else◌, List, [], take}
use Rattle.std.specs.List.{flat_map, list_any}
use Rattle.f2b_world.specs.declared.answer.GateRead.TheVariants.{Bytes}
use Rattle.f2b_world.specs.declared.answer.GateWrite.TheVariants.{Took}
use Rattle.f2b_world.specs.declared.event.Event.{Event}
use Rattle.f2b_world.specs.declared.event.Event.TheVariants.{GateClose, GateRead, GateWrite}

-- the bytes that came of it, and those that it took
abbrev pub came_by : ℕ → Event → List ℕ
came_by conn (GateRead there max (Bytes bytes)) = if there == conn then bytes else []
came_by conn _ = []

abbrev pub taken_by : ℕ → Event → List ℕ
taken_by conn (GateWrite there bytes (Took count)) = if there == conn then take count bytes else []
taken_by conn _ = []

-- all of them, in order
abbrev pub came_in : ℕ → List Event → List ℕ
came_in conn es = flat_map (came_by conn) es

abbrev pub taken_in : ℕ → List Event → List ℕ
taken_in conn es = flat_map (taken_by conn) es

-- whether it was closed
abbrev pub closes_it : ℕ → Event → Bool
closes_it conn (GateClose there) = there == conn
closes_it conn _ = false

abbrev pub is_closed : ℕ → List Event → Bool
is_closed conn es = list_any (closes_it conn) es
