-- What a look brings of a log: the step, and where the log is followed to.
use Rattle.std.specs.Prelude.{◌==◌, ◌&&◌, Bool, true, false, Option, Some, None, if◌then◌else◌}
use Rattle.std.specs.Cmp.Lexicographic.{pointwise}
use Rattle.f2b_base.specs.declared.jail.Place.{Place}
use Rattle.f2b_base.specs.declared.jail.Place.TheVariants.{Tail, Pos}
use Rattle.f2b_base.specs.declared.outside.FileLook.{FileLook}
use Rattle.log_follow.specs.Watches.{Watch, looked, place_in}
use Rattle.log_set.specs.declared.log.Looked.{Looked}

-- two places are one
abbrev pub same_place : Place → Place → Bool
same_place Tail Tail = true
same_place (Pos a head) (Pos b start) = (a == b) && pointwise ◌==◌ head start
same_place _ _ = false

-- the place, where it is another one than before
abbrev pub moved_to : Place → Place → Option Place
moved_to before place = if same_place before place then None else Some place

-- what a look brings of a log: the step, and the place that it moves to
abbrev pub looked_of : Watch → FileLook → Looked
looked_of w look = record { step = (looked w look).1; moved = moved_to (place_in w) (place_in (looked w look).0) }
