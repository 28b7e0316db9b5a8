use Rattle.std.proofs.Common.{[], ◌≡◌}
use Rattle.ini_interp.specs.Frames.{IsKept, IsWay, pending, read_at, way_of, weight}
use Rattle.ini_interp.proofs.frames.read_with_includes.Given as goal

abbrev pub invariant-loop-frame : goal.invariant-loop-frame
invariant-loop-frame l = record {
  kept : IsKept (read_at l.files [] l.path l.content) (pending l.files [] l.frames.items) l.fn.sections l.sections;
  way : IsWay l.files (way_of [] l.frames.items);
}

abbrev pub decreases-loop-frame : goal.decreases-loop-frame
decreases-loop-frame l = weight l.files [] l.frames.items
