use Rattle.std.proofs.Common.{◌≡◌, take}
use Rattle.f2b_model.specs.Lanes.{all_up, books_now}
use Rattle.f2b_model.specs.Active.{held_of}
use Rattle.lane_moves.proofs.lane_book.LaneBook.all_up.Given as goal

abbrev pub invariant-loop-lane : goal.invariant-loop-lane
invariant-loop-lane l = l.self ≡ all_up books_now l.at (held_of l.held) (take l.lane-index l.lanes) l.initial.self
