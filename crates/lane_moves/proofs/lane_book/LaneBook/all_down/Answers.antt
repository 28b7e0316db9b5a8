-- A lane more.
use Rattle.f2b_model.specs.Active.{held_of}
use Rattle.lane_moves.proofs.LaneLemmas.{all_down_step}
use Rattle.lane_moves.proofs.lane_book.LaneBook.all_down.Goals as goal

pub loop-lane-preserved : goal.loop-lane-preserved
loop-lane-preserved c =
    all_down_step c.args.at (held_of c.args.held.now) c.args.lanes.now c.loop-lane.lane-index c.lane-item.result c.args.self.now c.loop-lane.self c.lane_down.new.self
    c.loop-lane-test.true c.lane-item.is c.loop-lane.invariant c.in_ok-lane_down.ensures
