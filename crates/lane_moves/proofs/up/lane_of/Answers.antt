-- The first lane of that name.
use Rattle.std.proofs.Common.{rules, tests}
use Rattle.std.proofs.lemmas.Iterator.{YieldsList-from_slice}
use Rattle.std.proofs.lemmas.Iterator.Search.{find_from_yields_List}
use Rattle.f2b_model.specs.Orders.{is_lane}
use Rattle.lane_moves.proofs.up.lane_of.Goals as goal

pub returns : goal.returns
returns c =
    find_from_yields_List (is_lane c.args.id.now) _ _ _ c.find.ensures.ran (YieldsList-from_slice c.args.up.now cc) (λ x b q k. search (rules, tests))
