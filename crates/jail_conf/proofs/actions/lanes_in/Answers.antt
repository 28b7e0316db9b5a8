use Rattle.std.proofs.lemmas.Result.{on_ok_weaker}
use Rattle.jail_conf.proofs.OwnLemmas.{scope_alone}
use Rattle.jail_conf.proofs.actions.lanes_in.Goals as goal

pub returns-then-for_each-clause-scope : goal.returns-then-for_each-clause-scope
returns-then-for_each-clause-scope c =
    on_ok_weaker c.lane_of_each.result (scope_alone c.args.source.now c.lane_of_each.new.source) c.lane_of_each.ensures.source
