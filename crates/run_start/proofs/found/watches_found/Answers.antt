use Rattle.run_start.proofs.FoundLemmas.{found_more}
use Rattle.run_start.proofs.found.watches_found.Goals as goal

pub loop-path-preserved : goal.loop-path-preserved
loop-path-preserved c =
    found_more c.args.jail.now c.args.found.now c.loop-path.path-index c.path-item.result c.loop-path.watches c.push_found.new.watches
    c.loop-path-test.true c.path-item.is c.loop-path.invariant c.in_ok-push_found.ensures
