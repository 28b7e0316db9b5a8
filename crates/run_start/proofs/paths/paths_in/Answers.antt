use Rattle.run_start.proofs.PathLemmas.{paths_more}
use Rattle.run_start.proofs.paths.paths_in.Goals as goal

pub loop-jail-preserved : goal.loop-jail-preserved
loop-jail-preserved c =
    paths_more c.args.jails.now c.loop-jail.jail-index c.jail-item.result c.loop-jail.paths c.push_watches.new.paths c.as_slice.result.now
    c.loop-jail-test.true c.jail-item.is c.loop-jail.invariant c.as_slice.ensures c.in_ok-push_watches.ensures
