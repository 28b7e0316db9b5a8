use Rattle.log_set.proofs.CallLemmas.{begins}
use Rattle.log_set.specs.Logs.{Logs}
use Rattle.log_set.proofs.set.LogSet.new.Goals as goal

pub returns : goal.returns
returns c =
    let set : Logs = record { jails = c.in_ok-jails.jails.items; logs = c.new.result.items } in
    begins set c.args.definitions.now c.in_ok-jails.ensures c.new.ensures.items
