use Rattle.many_runs.proofs.ChainLemmas.{are_one}
use Rattle.many_runs.proofs.runs_law.Goals as goal

pub returns : goal.returns
returns c = record { one = are_one }
