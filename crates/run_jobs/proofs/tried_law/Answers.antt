use Rattle.run_jobs.proofs.RunLemmas.{tries_in_order}
use Rattle.run_jobs.proofs.tried_law.Goals as goal

pub returns : goal.returns
returns c = record { in_order = tries_in_order }
