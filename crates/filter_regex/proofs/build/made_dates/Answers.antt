use Rattle.filter_regex.proofs.DatesLemmas.{dates_made, dates_failed}
use Rattle.filter_regex.proofs.build.made_dates.Goals as goal

pub returns-in-Ok-clause-calls : goal.returns-in-Ok-clause-calls
returns-in-Ok-clause-calls g c = dates_made _ _ _ _ _ c.in-Ok.ensures.calls

pub returns-in-Err-clause-calls : goal.returns-in-Err-clause-calls
returns-in-Err-clause-calls g c = rw c.not_built.ensures (dates_failed _ _ _ _ _ c.in-Err.ensures.calls)
