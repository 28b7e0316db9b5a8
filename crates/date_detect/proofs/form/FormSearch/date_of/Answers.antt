use Rattle.std.proofs.Common.{sym}
use Rattle.date_detect.proofs.DateLemmas.{no_date}
use Rattle.date_detect.proofs.form.FormSearch.date_of.Goals as goal

pub returns-in-None-clause-found : goal.returns-in-None-clause-found
returns-in-None-clause-found c = no_date _ _ _ _ (sym c.in-None.ensures.matched)
