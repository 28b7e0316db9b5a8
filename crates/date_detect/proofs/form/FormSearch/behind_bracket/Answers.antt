use lib.Utf8.{encode}
use Rattle.date_detect.proofs.DateLemmas.{no_bracket}
use Rattle.date_detect.proofs.form.FormSearch.behind_bracket.Goals as goal

pub returns-in_err-rest-clause-found : goal.returns-in_err-rest-clause-found
unfolding encode
returns-in_err-rest-clause-found c =
    let none = no_bracket c.args.line.now c.in_err-rest.ensures.cases in
    rw none c.from_residual.ensures
