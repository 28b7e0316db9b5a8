use Rattle.std.proofs.Common.{◌≡◌, Err, rules}
use Rattle.filter_regex.specs.declared.error.PatternPlace.TheVariants.{Pref}
use Rattle.filter_regex.proofs.MakesLemmas.{one_failed}
use Rattle.filter_regex.proofs.make.made_pref.Goals as goal

pub returns-in_err-made_expanded-in-Some-clause-calls : goal.returns-in_err-made_expanded-in-Some-clause-calls
returns-in_err-made_expanded-in-Some-clause-calls g c =
    let outcome : c.from_residual.result ≡ Err c.in_err-made_expanded-in-Some.field-0.0 = search rules in
    rw (outcome, c.in-Some.is) (one_failed _ Pref _ _ _ _ c.in_err-made_expanded-in-Some.ensures)
