use Rattle.std.proofs.lemmas.Result.{err_from_is_err_and}
use Rattle.regex_tool.proofs.BuildLemmas.{build_cause_since, built_then}
use Rattle.regex_tool.proofs.build.build.Goals as goal

pub returns-in_err-dates-clause-cause : goal.returns-in_err-dates-clause-cause
returns-in_err-dates-clause-cause g c =
    let p = err_from_is_err_and c.from_residual-in_err-dates.result c.from_residual-in_err-dates.ensures.1 in
    rw (p.1, p.2) (build_cause_since c.args.jail.now _ _ _ c.in_err-dates.field-0.0 c.filter.ensures.built c.in_err-dates.ensures.cause)

pub returns-in_err-dates-clause-built : goal.returns-in_err-dates-clause-built
returns-in_err-dates-clause-built g c = built_then _ _ _ c.filter.ensures.built c.dates_if.ensures.built

pub returns-clause-built : goal.returns-clause-built
returns-clause-built g c = built_then _ _ _ c.filter.ensures.built c.dates_if.ensures.built
