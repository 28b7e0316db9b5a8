use Rattle.std.proofs.lemmas.Result.{err_from_is_err_and}
use Rattle.regex_tool.specs.Asks.{shown}
use Rattle.regex_tool.proofs.RunLemmas.{counts_for_fail, counts_for_ignore, log_cause}
use Rattle.regex_tool.proofs.tool.tested.Goals as goal

pub returns-in_err-results-clause-cause : goal.returns-in_err-results-clause-cause
returns-in_err-results-clause-cause g c =
    let p = err_from_is_err_and c.from_residual-in_err-results.result c.from_residual-in_err-results.ensures.1 in
    rw (p.1, p.2) (log_cause (shown c.args.asked.now) (g.F.Outside.stands c.args.files.now) (g.F.Outside.stands c.definition.new.files) (g.F.Outside.stands c.build.new.patterns)
    (g.F.Outside.stands c.results.new.files) c.in_err-results.field-0.0 c.definition.ensures.opened c.build.ensures.built c.in_err-results.ensures.cause)

pub output-requires-clause-fail : goal.output-requires-clause-fail
output-requires-clause-fail g c = counts_for_fail _ c.in_ok-jail.jail (shown c.args.asked.now) _ c.in_ok-results.results c.in_ok-results.ensures.results

pub output-requires-clause-ignore_lines : goal.output-requires-clause-ignore_lines
output-requires-clause-ignore_lines g c = counts_for_ignore _ c.in_ok-jail.jail (shown c.args.asked.now) _ c.in_ok-results.results c.in_ok-results.ensures.results

pub returns-in_err-output-clause-cause : goal.returns-in_err-output-clause-cause
returns-in_err-output-clause-cause g c =
    let p = err_from_is_err_and c.from_residual-in_err-output.result c.from_residual-in_err-output.ensures.1 in
    rw (p.1, p.2) tt
