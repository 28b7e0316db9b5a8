use Rattle.std.proofs.lemmas.Result.{err_from_is_err_and}
use Rattle.regex_tool.specs.Asks.{shown}
use Rattle.regex_tool.proofs.FileLemmas.{of_file, of_word}
use Rattle.regex_tool.proofs.log_file.results.Goals as goal

pub returns-then-branch-clause-results : goal.returns-then-branch-clause-results
returns-then-branch-clause-results g c =
    of_file _ _ (shown c.args.asked.now) _ c.in_ok-test.test c.read_log.new.test c.in_ok-read_log.field-0 _ c.if-branch.true c.in_ok-read_log.ensures.read c.in_ok-test.ensures c.in_ok-results.ensures

pub returns-clause-results : goal.returns-clause-results
returns-clause-results g c =
    of_word _ _ (shown c.args.asked.now) _ c.in_ok-test.test c.read_log.new.test c.in_ok-read_log.field-0 _ c.if-branch.false c.in_ok-read_log.ensures.read c.in_ok-test.ensures c.in_ok-results-2.ensures

pub returns-in_err-read_log-clause-cause : goal.returns-in_err-read_log-clause-cause
returns-in_err-read_log-clause-cause g c =
    let p = err_from_is_err_and c.from_residual-in_err-read_log.result c.from_residual-in_err-read_log.ensures.1 in
    rw (p.1, p.2) c.in_err-read_log.ensures.cause
