use Rattle.regex_tool.proofs.BuildLemmas.{dates_not_built}
use Rattle.regex_tool.proofs.build.dates_if.Goals as goal

pub returns-in-Err-clause-cause : goal.returns-in-Err-clause-cause
returns-in-Err-clause-cause g c = rw c.not_dated.ensures (dates_not_built c.args.jail.now _ _ _ c.requires.none c.in-Err.ensures.calls)
