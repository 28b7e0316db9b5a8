use Rattle.std.proofs.Common.{◌≡◌, Some, None, lit<, arith}
use Rattle.std.proofs.lemmas.Str.Pattern.{split_once_first}
use Rattle.ini_interp.proofs.NamesLemmas.{one_line, more_lines}
use Rattle.ini_interp.proofs.includes.first_line.Goals as goal

pub returns-in-Some-clause-lines : goal.returns-in-Some-clause-lines
returns-in-Some-clause-lines c =
    let cut = split_once_first 10 c.args.text.now (Some (c.in-Some.line, c.in-Some.rest)) c.in-Some.ensures.cases (lit< tt) in
    more_lines c.args.text.now c.in-Some.line.now c.in-Some.rest.now cut.0 cut.1 cut.2

pub returns-in-None-clause-lines : goal.returns-in-None-clause-lines
returns-in-None-clause-lines c = one_line c.args.text.now (split_once_first 10 c.args.text.now None c.in-None.ensures.cases (lit< tt))
