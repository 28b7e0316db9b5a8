use Rattle.std.proofs.Common.{None, lit<, rules}
use Rattle.std.proofs.lemmas.Str.Pattern.{split_once_first}
use Rattle.jail_conf.proofs.NumberLemmas.{thousandths-whole}
use Rattle.jail_conf.proofs.numbers.thousandths.Goals as goal

pub returns-in-None : goal.returns-in-None
returns-in-None c =
    let whole = thousandths-whole c.args.text.now c.number.result (split_once_first 46 c.args.text.now None c.in-None.ensures.cases (lit< tt)) (search rules) in
    search (rules, whole)
