use Rattle.std.proofs.Common.{◌∙◌, None, lit<}
use Rattle.std.proofs.lemmas.Result.{IfOk-weaker}
use Rattle.std.proofs.lemmas.Str.Pattern.{split_once_first}
use Rattle.ini_interp.proofs.ScopeLemmas.{raw_in-plain}
use Rattle.ini_interp.proofs.values.raw_of.Goals as goal

pub returns-in-None : goal.returns-in-None
returns-in-None c =
    IfOk-weaker c.found_in.result _ _
    (λ found is. is ∙ raw_in-plain c.args.sections.now c.args.scope.now c.args.reference.now (split_once_first 47 c.args.reference.now None c.in-None.ensures.cases (lit< tt)))
    c.found_in.ensures
