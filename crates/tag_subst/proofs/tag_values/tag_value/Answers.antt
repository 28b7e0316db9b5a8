use Rattle.std.proofs.Common.{None, lit<}
use Rattle.std.proofs.lemmas.Str.Pattern.{split_once_first}
use Rattle.tag_subst.proofs.ValueLemmas.{tag_value-plain}
use Rattle.tag_subst.proofs.tag_values.tag_value.Goals as goal

pub returns-in_default-clause-ok : goal.returns-in_default-clause-ok
returns-in_default-clause-ok c =
    let none = split_once_first 47 c.args.tag.now None c.in_default.ensures.cases (lit< tt) in
    rw (tag_value-plain c.args.sections.now c.args.scope.now c.args.tag.now none) c.value.ensures.ok

pub returns-in_default-clause-fault : goal.returns-in_default-clause-fault
returns-in_default-clause-fault c =
    let none = split_once_first 47 c.args.tag.now None c.in_default.ensures.cases (lit< tt) in
    rw (tag_value-plain c.args.sections.now c.args.scope.now c.args.tag.now none) c.value.ensures.fault
