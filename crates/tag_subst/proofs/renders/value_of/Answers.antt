use Rattle.tag_subst.proofs.FillLemmas.{value_of-none}
use Rattle.tag_subst.proofs.renders.value_of.Goals as goal

pub returns-in_default : goal.returns-in_default
returns-in_default c =
    value_of-none c.args.fill.now c.args.name.now c.in_default.not-ip c.in_default.not-family c.in_default.not-failures c.in_default.not-time
    c.in_default.not-bantime c.in_default.not-bancount c.in_default.not-matches c.in_default.not-br
