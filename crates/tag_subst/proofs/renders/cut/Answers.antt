use Rattle.std.proofs.Common.{lit<}
use Rattle.f2b_base.proofs.PartLemmas.{parts_at_first, one_part}
use Rattle.tag_subst.proofs.renders.cut.Goals as goal

pub returns-in-Some-clause-parts : goal.returns-in-Some-clause-parts
returns-in-Some-clause-parts c = parts_at_first c.args.text.now c.in-Some.part.now c.in-Some.rest.now (c.in-Some.ensures.byte (lit< tt) (λ w o h. h))

pub returns-in-None-clause-parts : goal.returns-in-None-clause-parts
returns-in-None-clause-parts c = one_part c.args.text.now (c.in-None.ensures.byte (lit< tt) (λ w o h. h))
