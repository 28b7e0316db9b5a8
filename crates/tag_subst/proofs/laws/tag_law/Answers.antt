use Rattle.tag_subst.proofs.StepLemmas.{tag_law}
use Rattle.tag_subst.proofs.laws.tag_law.Goals as goal

pub returns : goal.returns
returns c = tag_law
