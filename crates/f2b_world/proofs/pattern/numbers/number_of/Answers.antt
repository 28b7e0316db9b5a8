use Rattle.f2b_world.proofs.NameLemmas.{number_is}
use Rattle.f2b_world.proofs.pattern.numbers.number_of.Goals as goal

pub returns : goal.returns
returns c = number_is _ _ _ c.capture_index.ensures
