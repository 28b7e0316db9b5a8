use Rattle.client_frames.proofs.CutLemmas.{cut_law}
use Rattle.client_frames.proofs.laws.cut_law.Goals as goal

pub returns : goal.returns
returns c = cut_law
