use Rattle.client_table.proofs.LifeLemmas as lemmas
use Rattle.client_table.proofs.laws.life_law.Goals as goal

pub returns : goal.returns
returns c = lemmas.life_law
