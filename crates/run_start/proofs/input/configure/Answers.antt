use Rattle.run_start.proofs.ConfigureLemmas.{first_places}
use Rattle.run_start.proofs.input.configure.Goals as goal

pub returns-clause-places : goal.returns-clause-places
returns-clause-places g c = first_places c.in_ok-clocked.clocked c.core-core.result.now c.core-core.ensures.core c.core-core.ensures.storable
