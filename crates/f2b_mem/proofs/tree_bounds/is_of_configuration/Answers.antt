use Rattle.f2b_mem.proofs.BoundLemmas.{tests_path}
use Rattle.f2b_mem.proofs.tree_bounds.is_of_configuration.Goals as goal

pub returns : goal.returns
returns c = tests_path c.args.path.now c.is_configured.result c.is_configured.ensures
