use Rattle.run_start.proofs.FoundLemmas.{stores}
use Rattle.run_start.proofs.found.with_paths.Goals as goal

pub returns-clause-storable : goal.returns-clause-storable
returns-clause-storable c =
    stores c.args.defs.now c.in_ok-jails_with.field-0 c.as_slice.result.now c.args.found.now c.requires.storable c.see_paths.ensures c.requires.few c.as_slice.ensures c.in_ok-jails_with.ensures
