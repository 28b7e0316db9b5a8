use Rattle.std.proofs.Common.{rules}
use Rattle.log_set.proofs.PlaceLemmas.{FitsPlace, placed_well}
use Rattle.log_set.proofs.log.moved_to.Goals as goal

pub returns-else-same_place-clause-storable : goal.returns-else-same_place-clause-storable
returns-else-same_place-clause-storable c =
    let fits : FitsPlace c.args.place = search rules in
    placed_well c.args.place fits
