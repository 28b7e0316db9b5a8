use Rattle.std.proofs.Common.{◌∙◌, sym, rules}
use Rattle.log_set.proofs.FailureLemmas.{FitsFamily, failed_well}
use Rattle.log_set.proofs.jail_search.JailSearch.failure.Goals as goal

pub returns-clause-storable : goal.returns-clause-storable
returns-clause-storable c =
    let fits : FitsFamily c.in-Failure.addr = search rules in
    failed_well _ _ _ _ _ _ _ _ _ (sym c.in-Failure.is ∙ c.in_ok-finding.ensures.found) c.requires fits c.in_ok-line.ensures.short
