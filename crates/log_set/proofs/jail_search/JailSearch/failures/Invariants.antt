use Rattle.std.proofs.Common.{◌≡◌, take}
use Rattle.f2b_model.specs.Lists.{AllOf}
use Rattle.f2b_model.specs.Storable.{IsStorableFailure}
use Rattle.log_set.specs.Searches.{failures_by}
use Rattle.log_set.proofs.jail_search.JailSearch.failures.Given as goal

abbrev pub invariant-loop-line : goal.invariant-loop-line
invariant-loop-line l = record {
  same : l.self ≡ l.initial.self;
  found : l.found ≡ failures_by l.fn.self l.now (take l.line-index l.lines);
  storable : AllOf IsStorableFailure l.found;
}
