use Rattle.std.proofs.Common.{subst}
use Rattle.std.specs.List.{IsDistinct}
use Rattle.std.specs.Ordering.{nat_cmp, eq_by_cmp}
use Rattle.f2b_base.specs.Addresses.{same_addr}
use Rattle.record_codec.specs.Distinct.{addr_key}
use Rattle.record_codec.proofs.DistinctLemmas.{if_true, distinct_by_key, same_key}
use Rattle.record_codec.proofs.distinct.are_distinct.Goals as goal

pub returns-in-Ok : goal.returns-in-Ok
returns-in-Ok c = if_true c.differ.result _ _
    (λ distinct. distinct_by_key same_addr addr_key same_key c.args.hosts.now (subst (IsDistinct (eq_by_cmp nat_cmp)) c.in-Ok.ensures distinct)) c.differ.ensures
