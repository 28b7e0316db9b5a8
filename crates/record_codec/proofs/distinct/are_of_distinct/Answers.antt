use Rattle.std.proofs.Common.{subst, sym}
use Rattle.std.specs.List.{IsDistinct}
use Rattle.std.specs.Ordering.{nat_cmp, eq_by_cmp}
use Rattle.f2b_base.specs.declared.ban.Ban.{Ban}
use Rattle.record_codec.specs.Distinct.{addr_key}
use Rattle.record_codec.specs.Views.{same_banned}
use Rattle.record_codec.proofs.DistinctLemmas.{if_true, distinct_by_key, same_key}
use Rattle.record_codec.proofs.distinct.are_of_distinct.Goals as goal

pub returns-in-Ok : goal.returns-in-Ok
returns-in-Ok c = if_true c.differ.result _ _
    (λ distinct. distinct_by_key same_banned (λ (b : Ban). addr_key b.addr) (λ x y e. sym (same_key y.addr x.addr e)) c.args.bans.now (subst (IsDistinct (eq_by_cmp nat_cmp)) c.in-Ok.ensures distinct)) c.differ.ensures
