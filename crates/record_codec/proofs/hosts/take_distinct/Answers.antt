use Rattle.std.proofs.Common.{subst, Some}
use Rattle.f2b_base.specs.Addresses.{same_addr}
use Rattle.record_fields.specs.Addresses.{addr}
use Rattle.f2b_model.specs.Lists.{AreDistinct}
use Rattle.record_fields.specs.Lists.{any, is_new}
use Rattle.record_codec.proofs.AllowedLemmas.{new_of_distinct}
use Rattle.record_codec.proofs.DistinctLemmas.{more_asked, when_true}
use Rattle.record_codec.proofs.hosts.take_distinct.Goals as goal

pub returns-then-are_distinct : goal.returns-then-are_distinct
returns-then-are_distinct c =
    more_asked any (is_new same_addr) addr.read (Some c.args.most) c.args.bytes.now (c.in-Ok.hosts, c.in-Ok.rest.now) c.in-Ok.ensures
    (new_of_distinct same_addr c.in-Ok.hosts (subst (AreDistinct same_addr) c.as_slice.ensures (when_true c.are_distinct.result _ c.if-are_distinct.true c.are_distinct.ensures)))
