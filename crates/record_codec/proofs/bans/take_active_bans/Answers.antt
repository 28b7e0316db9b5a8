use Rattle.std.proofs.Common.{subst, None}
use Rattle.f2b_model.specs.Lists.{AreDistinct}
use Rattle.record_fields.specs.Lists.{is_behind, is_new}
use Rattle.record_codec.specs.Views.{ban, rises, same_banned}
use Rattle.record_codec.proofs.AllowedLemmas.{new_of_distinct}
use Rattle.record_codec.proofs.DistinctLemmas.{more_asked, when_true}
use Rattle.record_codec.proofs.bans.take_active_bans.Goals as goal

pub returns-then-are_of_distinct : goal.returns-then-are_of_distinct
returns-then-are_of_distinct c =
    more_asked (is_behind rises) (is_new same_banned) ban.read None c.args.bytes.now (c.in-Ok.bans, c.in-Ok.rest.now) c.in-Ok.ensures
    (new_of_distinct same_banned c.in-Ok.bans (subst (AreDistinct same_banned) c.as_slice.ensures (when_true c.are_of_distinct.result _ c.if-are_of_distinct.true c.are_of_distinct.ensures)))
