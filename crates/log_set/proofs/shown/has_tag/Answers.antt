use Rattle.std.proofs.Common.{◌∙◌}
use Rattle.log_set.proofs.ShownLemmas.{tag_later}
use Rattle.log_set.proofs.shown.has_tag.Goals as goal

pub loop-start-preserved : goal.loop-start-preserved
loop-start-preserved c =
    c.loop-start.invariant ∙ tag_later c.as_bytes-bytes.result.now c.loop-start.start c.loop-start-test.true c.if-begins_with_tag.ensures
