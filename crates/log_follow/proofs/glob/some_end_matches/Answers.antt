use Rattle.std.proofs.Common.{sym, ◌∙◌}
use Rattle.std.specs.Str.{chars}
use Rattle.log_follow.specs.Globs.{globs}
use Rattle.log_follow.proofs.GlobLemmas.{any_end-whole, ends_at_star}
use Rattle.log_follow.proofs.glob.some_end_matches.Goals as goal

pub returns-in-Whole : goal.returns-in-Whole
returns-in-Whole c = sym (c.loop-behind.invariant.2 ∙ any_end-whole (globs (chars c.loop-behind.pattern.now)) (chars c.loop-behind.name.now) c.in-Whole.ensures)

pub loop-behind-preserved-in-Star : goal.loop-behind-preserved-in-Star
loop-behind-preserved-in-Star c =
    let star = c.in-Star.ensures in
    (star.behind_text, star.left_text, c.loop-behind.invariant.2 ∙ ends_at_star (chars c.loop-behind.pattern.now) (chars c.loop-behind.name.now) (chars c.in-Star.behind.now) (chars c.in-Star.left.now) star.star)
