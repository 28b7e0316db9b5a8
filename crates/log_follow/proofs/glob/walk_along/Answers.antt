use Rattle.std.proofs.Common.{◌<◌, length, sym, ◌∙◌, arith}
use Rattle.log_follow.proofs.GlobLemmas.{comes_to_star, steps_on}
use Rattle.log_follow.proofs.glob.walk_along.Goals as goal

pub returns-then-wanted-eq42 : goal.returns-then-wanted-eq42
returns-then-wanted-eq42 c =
    let i = c.loop-wanted.invariant in
    comes_to_star c.args.pattern.now c.args.name.now c.loop-wanted.pattern.now c.loop-wanted.name.now c.in-Some.behind.now c.in-Some.wanted i.2 c.in-Some.ensures.some
    c.if-wanted-eq42.true c.in-Some.ensures.shorter i.3 i.4 c.in-Some.ensures.text i.1

pub loop-wanted-preserved : goal.loop-wanted-preserved
loop-wanted-preserved c =
    let i = c.loop-wanted.invariant in
    let left : length c.in-Some-first.left.now < length c.loop-wanted.name.now = c.in-Some-first.ensures.shorter in (
      c.in-Some.ensures.text,
      c.in-Some-first.ensures.text,
      steps_on c.args.pattern.now c.args.name.now c.loop-wanted.pattern.now c.loop-wanted.name.now c.in-Some.behind.now c.in-Some.wanted i.2 c.in-Some.ensures.some
          c.in-Some-first.left.now c.in-Some-first.found c.if-wanted-eq42.false c.in-Some-first.ensures.some (sym c.stands_for.ensures ∙ c.if-stands_for.true),
      omega (arith, c.in-Some.ensures.shorter, i.3),
      omega (arith, i.4),
    )
