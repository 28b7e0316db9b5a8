use Rattle.std.proofs.Common.{ap, rules, arith}
use Rattle.std.proofs.lemmas.Iterator.{YieldsList-from_chars}
use Rattle.std.proofs.lemmas.Iterator.Consumers.{YieldsList-turn, YieldsList-end}
use Rattle.std.specs.Str.{chars}
use Rattle.date_words.specs.Directives.{times_in, times}
use Rattle.date_words.proofs.CharLemmas.{times_more, left_none}
use Rattle.date_words.proofs.pattern.times.Goals as goal

pub loop-c-init : goal.loop-c-init
unfolding times
loop-c-init c = (search rules, omega arith)

pub loop-c-preserved : goal.loop-c-preserved
loop-c-preserved c =
    let turn = YieldsList-turn (YieldsList-from_chars c.args.text.now c.utf8.text cc) c.loop-c.yielded _ c.loop-c.yielded_by _ _ c.in-Some.c c.in-Some.is c.next.ensures.steps in
    let more = times_more _ _ _ turn c.args.letter c.loop-c.after in
    let sum = c.saturating_add-count.ensures in
    (rw c.opens-after.ensures (omega (arith, more, c.loop-c.invariant.0, c.one_if.ensures, sum)), omega (arith, sum))

pub returns : goal.returns
returns c =
    let end = YieldsList-end (YieldsList-from_chars c.args.text.now c.utf8.text cc) c.loop-c.yielded _ c.loop-c.yielded_by _ _ c.in-None.is c.next.ensures.steps in
    let none = left_none (chars c.args.text.now) c.loop-c.yielded (omega (arith, end.1)) in
    omega (arith, c.loop-c.invariant.0, c.loop-c.invariant.1, ap (times_in c.args.letter c.loop-c.after) none)
