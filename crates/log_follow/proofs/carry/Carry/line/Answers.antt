use Rattle.log_follow.proofs.CarryLemmas.{line_after_none, line_after_kept, line_after_long}
use Rattle.log_follow.proofs.carry.Carry.line.Goals as goal

pub returns-in-Kept : goal.returns-in-Kept
returns-in-Kept c = line_after_none c.args.self.now c.in-Kept.kept c.args.front.now c.of.result c.in-Kept.is c.if-is_empty.ensures c.of.ensures

pub returns-in_ok-push_slice-in-Kept-2 : goal.returns-in_ok-push_slice-in-Kept-2
returns-in_ok-push_slice-in-Kept-2 c =
    line_after_kept c.args.self.now c.in-Kept.kept c.args.front.now c.as_slice-in-Kept-2.result.now c.of-in-Kept-2.result c.in-Kept.is
    (cc (c.in_ok-push_slice-in-Kept-2.ensures.ok, c.in_ok-part-in-Kept-2.ensures))
    c.of-in-Kept-2.ensures

pub returns-in-Long : goal.returns-in-Long
returns-in-Long c = λ rest is. line_after_long c.args.self.now rest c.args.front.now c.in-Long.field-0 c.in-Long.is is
