use Rattle.std.proofs.Common.{◌+◌, ◌-◌, ◌++◌, ◌∙◌, List, length, take, drop, ap, refl, arith}
use Rattle.log_follow.specs.declared.line.Line.{Line}
use Rattle.log_follow.specs.Lines.{lines_of}
use Rattle.log_follow.proofs.CutLemmas.{take-rest, length-rest}
use Rattle.log_follow.proofs.FollowLemmas.{push_line, push_none}
use Rattle.log_follow.proofs.carry.push_lines.Goals as goal

pub loop-end-preserved : goal.loop-end-preserved
loop-end-preserved c =
    let rest = c.loop-end.rest.now in
    let behind = c.in-Some.end + 1 in
    let next = take (length rest - behind) (drop behind rest) in
    record {
      within = omega (arith, length-rest rest behind);
      lines = ap (λ (lines : List Line). lines ++ lines_of next) c.in_ok-push.ensures.items
          ∙ push_line c.loop-end.lines.items _ c.in_ok-of.field-0 rest _ next c.in-Some.end c.in-Some.ensures.0 c.in-Some.ensures.1
          c.loop-end.invariant.lines c.in_ok-of.ensures refl (take-rest rest behind);
    }

pub returns : goal.returns
returns c = push_none c.loop-end.lines.items _ c.loop-end.rest.now c.in_default.ensures c.loop-end.invariant.lines
