use Rattle.std.proofs.Common.{◌≡◌, ◌+◌, ◌-◌, ◌++◌, ◌∷◌, List, [], length, take, drop, sym, ap, ◌∙◌, refl}
use Rattle.log_follow.specs.declared.line.Line.{Line}
use Rattle.log_follow.specs.Carried.{carry_of}
use Rattle.log_follow.specs.Lines.{lines_of}
use Rattle.log_follow.proofs.CutLemmas.{take-rest}
use Rattle.log_follow.proofs.FollowLemmas.{new_lines-none, new_lines-made, carries_none, carries_some}
use Rattle.log_follow.proofs.carry.Carry.take.Goals as goal

pub returns-in_default-clause-lines : goal.returns-in_default-clause-lines
returns-in_default-clause-lines c = λ seen carries. c.from.ensures ∙ c.new-lines.ensures.items ∙ sym (new_lines-none seen c.args.bytes.now c.in_default.ensures)

pub returns-in_default-clause-carries : goal.returns-in_default-clause-carries
returns-in_default-clause-carries c = λ seen carries. carries_none c.args.self.now _ seen c.args.bytes.now c.in_default.ensures carries c.in_ok-join.ensures.ok

pub returns-clause-lines : goal.returns-clause-lines
returns-clause-lines c = λ seen carries.
    let behind = c.in-Some.end + 1 in
    let more = take (length c.args.bytes.now - behind) (drop behind c.args.bytes.now) in
    let first : c.push.new.self.items ≡ c.in_ok-line.field-0 ∷ [] =
    c.in_ok-push.ensures.items ∙ ap (λ (lines : List Line). lines ++ c.in_ok-line.field-0 ∷ []) c.new-lines.ensures.items in
    new_lines-made c.args.self.now seen c.args.bytes.now _ more c.in_ok-line.field-0 c.from-2.result c.in-Some.end c.in-Some.ensures.0 c.in-Some.ensures.1 carries
    c.in_ok-line.ensures refl (take-rest c.args.bytes.now behind)
    (c.from-2.ensures ∙ c.in_ok-push_lines.ensures ∙ ap (λ (lines : List Line). lines ++ lines_of more) first)

pub returns-clause-carries : goal.returns-clause-carries
returns-clause-carries c = λ seen carries.
    let behind = c.in-Some.end + 1 in
    let more = take (length c.args.bytes.now - behind) (drop behind c.args.bytes.now) in
    carries_some _ seen c.args.bytes.now more c.in-Some.end c.in-Some.ensures.0.high c.in-Some.ensures.1
    (take-rest c.args.bytes.now behind) (c.in_ok-self.ensures.value ∙ ap carry_of c.behind_last.ensures.value)
