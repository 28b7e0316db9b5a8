use Rattle.std.proofs.Common.{◌≡◌, ◌<◌, ◌∙◌, length, arith}
use Rattle.std.proofs.lemmas.Bool.Decides.{nat_tests}
use Rattle.std.proofs.lemmas.Grind.{common_steps}
use Rattle.jail_conf.proofs.TermLemmas.{sum-digits, sum-terms}
use Rattle.jail_conf.proofs.terms.sum.Goals as goal

pub returns-then-is_empty-2 : goal.returns-then-is_empty-2
returns-then-is_empty-2 c =
    let none : length c.behind_blanks.result.now ≡ 0 = grind (arith, common_steps, nat_tests) in
    c.number.ensures
    ∙ sum-digits c.args.text.now c.behind_blanks-front.result.now c.cut_digits.result.0.now c.cut_digits.result.1.now c.behind_blanks.result.now
    c.behind_blanks-front.ensures.same c.cut_digits.ensures.whole c.cut_digits.ensures.digits c.cut_digits.ensures.ends c.behind_blanks.ensures.same none

pub returns : goal.returns
returns c =
    let some : 0 < length c.behind_blanks-front.result.now = grind (arith, common_steps, nat_tests) in
    let more : 0 < length c.behind_blanks.result.now = grind (arith, common_steps, nat_tests) in
    c.sum_of_terms.ensures
    ∙ sum-terms c.args.text.now c.behind_blanks-front.result.now c.cut_digits.result.0.now c.cut_digits.result.1.now c.behind_blanks.result.now
    c.behind_blanks-front.ensures.same c.behind_blanks-front.ensures.front some c.cut_digits.ensures.whole c.cut_digits.ensures.digits c.cut_digits.ensures.ends
    c.behind_blanks.ensures.same c.behind_blanks.ensures.front more
