use Rattle.std.proofs.Common.{◌≡◌, length, arith}
use Rattle.std.proofs.lemmas.Bool.Decides.{nat_tests}
use Rattle.std.proofs.lemmas.Grind.{common_steps}
use Rattle.jail_conf.proofs.TermLemmas.{sum-more, sum-end}
use Rattle.jail_conf.proofs.terms.sum_of_terms.Goals as goal

pub terms-preserved : goal.terms-preserved
terms-preserved c = record {
  sum = sum-more c.args.text.now c.terms.left.now c.in-Some.rest.now c.behind_blanks-left-in-terms.result.now c.terms.seconds c.in-Some.term c.saturating_add-seconds.result
      c.terms.invariant.sum c.in-Some.ensures.sum c.behind_blanks-left-in-terms.ensures.same c.saturating_add-seconds.ensures;
  fits = omega (arith, c.saturating_add-seconds.ensures);
  front = c.behind_blanks-left-in-terms.ensures.front;
}

pub returns : goal.returns
returns c =
    let empty : length c.terms.left.now ≡ 0 = grind (arith, common_steps, nat_tests) in
    sum-end c.args.text.now c.terms.left.now c.terms.seconds c.terms.invariant.sum empty c.terms.invariant.fits
