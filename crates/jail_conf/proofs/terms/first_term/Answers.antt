use Rattle.jail_conf.proofs.TermLemmas.{term-no_unit, term-adds}
use Rattle.jail_conf.proofs.terms.first_term.Goals as goal

pub returns-in-Some-unit_seconds-clause-sum : goal.returns-in-Some-unit_seconds-clause-sum
returns-in-Some-unit_seconds-clause-sum c =
    term-adds c.args.text.now c.cut_digits.result.0.now c.cut_digits.result.1.now c.behind_blanks.result.now c.cut_letters.result.0.now c.cut_letters.result.1.now
    c.in-Some.count c.in-Some-unit_seconds.seconds c.saturating_mul.result c.cut_digits.ensures.whole c.cut_digits.ensures.digits c.cut_digits.ensures.ends
    c.in-Some.ensures c.behind_blanks.ensures.same c.behind_blanks.ensures.front
    c.cut_letters.ensures.whole c.cut_letters.ensures.letters c.cut_letters.ensures.ends c.in-Some-unit_seconds.ensures c.saturating_mul.ensures

pub returns-in-None-clause-none : goal.returns-in-None-clause-none
returns-in-None-clause-none c =
    term-no_unit c.args.text.now c.cut_digits.result.0.now c.cut_digits.result.1.now c.behind_blanks.result.now c.cut_letters.result.0.now c.cut_letters.result.1.now
    c.in-Some.count c.cut_digits.ensures.whole c.cut_digits.ensures.digits c.cut_digits.ensures.ends
    c.in-Some.ensures c.behind_blanks.ensures.same c.behind_blanks.ensures.front
    c.cut_letters.ensures.whole c.cut_letters.ensures.letters c.cut_letters.ensures.ends c.in-None.ensures
