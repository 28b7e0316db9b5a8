use Rattle.std.proofs.Common.{sym, ◌∙◌, ap}
use Rattle.log_follow.specs.declared.carry.Carry.TheVariants.{Kept}
use Rattle.log_follow.proofs.CarryLemmas.{carry_of-long, carry_of-short}
use Rattle.log_follow.proofs.carry.Carry.of.Goals as goal

pub returns-then-rest-gt-LONGEST-clause-value : goal.returns-then-rest-gt-LONGEST-clause-value
returns-then-rest-gt-LONGEST-clause-value c = sym (carry_of-long c.args.rest.now c.if-rest-gt-LONGEST.true)

pub returns-clause-value : goal.returns-clause-value
returns-clause-value c = ap Kept c.in_ok-from_slice.ensures ∙ sym (carry_of-short c.args.rest.now c.if-rest-gt-LONGEST.false)
