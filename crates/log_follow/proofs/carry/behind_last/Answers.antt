use Rattle.std.proofs.Common.{sym, ◌∙◌, ◌+◌}
use Rattle.log_follow.proofs.PieceLemmas.{rest-open}
use Rattle.log_follow.proofs.CutLemmas.{all_open, rest-last, take-rest}
use Rattle.log_follow.proofs.carry.behind_last.Goals as goal

pub returns-in-Some-clause-value : goal.returns-in-Some-clause-value
returns-in-Some-clause-value c = take-rest c.args.bytes.now (c.in-Some.end + 1) ∙ sym (rest-last c.args.bytes.now c.in-Some.end c.in-Some.ensures.0 c.in-Some.ensures.1)

pub returns-in-None-clause-value : goal.returns-in-None-clause-value
returns-in-None-clause-value c = sym (rest-open c.args.bytes.now (all_open c.args.bytes.now c.in-None.ensures))
