use Rattle.std.proofs.Common.{◌∙◌, sym, arith}
use Rattle.std.proofs.lemmas.Str.{IsCharBoundary-after_ascii}
use Rattle.std.proofs.lemmas.Bool.{eqb-true}
use Rattle.log_follow.proofs.ExpandLemmas.{behind_last, to_last, behind_none, to_none}
use Rattle.log_follow.proofs.expand.cut.Goals as goal

pub split_at-requires : goal.split_at-requires
split_at-requires c =
    let found = rw c.as_bytes.ensures.value at c.in-Some.ensures in
    IsCharBoundary-after_ascii c.args.path.now c.in-Some.end c.utf8.path found.0.high (omega (arith, eqb-true _ _ found.1))

pub returns-in-Some-clause-front : goal.returns-in-Some-clause-front
returns-in-Some-clause-front c =
    let found = rw c.as_bytes.ensures.value at c.in-Some.ensures in
    c.split_at.ensures.front ∙ sym (to_last c.args.path.now c.in-Some.end found.0 found.1)

pub returns-in-Some-clause-back : goal.returns-in-Some-clause-back
returns-in-Some-clause-back c =
    let found = rw c.as_bytes.ensures.value at c.in-Some.ensures in
    c.split_at.ensures.back ∙ sym (behind_last c.args.path.now c.in-Some.end found.0 found.1)

pub returns-in-None-clause-front : goal.returns-in-None-clause-front
returns-in-None-clause-front c = sym (to_none c.args.path.now (rw c.as_bytes.ensures.value at c.in-None.ensures))

pub returns-in-None-clause-back : goal.returns-in-None-clause-back
returns-in-None-clause-back c = sym (behind_none c.args.path.now (rw c.as_bytes.ensures.value at c.in-None.ensures))
