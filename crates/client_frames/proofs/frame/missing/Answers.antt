use Rattle.std.proofs.Common.{◌∙◌, sym, arith}
use Rattle.client_frames.proofs.FrameLemmas.{missing_none, missing_some, none_said, said_below, some_said, some_within}
use Rattle.client_frames.proofs.frame.missing.Goals as goal

pub overflow_sub-result : goal.overflow_sub-result
overflow_sub-result c = omega (arith, none_said c.args.came.now (sym c.said_length.ensures ∙ c.in-None.is))

pub overflow_cast-result : goal.overflow_cast-result
overflow_cast-result c = omega (arith, none_said c.args.came.now (sym c.said_length.ensures ∙ c.in-None.is))

pub overflow_sub-result-in-Some : goal.overflow_sub-result-in-Some
overflow_sub-result-in-Some c = some_within c.args.came.now c.in-Some.count (sym c.said_length.ensures ∙ c.in-Some.is) c.requires

pub overflow_cast-result-in-Some-2 : goal.overflow_cast-result-in-Some-2
overflow_cast-result-in-Some-2 c =
    let said = sym c.said_length.ensures ∙ c.in-Some.is in
    omega (arith, said_below c.args.came.now c.in-Some.count (λ i. (c.type_inv.came i).fits) said, (some_said c.args.came.now c.in-Some.count said).long)

pub returns-in-None : goal.returns-in-None
returns-in-None c = sym (missing_none c.args.came.now (sym c.said_length.ensures ∙ c.in-None.is))

pub returns-in-Some : goal.returns-in-Some
returns-in-Some c = sym (missing_some c.args.came.now c.in-Some.count (sym c.said_length.ensures ∙ c.in-Some.is))
