use Rattle.std.proofs.Common.{◌++◌, ◌+◌, ℕ, List, sym, ap, ◌∙◌, arith}
use Rattle.log_follow.proofs.CutLemmas.{take-rest}
use Rattle.log_follow.proofs.DecodeLemmas.{decoded_text, fault_step}
use Rattle.log_follow.proofs.decode.decode.Goals as goal

pub returns-in-Ok : goal.returns-in-Ok
returns-in-Ok c =
    c.in_ok-push_str-in-Ok.ensures.ok
    ∙ ap (λ (back : List ℕ). c.loop-whole.text ++ back) (c.in-Ok.ensures.cases.0 ∙ sym (decoded_text c.loop-whole.rest.now c.in-Ok.ensures.cases.1))
    ∙ c.loop-whole.invariant

pub loop-whole-preserved : goal.loop-whole-preserved
loop-whole-preserved c =
    fault_step c.loop-whole.text c.push_valid.new.text c.push_str-in-Err.new.self _ c.loop-whole.rest.now _ _ c.valid_up_to-end.result _ c.valid_up_to-end.ensures c.in-Err.ensures.cases.1
    c.loop-whole.invariant (grind arith) c.in_ok-push_valid-in-Err.ensures c.in_ok-push_str-in-Err.ensures.ok (take-rest c.loop-whole.rest.now (c.valid_up_to-end.result + 1))
