-- What `parse` gives, in the words of `read_bits`.
use Rattle.std.proofs.Common.{◌<◌, length, get_or, sym, subst, ◌∙◌, arith}
use Rattle.std.specs.Str.Parse.{ParsesUnsigned}
use Rattle.f2b_base.proofs.BitsLemmas.{read_bits_not_plain, read_bits_not_utf8, read_bits-parsed}
use Rattle.f2b_base.proofs.addr.mask.read_bits.Goals as goal
use Rattle.f2b_base.proofs.addr.mask.read_bits.Goals.{else-text-gt1-via-then-text-gt1+else-text-le48, else-text-gt1-via-else-text-gt1}

pub returns-then-text-le48 : goal.returns-then-text-le48
returns-then-text-le48 c = sym (read_bits_not_plain c.args.text.now c.if-text-gt1.true c.if-text-le48.true)

pub returns-in_default : goal.returns-in_default
returns-in_default c = sym (read_bits_not_utf8 c.args.text.now c.in_default.ensures.cases.0)

pub returns : goal.returns
returns c =
    let plain : 1 < length c.args.text.now → 48 < get_or c.args.text.now 0 0 = λ long.
    elim c.else-text-gt1.branch [
      | else-text-gt1-via-then-text-gt1+else-text-le48 w ↦ omega arith
      | else-text-gt1-via-else-text-gt1 w ↦ omega arith
    ] in
    let parsed = subst (λ text. ParsesUnsigned 8 10 text c.parse.result) c.in-Ok.ensures.cases.0 c.parse.ensures.value.0 in
    c.ok.ensures.value ∙ read_bits-parsed c.args.text.now c.parse.result plain parsed
