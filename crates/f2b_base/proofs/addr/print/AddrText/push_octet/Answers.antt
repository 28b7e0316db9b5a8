-- The digits that are left out are leading zeros.
use Rattle.std.proofs.Common.{◌++◌, ap, ◌∙◌, arith}
use Rattle.f2b_base.proofs.PrintLemmas.{decimal-octet}
use Rattle.f2b_base.proofs.addr.print.AddrText.push_octet.Goals as goal

pub returns-clause-value : goal.returns-clause-value
returns-clause-value c =
    let zeros = c.leading_zeros.ensures in
    c.push.ensures ∙ ap (λ text. c.args.self.now ++ text) (decimal-octet c.args.octet c.leading_zeros.result (omega arith) zeros.high zeros.middle zeros.low)
