-- What std's parser says of a text, in the words of `written_addr`.
use Rattle.std.proofs.Common.{sym}
use Rattle.f2b_base.specs.declared.addr.Addr.TheVariants.{V4, V6}
use Rattle.f2b_base.proofs.FormLemmas.{written_addr-IsForm, written_addr_none, IsForm4-IsIpText, IsForm6-IsIpText, no_form}
use Rattle.f2b_base.proofs.addr.Addr.written.Goals as goal

pub returns-in_default-clause-value : goal.returns-in_default-clause-value
returns-in_default-clause-value c = sym (written_addr_none c.args.text.now (no_form c.args.text.now c.in_default.ensures))

pub returns-in_default-clause-none : goal.returns-in_default-clause-none
returns-in_default-clause-none c = no_form c.args.text.now c.in_default.ensures

pub returns-in-V4-clause-value : goal.returns-in-V4-clause-value
returns-in-V4-clause-value c =
    sym (written_addr-IsForm c.args.text.now (V4 c.to_bits.result) (IsForm4-IsIpText _ _ _ _ c.in-V4.is c.to_bits.ensures c.in-Ok.ensures))

pub returns-in-V4-clause-form : goal.returns-in-V4-clause-form
returns-in-V4-clause-form c = IsForm4-IsIpText _ _ _ _ c.in-V4.is c.to_bits.ensures c.in-Ok.ensures

pub returns-in-V6-clause-value : goal.returns-in-V6-clause-value
returns-in-V6-clause-value c =
    sym (written_addr-IsForm c.args.text.now (V6 c.to_bits-in-V6.result) (IsForm6-IsIpText _ _ _ _ c.in-V6.is c.to_bits-in-V6.ensures c.in-Ok.ensures))

pub returns-in-V6-clause-form : goal.returns-in-V6-clause-form
returns-in-V6-clause-form c = IsForm6-IsIpText _ _ _ _ c.in-V6.is c.to_bits-in-V6.ensures c.in-Ok.ensures
