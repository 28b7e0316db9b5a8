-- What was read is what the text spells.
use Rattle.std.proofs.Common.{Some, None, sym, ap, ◌∙◌, option_map}
use Rattle.f2b_base.specs.Masks.{alone}
use Rattle.f2b_base.proofs.MaskLemmas.{read_cidr-split, spelled_mask, no_mask}
use Rattle.f2b_base.proofs.addr.Cidr.read.Goals as goal

pub returns-in_err-addr-in-None-clause-none : goal.returns-in_err-addr-in-None-clause-none
returns-in_err-addr-in-None-clause-none c =
    let value = c.from_residual.ensures ∙ ap (option_map alone) c.in_err-addr-in-None.ensures.value ∙ sym (read_cidr-split c.args.text.now None c.in-None.ensures.value) in
    no_mask c.args.text.now c.from_residual.result value

pub returns-in-Some-clause-spelled : goal.returns-in-Some-clause-spelled
returns-in-Some-clause-spelled c =
    let value = c.read_masked.ensures.value ∙ sym (read_cidr-split c.args.text.now (Some c.in-Some.place) c.in-Some.ensures.value) in
    spelled_mask c.args.text.now c.read_masked.result value

pub returns-in-Some-clause-none : goal.returns-in-Some-clause-none
returns-in-Some-clause-none c =
    let value = c.read_masked.ensures.value ∙ sym (read_cidr-split c.args.text.now (Some c.in-Some.place) c.in-Some.ensures.value) in
    no_mask c.args.text.now c.read_masked.result value
