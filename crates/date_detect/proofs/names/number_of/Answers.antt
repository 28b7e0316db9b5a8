use Rattle.std.proofs.Common.{◌∙◌, sym, option_map, string_bytes}
use Rattle.date_detect.proofs.NameLemmas.{from_zero, not_here}
use Rattle.date_detect.proofs.names.number_of.Goals as goal

pub loop-i-init : goal.loop-i-init
loop-i-init c = from_zero _

pub loop-i-preserved : goal.loop-i-preserved
loop-i-preserved c =
    let hasnt = sym c.is_named.ensures ∙ c.if-is_named.false in
    sym (not_here (option_map string_bytes) c.args.name.now c.args.names.now c.loop-i.i c.index-names-i.result c.loop-i-test.true c.index-names-i.is hasnt)
    ∙ c.loop-i.invariant
