use Rattle.std.proofs.Common.{◌<◌, ◌∙◌, ap, length, arith, slice_set}
use Rattle.std.proofs.lemmas.List.Edits.{map_over_more}
use Rattle.f2b_mem.specs.Commands.{asked}
use Rattle.f2b_mem.specs.declared.commands.Running.{Running}
use Rattle.f2b_mem.proofs.commands.ask.Goals as goal

pub loop-index-preserved : goal.loop-index-preserved
loop-index-preserved c =
    let lt : c.loop-index.index < length c.args.running.now.items = omega (arith, c.loop-index-test.true, c.len-index-end.ensures) in
    ap (λ (x : Running). slice_set c.loop-index.running.items c.loop-index.index x) c.asked.ensures
    ∙ map_over_more (asked c.args.job) c.args.running.now.items c.loop-index.running.items c.loop-index.index c.index.result.now lt c.loop-index.invariant c.index.ensures
