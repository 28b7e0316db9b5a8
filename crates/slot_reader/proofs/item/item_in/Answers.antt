use Rattle.std.proofs.Common.{rules, arith}
use Rattle.std.proofs.lemmas.Grind.{common_steps}
use Rattle.std.proofs.lemmas.List.{length-drop, take_all}
use Rattle.slot_reader.specs.Versions.{spelling}
use Rattle.slot_reader.proofs.FrontLemmas.{item_found}
use Rattle.slot_reader.proofs.item.item_in.Goals as goal

pub returns-in-Ok : goal.returns-in-Ok
returns-in-Ok c =
    item_found (spelling c.args.version) c.args.bytes.now _ c.saturating_sub.result c.in-Ok.input c.in-Ok.rest.now (first_of (search rules, grind (arith, common_steps), grind (arith, take_all, length-drop))) (λ i. omega (arith, c.type_inv.bytes i)) (omega arith)
    (first_of (search rules, grind (arith, common_steps), omega arith)) c.in-Ok.ensures c.saturating_sub.ensures
