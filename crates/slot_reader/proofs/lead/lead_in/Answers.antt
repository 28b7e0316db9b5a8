use Rattle.std.proofs.Common.{rules, arith}
use Rattle.std.proofs.lemmas.Grind.{common_steps}
use Rattle.std.proofs.lemmas.List.{length-drop, take_all}
use Rattle.slot_reader.proofs.FrontLemmas.{lead_found}
use Rattle.slot_reader.proofs.lead.lead_in.Goals as goal

pub returns-in-Ok : goal.returns-in-Ok
returns-in-Ok c =
    lead_found c.args.bytes.now _ c.saturating_sub.result c.in-Ok.begun c.in-Ok.rest.now (first_of (search rules, grind (arith, common_steps), grind (arith, take_all, length-drop))) (λ i. omega (arith, c.type_inv.bytes i)) (omega arith)
    (first_of (search rules, grind (arith, common_steps), omega arith)) c.in-Ok.ensures c.saturating_sub.ensures
