use Rattle.std.proofs.Common.{◌-◌, length, drop, arith}
use Rattle.std.proofs.lemmas.List.{length-drop, take_all}
use Rattle.slot_reader.proofs.RecordLemmas.{view_read}
use Rattle.slot_reader.proofs.lead.take_view.Goals as goal

pub returns-in-Ok : goal.returns-in-Ok
returns-in-Ok c =
    let bytes = c.args.bytes.now in
    let len = c.in-Ok.len in
    view_read c.args.version bytes c.in-Ok.view len _ (omega arith) c.in-Ok.ensures.found.0 c.in-Ok.ensures.found.1 (take_all (length bytes - len) (drop len bytes) (omega (arith, length-drop len bytes)))
