use Rattle.std.proofs.Common.{◌-◌, length, drop, arith}
use Rattle.std.proofs.lemmas.List.{length-drop, take_all}
use Rattle.slot_reader.proofs.RecordLemmas.{input_read}
use Rattle.slot_reader.proofs.item.take_input.Goals as goal

pub returns-in-Ok : goal.returns-in-Ok
returns-in-Ok c =
    let bytes = c.args.bytes.now in
    let len = c.in-Ok.len in
    input_read c.args.version bytes c.in-Ok.input len _ (omega arith) c.in-Ok.ensures.found.0 c.in-Ok.ensures.found.1 (take_all (length bytes - len) (drop len bytes) (omega (arith, length-drop len bytes)))
