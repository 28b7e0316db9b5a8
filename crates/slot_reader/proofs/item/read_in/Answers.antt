use Rattle.std.proofs.Common.{IfOk, subst, sym}
use Rattle.record_codec.specs.Fronts.{IsAtFront}
use Rattle.record_codec.specs.Inputs.{input}
use Rattle.slot_reader.specs.declared.version.Version.{Version}
use Rattle.slot_reader.specs.Versions.{spelling}
use Rattle.slot_reader.proofs.RecordLemmas.{input_one, input_two}
use Rattle.slot_reader.proofs.item.read_in.Goals as goal

pub returns-in-One-clause-found : goal.returns-in-One-clause-found
returns-in-One-clause-found c =
    let P : Version → Type 0 = λ v. IfOk c.read_input_v1.result (λ x. (input (spelling v)).Fits x.0 × IsAtFront (input (spelling v)).spell c.args.bytes.now x) in
    subst P (sym c.in-One.is) (input_one c.args.bytes.now c.read_input_v1.result c.read_input_v1.ensures.found)

pub returns-in-Two-clause-found : goal.returns-in-Two-clause-found
returns-in-Two-clause-found c =
    let P : Version → Type 0 = λ v. IfOk c.read_input.result (λ x. (input (spelling v)).Fits x.0 × IsAtFront (input (spelling v)).spell c.args.bytes.now x) in
    subst P (sym c.in-Two.is) (input_two c.args.bytes.now c.read_input.result c.read_input.ensures.found)
