use Rattle.std.proofs.Common.{IfOk, subst, sym}
use Rattle.record_codec.specs.Fronts.{IsAtFront}
use Rattle.record_codec.specs.Views.{view}
use Rattle.slot_reader.specs.declared.version.Version.{Version}
use Rattle.slot_reader.specs.Versions.{spelling}
use Rattle.slot_reader.proofs.RecordLemmas.{view_one, view_two}
use Rattle.slot_reader.proofs.lead.read_in.Goals as goal

pub returns-in-One-clause-found : goal.returns-in-One-clause-found
returns-in-One-clause-found c =
    let P : Version → Type 0 = λ v. IfOk c.read_view_v1.result (λ x. (view (spelling v)).Fits x.0 × IsAtFront (view (spelling v)).spell c.args.bytes.now x) in
    subst P (sym c.in-One.is) (view_one c.args.bytes.now c.read_view_v1.result c.read_view_v1.ensures.found)

pub returns-in-Two-clause-found : goal.returns-in-Two-clause-found
returns-in-Two-clause-found c =
    let P : Version → Type 0 = λ v. IfOk c.read_view.result (λ x. (view (spelling v)).Fits x.0 × IsAtFront (view (spelling v)).spell c.args.bytes.now x) in
    subst P (sym c.in-Two.is) (view_two c.args.bytes.now c.read_view.result c.read_view.ensures.found)
