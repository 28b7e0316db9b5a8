use Rattle.f2b_model.proofs.TakenLemmas.{storable_taken}
use Rattle.fault_rows.proofs.stops.after.Goals as goal

pub take-requires : goal.take-requires
take-requires c = storable_taken c.args.input c.requires
