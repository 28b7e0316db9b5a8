use Rattle.f2b_model.proofs.TakenLemmas.{storable_taken}
use Rattle.reconcile.proofs.engine.Engine.taken.Goals as goal

pub take-requires : goal.take-requires
take-requires g c = storable_taken c.args.input.now c.requires.storable
