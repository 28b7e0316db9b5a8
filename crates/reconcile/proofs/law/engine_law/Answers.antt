use Rattle.reconcile.proofs.EngineLemmas.{rest_opens, written_opens, written_on_disk}
use Rattle.reconcile.proofs.StillLemmas.{read_opens, on_still, placed_still}
use Rattle.reconcile.proofs.law.engine_law.Goals as goal

pub returns : goal.returns
returns c = record {
  rests = rest_opens;
  reads = read_opens;
  still = on_still;
  placed = placed_still;
  written = λ e i next ws g es is part. written_opens e i next ws g is.bounds is.on es is.entry part;
  closed = λ e i next ws g es is done. written_on_disk e i next ws g is.bounds is.on es is.entry done;
}
