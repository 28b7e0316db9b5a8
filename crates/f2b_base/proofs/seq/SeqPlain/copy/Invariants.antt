use Rattle.std.proofs.Common.{◌≡◌, take}
use Rattle.f2b_base.proofs.seq.SeqPlain.copy.Given as goal

abbrev pub invariant-loop-item : goal.invariant-loop-item
invariant-loop-item g l = l.inner.items ≡ take l.item-index l.item-items
