use Rattle.std.proofs.Common.{ℕ}
use Rattle.jail_moves.specs.Addresses.{AreNotBefore, IsHeld}
use Rattle.jail_moves.proofs.SweepLemmas.{AreDropped}
use Rattle.jail_moves.proofs.sweep.drop_stale.Given as goal

abbrev pub invariant-loop-dropped : goal.invariant-loop-dropped
invariant-loop-dropped l = record {
  dropped : (maxretry : ℕ) → IsHeld l.findtime maxretry l.initial.windows.entries
      → AreDropped l.findtime maxretry l.now l.dropped l.from l.initial.windows.entries l.windows.entries;
  latest : (time : ℕ) → AreNotBefore time l.initial.windows.entries → AreNotBefore time l.windows.entries;
}
