use Rattle.std.proofs.Common.{ℕ, ◌≤◌}
use Rattle.f2b_model.specs.Lists.{AllOf}
use Rattle.jail_moves.specs.declared.addresses.AddrWindow.{AddrWindow}
use Rattle.jail_moves.specs.Addresses.{AreNotBefore}
use Rattle.jail_moves.proofs.sweep.earliest.Given as goal

abbrev pub invariant-loop-window : goal.invariant-loop-window
invariant-loop-window l =
    (time : ℕ) → time ≤ l.earliest → AllOf (λ (w : AddrWindow). time ≤ w.latest) l.window-iterator → AreNotBefore time l.windows.entries
