use Rattle.jail_moves.proofs.windows.Windows.failed_lately.Goals as goal

pub returns : goal.returns
returns c = rw (← c.self.view_is) (c.failed_lately.ensures _ _ c.self.invariant.0.windows)
