-- Nothing may be old, or what is goes.
use Rattle.std.proofs.Common.{sym, ◌∙◌}
use Rattle.jail_moves.proofs.StaleLemmas.{none_stale, not_before_stale}
use Rattle.jail_moves.proofs.windows.Windows.sweep.Goals as goal

pub returns-then-is_recent-clause-none : goal.returns-then-is_recent-clause-none
returns-then-is_recent-clause-none c = λ fewer.
    rw (← c.self.view_is) (none_stale c.self.inside.findtime c.self.inside.maxretry c.args.moment c.self.inside.by_addr.entries c.self.invariant.0.windows
    (not_before_stale c.self.inside.findtime c.args.moment c.self.inside.earliest c.self.inside.by_addr.entries (sym c.is_recent.ensures ∙ c.if-is_recent.true) c.self.invariant.1))

pub invariant_of-self : goal.invariant_of-self
invariant_of-self c = ((c.drop_stale-dropped.ensures.sweeps c.self.inside.maxretry c.self.invariant.0).held, c.earliest-self-inside.ensures)

pub invariant_of-self-else-dropped-most : goal.invariant_of-self-else-dropped-most
invariant_of-self-else-dropped-most c = (
  (c.drop_stale-dropped.ensures.sweeps c.self.inside.maxretry c.self.invariant.0).held,
  c.drop_stale-dropped.ensures.latest c.self.inside.earliest c.self.invariant.1,
)

pub returns-then-dropped-most-clause-recent : goal.returns-then-dropped-most-clause-recent
returns-then-dropped-most-clause-recent c = rw (← c.self.view_is) ((c.drop_stale-dropped.ensures.sweeps c.self.inside.maxretry c.self.invariant.0).recent)

pub returns-then-dropped-most-clause-times : goal.returns-then-dropped-most-clause-times
returns-then-dropped-most-clause-times c = rw (← c.self.view_is) ((c.drop_stale-dropped.ensures.sweeps c.self.inside.maxretry c.self.invariant.0).times)

pub returns-then-dropped-most-clause-left : goal.returns-then-dropped-most-clause-left
returns-then-dropped-most-clause-left c = rw (← c.self.view_is) (c.drop_stale-dropped.ensures.left c.self.inside.maxretry c.self.invariant.0)

pub returns-then-dropped-most-clause-none : goal.returns-then-dropped-most-clause-none
returns-then-dropped-most-clause-none c = rw (← c.self.view_is) (c.drop_stale-dropped.ensures.none c.self.inside.maxretry c.self.invariant.0)

pub returns-else-dropped-most-clause-recent : goal.returns-else-dropped-most-clause-recent
returns-else-dropped-most-clause-recent c = rw (← c.self.view_is) ((c.drop_stale-dropped.ensures.sweeps c.self.inside.maxretry c.self.invariant.0).recent)

pub returns-else-dropped-most-clause-times : goal.returns-else-dropped-most-clause-times
returns-else-dropped-most-clause-times c = rw (← c.self.view_is) ((c.drop_stale-dropped.ensures.sweeps c.self.inside.maxretry c.self.invariant.0).times)

pub returns-else-dropped-most-clause-left : goal.returns-else-dropped-most-clause-left
returns-else-dropped-most-clause-left c = rw (← c.self.view_is) (c.drop_stale-dropped.ensures.left c.self.inside.maxretry c.self.invariant.0)
