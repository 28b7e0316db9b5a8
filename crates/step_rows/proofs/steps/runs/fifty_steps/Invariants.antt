-- The one that is made anew can be stored.
use Rattle.step_rows.proofs.steps.runs.fifty_steps.Given as goal

abbrev pub invariant-loop : goal.invariant-loop
invariant-loop g l = g.S.Takes.is_storable l.pair.again
