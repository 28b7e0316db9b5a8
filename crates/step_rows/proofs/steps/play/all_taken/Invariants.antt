-- What took inputs can be stored.
use Rattle.step_rows.proofs.steps.play.all_taken.Given as goal

abbrev pub invariant-inputs : goal.invariant-inputs
invariant-inputs g l = g.M.Takes.is_storable l.machine
