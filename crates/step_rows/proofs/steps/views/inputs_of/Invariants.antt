-- All so far are taken.
use Rattle.f2b_model.specs.Bounds.{IsTakenInput}
use Rattle.f2b_model.specs.Lists.{AllOf}
use Rattle.step_rows.proofs.steps.views.inputs_of.Given as goal

abbrev pub invariant-rows : goal.invariant-rows
invariant-rows l = AllOf IsTakenInput l.inputs
