use Rattle.std.proofs.Common.{Option, List, ℕ, ◌∙◌, ap, ap₂, slice_get, slice_index}
use Rattle.f2b_mem.specs.Plays.{giving}
use Rattle.f2b_mem.specs.declared.script.ClientPlan.{ClientPlan}
use Rattle.f2b_mem.proofs.stage.Stage.piece.Goals as goal

pub returns-clause-value : goal.returns-clause-value
returns-clause-value c = rw (← c.self.view_is) (λ events e.
    let plan = c.client_at-plan.ensures ∙ ap (λ (xs : List ClientPlan). slice_get xs c.args.conn) c.as_slice.ensures in
    let given = c.given_at.ensures ∙ ap (λ (xs : List ℕ). slice_index xs c.args.conn) c.as_slice-2.ensures.value ∙ (c.self.invariant.1 events e).given c.args.conn in
    c.giving.ensures.value ∙ ap₂ (λ (p : Option ClientPlan) (n : ℕ). giving p n c.args.max) plan given)
