use Rattle.std.proofs.Common.{◌∙◌}
use Rattle.f2b_mem.proofs.stage.Stage.slot.Goals as goal

pub returns : goal.returns
returns c = rw (← c.self.view_is) (λ events e. c.get.ensures ∙ (c.self.invariant.1 events e).slots c.args.slot)
