use Rattle.std.proofs.Common.{drop}
use Rattle.jail_conf.specs.Texts.{IsUtf8Action}
use Rattle.f2b_model.specs.Lists.{AllOf}
use Rattle.jail_conf.proofs.texts.see_actions.Given as goal

abbrev pub invariant-loop-action : goal.invariant-loop-action
invariant-loop-action l = AllOf IsUtf8Action (drop l.action-index l.actions) → AllOf IsUtf8Action l.actions
