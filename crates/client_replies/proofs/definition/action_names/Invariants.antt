use Rattle.std.proofs.Common.{◌≡◌, take}
use Rattle.client_replies.specs.Texts.{action_names}
use Rattle.client_replies.proofs.definition.action_names.Given as goal

-- the names of the actions so far
abbrev pub invariant-loop-action : goal.invariant-loop-action
invariant-loop-action l = l.names ≡ action_names (take l.action-index l.actions)
