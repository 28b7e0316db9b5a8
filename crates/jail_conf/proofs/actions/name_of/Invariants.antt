use Rattle.std.proofs.Common.{◌≡◌, take}
use Rattle.jail_conf.specs.Actions.{name_of}
use Rattle.jail_conf.proofs.actions.name_of.Given as goal

abbrev pub invariant-loop-option : goal.invariant-loop-option
invariant-loop-option l = l.name ≡ name_of (record { name = l.action.name; options = take l.option-index l.action.options })
