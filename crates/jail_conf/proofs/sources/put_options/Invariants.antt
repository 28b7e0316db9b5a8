use Rattle.std.proofs.Common.{◌≡◌, take}
use Rattle.jail_conf.specs.Sources.{with_options}
use Rattle.jail_conf.proofs.sources.put_options.Given as goal

abbrev pub invariant-loop-option : goal.invariant-loop-option
invariant-loop-option l = l.sections ≡ with_options (take l.option-index l.options) l.fn.sections
