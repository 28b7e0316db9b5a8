use Rattle.std.proofs.Common.{◌≡◌, take}
use Rattle.jail_conf.specs.Conf.{but_default}
use Rattle.jail_conf.proofs.configuration.but_default.Given as goal

abbrev pub invariant-loop-name : goal.invariant-loop-name
invariant-loop-name l = l.names ≡ but_default (take l.name-index l.all)
