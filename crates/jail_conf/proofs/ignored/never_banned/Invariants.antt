use Rattle.std.proofs.Common.{◌≡◌, ◌++◌, take}
use Rattle.jail_conf.specs.Jails.{loopback}
use Rattle.jail_conf.proofs.ignored.never_banned.Given as goal

abbrev pub invariant-loop-mask : goal.invariant-loop-mask
invariant-loop-mask l = l.all ≡ l.fn.listed ++ (loopback ++ take l.mask-index l.addresses)
