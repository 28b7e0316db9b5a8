use Rattle.std.proofs.Common.{take}
use Rattle.ignore_set.specs.Tables.{HoldAlike}
use Rattle.ignore_set.proofs.ignore_set.IgnoreSet.new.Given as goal

-- the tables hold what the masks so far hold
abbrev pub invariant-loop-mask : goal.invariant-loop-mask
invariant-loop-mask l = HoldAlike (take l.mask-index l.list) l.v4 l.v6
