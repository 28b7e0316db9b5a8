use Rattle.std.proofs.Common.{◌≡◌, ◌++◌, drop}
use Rattle.f2b_mem.specs.Torn.{torn_from}
use Rattle.f2b_mem.proofs.torn.torn_bytes.Given as goal

abbrev pub invariant-loop-index : goal.invariant-loop-index
invariant-loop-index l = l.torn ++ torn_from l.index (drop l.index l.bytes) l.ranges l.left l.fill ≡ torn_from 0 l.bytes l.ranges l.keep l.fill
