use Rattle.std.proofs.Common.{[], ap, arith}
use Rattle.std.specs.Map.{values_of}
use Rattle.ban_table.proofs.CountLemmas.{count_is}
use Rattle.ban_table.proofs.table.BanTable.new.Goals as goal

pub invariant_of-result : goal.invariant_of-result
invariant_of-result c = (
  rw (c.new.ensures.empty) (record { keyed = tt; rising = tt; once = tt; found = c.new-2.ensures; room = rw (c.new-3.ensures) (omega arith) }),
  count_is c.new-4.result [] (values_of c.new.result.entries) [] c.new-3.result.items c.new-4.ensures (ap (λ es. values_of es) c.new.ensures.empty) c.new-3.ensures,
)
