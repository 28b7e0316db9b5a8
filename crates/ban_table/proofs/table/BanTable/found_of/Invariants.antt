use Rattle.std.proofs.Common.{◌≡◌, Some, take}
use Rattle.std.specs.List.{filter}
use Rattle.f2b_model.specs.Steps.{is_meant}
use Rattle.ban_table.proofs.FoundLemmas.{keyed_by_serial}
use Rattle.ban_table.proofs.table.BanTable.found_of.Given as goal

abbrev pub invariant-loop-addr : goal.invariant-loop-addr
invariant-loop-addr l = l.found.entries ≡ keyed_by_serial (filter (is_meant (Some (take l.addr-index l.addrs))) l.self.active)
