use Rattle.std.proofs.Common.{nat_lt}
use Rattle.std.specs.Map.{values_of}
use Rattle.ban_table.proofs.TableLemmas.{purged_so}
use Rattle.ban_table.proofs.table.BanTable.purge.Goals as goal

pub invariant_of-self : goal.invariant_of-self
invariant_of-self c =
    let w = c.self.inside in (
      purged_so w.bans.entries w.index w.past.items c.purge.new.past.items (λ p. nat_lt c.args.limit p.end) w.past.room c.purge.new.past.room c.self.invariant.0
          c.purge.ensures.items c.purge.ensures.room,
      c.purge.ensures.counts (values_of w.bans.entries) c.self.invariant.1,
    )
