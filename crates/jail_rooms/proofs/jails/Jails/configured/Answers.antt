use Rattle.jail_rooms.proofs.jails.Jails.configured.Goals as goal

pub invariant_of-result : goal.invariant_of-result
invariant_of-result c = (c.self.invariant.0, c.in_ok-jails.ensures.kept c.self.inside.at c.self.inside.next_ban c.self.invariant.1)
