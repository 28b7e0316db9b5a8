use Rattle.jail_rooms.proofs.jail.Jail.end_due.Goals as goal

pub returns-clause-moved : goal.returns-clause-moved
returns-clause-moved c = record { jail = c.in_ok-end_due.ensures.jail; kept = λ before next le kept. c.in_ok-end_due.ensures.kept before next kept le }
