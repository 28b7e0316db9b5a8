use Rattle.std.proofs.Common.{Ok, sym, subst}
use Rattle.slot_reader.specs.Readings.{IsChecked}
use Rattle.slot_writes.specs.declared.position.Position.{Position}
use Rattle.ban_journal.specs.Loads.{IsFound}
use Rattle.ban_journal.proofs.FoundLemmas.{none_found, second_found}
use Rattle.ban_journal.proofs.found.beside_empty.Goals as goal

pub returns-in-Empty-clause-found : goal.returns-in-Empty-clause-found
returns-in-Empty-clause-found c = λ now first second. none_found c.args.limit c.args.head now first c.in-Empty.other (subst (IsChecked (now 1)) c.in-Empty.is second)

pub returns-in-Open-clause-found : goal.returns-in-Open-clause-found
returns-in-Open-clause-found c = λ now first second.
    subst (λ (p : Position). IsFound c.args.limit now (Ok p)) (sym c.newest.ensures) (second_found c.args.limit c.args.head now first c.in-Open.second (subst (IsChecked (now 1)) c.in-Open.is second))
