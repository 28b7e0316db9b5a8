use Rattle.std.proofs.Common.{◌≤◌, ◌<◌, Ok, sym, subst, arith}
use Rattle.slot_reader.specs.Readings.{IsChecked}
use Rattle.slot_writes.specs.declared.position.Position.{Position}
use Rattle.ban_journal.specs.Loads.{IsFound}
use Rattle.ban_journal.proofs.FoundLemmas.{first_alone, first_newest, second_newest}
use Rattle.ban_journal.proofs.found.beside_open.Goals as goal

pub returns-in-Empty-clause-found : goal.returns-in-Empty-clause-found
returns-in-Empty-clause-found c = λ now first second.
    subst (λ (p : Position). IsFound c.args.limit now (Ok p)) (sym c.newest.ensures) (first_alone c.args.limit c.args.first now first c.in-Empty.head (subst (IsChecked (now 1)) c.in-Empty.is second))

pub returns-then-second-first-clause-found : goal.returns-then-second-first-clause-found
returns-then-second-first-clause-found c = λ now first second.
    (let lt : c.in-Open.second.generation < c.args.first.generation = omega (arith, c.if-second-first.true) in
    subst (λ (p : Position). IsFound c.args.limit now (Ok p)) (sym c.newest-then-second-first.ensures)
    (first_newest c.args.limit c.args.first now first c.in-Open.second (subst (IsChecked (now 1)) c.in-Open.is second) lt))

pub returns-else-second-first-clause-found : goal.returns-else-second-first-clause-found
returns-else-second-first-clause-found c = λ now first second.
    (let le : c.args.first.generation ≤ c.in-Open.second.generation = omega (arith, c.if-second-first.false) in
    subst (λ (p : Position). IsFound c.args.limit now (Ok p)) (sym c.newest-in-Open.ensures)
    (second_newest c.args.limit c.args.first now first c.in-Open.second (subst (IsChecked (now 1)) c.in-Open.is second) (λ e. omega (arith, e, c.if-first-second.false)) le))
