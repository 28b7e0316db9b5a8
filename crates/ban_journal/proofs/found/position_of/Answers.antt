use Rattle.std.proofs.Common.{subst}
use Rattle.slot_reader.specs.Readings.{IsChecked}
use Rattle.ban_journal.proofs.found.position_of.Goals as goal

pub returns-in-Open-clause-found : goal.returns-in-Open-clause-found
returns-in-Open-clause-found c = λ now first second. c.beside_open.ensures.found now (subst (IsChecked (now 0)) c.in-Open.is first) second
