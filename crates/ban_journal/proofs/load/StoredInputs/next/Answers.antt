use Rattle.std.proofs.Common.{Option, subst}
use Rattle.slot_reader.specs.declared.reader.SlotReader.{SlotReader}
use Rattle.slot_reader.specs.Reads.{content}
use Rattle.ban_journal.specs.Loads.{AreLeftIn}
use Rattle.ban_journal.proofs.load.StoredInputs.next.Goals as goal

pub returns-in-None-clause-given : goal.returns-in-None-clause-given
returns-in-None-clause-given g c = λ left before h told. subst (λ (r : Option SlotReader). AreLeftIn r left (content h)) c.in-None.is (before h told)

pub returns-in-Some-clause-given : goal.returns-in-Some-clause-given
returns-in-Some-clause-given g c = λ left before. c.next_of.ensures.given left (λ h told. subst (λ (r : Option SlotReader). AreLeftIn r left (content h)) c.in-Some.is (before h told))
