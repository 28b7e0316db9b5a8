use Rattle.std.proofs.Common.{true, false, [], ◌∷◌}
use Rattle.date_detect.specs.Usual.{all_usual}
use Rattle.date_detect.specs.declared.usual.UsualForm.TheVariants.{Iso, Epoch}
use Rattle.date_detect.proofs.BuildLemmas.{never_syntax}
use Rattle.date_detect.proofs.Literals.{all_read}
use Rattle.date_detect.proofs.build.Dates.build.Goals as goal

pub returns-in-Default-clause-usual : goal.returns-in-Default-clause-usual
returns-in-Default-clause-usual g c = λ _. never_syntax _ _ _ _ (all_read false all_usual) c.usual.ensures.calls

pub returns-in-Anchored-clause-calls : goal.returns-in-Anchored-clause-calls
returns-in-Anchored-clause-calls g c = rw c.in-Anchored.is c.usual-in-Anchored.ensures.calls

pub returns-in-Anchored-clause-usual : goal.returns-in-Anchored-clause-usual
returns-in-Anchored-clause-usual g c = λ _. never_syntax _ _ _ _ (all_read true all_usual) c.usual-in-Anchored.ensures.calls

pub returns-in-Epoch-clause-usual : goal.returns-in-Epoch-clause-usual
returns-in-Epoch-clause-usual g c = λ _. never_syntax _ _ _ _ (all_read false (Epoch ∷ [])) c.usual-in-Epoch.ensures.calls

pub returns-in-Iso-clause-usual : goal.returns-in-Iso-clause-usual
returns-in-Iso-clause-usual g c = λ _. never_syntax _ _ _ _ (all_read false (Iso ∷ [])) c.usual-in-Iso.ensures.calls
