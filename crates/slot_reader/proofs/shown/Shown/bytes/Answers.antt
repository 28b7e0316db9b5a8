use Rattle.std.proofs.Common.{subst}
use Rattle.slot_reader.specs.Windows.{IsWithin}
use Rattle.slot_reader.proofs.WindowLemmas.{within_of}
use Rattle.slot_reader.proofs.shown.Shown.bytes.Goals as goal

pub returns-clause-within : goal.returns-clause-within
returns-clause-within c =
    let s = c.self.inside in
    subst IsWithin c.self.view_is (within_of s.slot s.long s.base s.from s.bytes c.self.invariant.1 c.self.invariant.2 c.self.invariant.3)
