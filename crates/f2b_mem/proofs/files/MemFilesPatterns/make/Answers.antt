use Rattle.std.proofs.Common.{refl, Some}
use Rattle.f2b_mem.specs.Files.{file_in}
use Rattle.f2b_mem.proofs.MadeLemmas.{makes}
use Rattle.f2b_mem.proofs.files.MemFilesPatterns.make.Goals as goal

pub returns-in_default-reserve-clause-event : goal.returns-in_default-reserve-clause-event
returns-in_default-reserve-clause-event c = rw c.reserve.ensures refl

pub returns-clause-event : goal.returns-clause-event
returns-clause-event c =
    makes (Some (file_in c.args.self.now.files)) c.args.self.now.book c.add.new.self c.args.self.now.pattern_faults c.args.self.now.file_faults c.counted-self.result c.args.text.now
    c.made-made.result c.in-Ok.event c.in-Ok.ensures (rw c.reserve.ensures at c.add.ensures.grows) (rw c.is_too_big.ensures at c.counted-self.ensures.value) c.counted-self.ensures.steady
