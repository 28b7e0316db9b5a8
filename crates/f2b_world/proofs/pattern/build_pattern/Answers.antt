use Rattle.std.proofs.Common.{refl}
use Rattle.f2b_world.proofs.ReadingLemmas.{no_reading, has_reading}
use Rattle.f2b_world.proofs.pattern.build_pattern.Goals as goal

pub returns-in-Ok : goal.returns-in-Ok
returns-in-Ok c =
    let made = c.in-Ok.ensures in
    (made.source, has_reading _ (_, _, rw (made.source, made.config) at made.read))

pub returns-in-Err-Syntax : goal.returns-in-Err-Syntax
returns-in-Err-Syntax c =
    let refused = c.in-Err-Syntax.ensures in
    no_reading _ _ (rw c.in-Err-Syntax.field-0-is at refused.by_grammar _ refl) (rw c.in-Err-Syntax.field-0-is at refused.kind)

pub returns-in-Err-CompiledTooBig : goal.returns-in-Err-CompiledTooBig
returns-in-Err-CompiledTooBig c =
    has_reading _ (rw c.in-Err-CompiledTooBig.field-0-is at c.in-Err-CompiledTooBig.ensures.kind)
