use Rattle.f2b_world.proofs.ReadingLemmas.{has_reading, no_reading}
use Rattle.pattern_fault.proofs.fault.fault_of.Goals as goal

pub returns-in-Ok-clause-none : goal.returns-in-Ok-clause-none
returns-in-Ok-clause-none c = has_reading _ (_, _, rw c.default.ensures at c.in-Ok.ensures.ok)

pub returns-in_default : goal.returns-in_default
returns-in_default c = record {
  none = tt;
  some = no_reading _ _ (rw c.default.ensures at c.in-Err.ensures.err) (λ memory. c.in_default.not-OutOfMemory memory);
  within = c.in-Err.ensures.span.1.0;
}
