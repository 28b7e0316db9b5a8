use Rattle.f2b_mem.proofs.StageLemmas.{begins}
use Rattle.f2b_mem.proofs.stage.Stage.new.Goals as goal

pub invariant_of-result : goal.invariant_of-result
invariant_of-result c = (
  c.requires,
  begins c.args.script c.in_ok-progress.progress c.in_ok-copy.field-0 c.in_ok-copy-2.field-0 c.new-2.result c.new-2.ensures c.in_ok-progress.ensures c.in_ok-copy.ensures c.in_ok-copy-2.ensures,
)
