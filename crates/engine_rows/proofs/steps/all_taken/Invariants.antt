use Rattle.ban_journal.specs.Places.{IsPlaced}
use Rattle.engine_rows.proofs.steps.all_taken.Given as goal

-- the slots are as long as the journal knows of them
abbrev pub invariant-steps : goal.invariant-steps
invariant-steps g l = IsPlaced l.engine.journal (g.D.Outside.stands l.disk).told
