use Rattle.ban_journal.specs.Loads.{AreThere}
use Rattle.fault_rows.proofs.stops.views.Given as goal

-- the disk is as it was when the journal was loaded
abbrev pub invariant-inputs : goal.invariant-inputs
invariant-inputs g l = AreThere l.inputs (g.D.Outside.stands l.disk).told
