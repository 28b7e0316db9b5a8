use Rattle.std.proofs.Common.{◌-◌, false, List, []}
use Rattle.f2b_base.specs.declared.input.Input.{Input}
use Rattle.f2b_base.specs.declared.view.View.{View}
use Rattle.slot_reader.specs.Reads.{OnlyReads}
use Rattle.slot_reader.specs.Readings.{IsSameSlot, Reads}
use Rattle.slot_reader.specs.Windows.{IsWithin, Shows}
use Rattle.slot_reader.proofs.checked.check_inputs.Given as goal

-- the disk was only read, and the reader has read the slot's start and some inputs
abbrev pub invariant-inputs : goal.invariant-inputs
invariant-inputs g l = record {
  same : IsSameSlot l.initial.reader l.reader;
  within : IsWithin l.reader.shown;
  shows : Shows l.reader.shown (g.D.Outside.stands l.disk).told;
  so_far : (v : View) → Reads l.initial.reader v [] (g.D.Outside.stands l.initial.disk).told → (inputs : List Input) × Reads l.reader v inputs (g.D.Outside.stands l.disk).told;
  reads : OnlyReads false (g.D.Outside.stands l.initial.disk) (g.D.Outside.stands l.disk);
}

abbrev pub decreases-inputs : goal.decreases-inputs
decreases-inputs g l = l.reader.shown.long - l.reader.shown.place
