use Rattle.std.proofs.Common.{◌-◌, false, ◌+◌, length}
use Rattle.slot_reader.specs.Reads.{OnlyReads}
use Rattle.slot_reader.specs.Windows.{IsAtPlaceOf, Shows}
use Rattle.slot_reader.proofs.reader.item_of.Given as goal

-- the disk was only read, and the window shows what stands in its slot from the same place on
abbrev pub invariant-pieces : goal.invariant-pieces
invariant-pieces g l = record {
  same : IsAtPlaceOf l.initial.shown l.shown;
  shows : Shows l.shown (g.D.Outside.stands l.disk).told;
  reads : OnlyReads false (g.D.Outside.stands l.initial.disk) (g.D.Outside.stands l.disk);
}

abbrev pub decreases-pieces : goal.decreases-pieces
decreases-pieces g l = l.shown.long - (l.shown.place + length l.shown.bytes)
