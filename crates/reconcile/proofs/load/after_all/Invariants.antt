use Rattle.std.proofs.Common.{◌≡◌, false, List}
use Rattle.f2b_base.specs.declared.input.Input.{Input}
use Rattle.f2b_model.specs.Storable.{IsStorable}
use Rattle.ban_journal.specs.Loads.{AreLeft, AreThere, bytes_left}
use Rattle.slot_reader.specs.Reads.{OnlyReads, content}
use Rattle.reconcile.specs.Opens.{WhereTold}
use Rattle.reconcile.proofs.LoadLemmas.{IsPartTaken}
use Rattle.reconcile.proofs.load.after_all.Given as goal

-- the disk was only read, and the core is that after the inputs that were taken so far
abbrev pub invariant-inputs : goal.invariant-inputs
invariant-inputs g l = record {
  there : AreThere l.inputs (g.D.Outside.stands l.disk).told;
  storable : IsStorable l.core;
  taken : (all : List Input) → WhereTold (g.D.Outside.stands l.initial.disk).told (λ h. AreLeft l.fn.inputs all (content h))
      → WhereTold (g.D.Outside.stands l.disk).told (λ h. IsPartTaken l.fn.core all l.core l.inputs (content h));
  reads : OnlyReads false (g.D.Outside.stands l.initial.disk) (g.D.Outside.stands l.disk);
}

abbrev pub decreases-inputs : goal.decreases-inputs
decreases-inputs g l = bytes_left l.inputs
