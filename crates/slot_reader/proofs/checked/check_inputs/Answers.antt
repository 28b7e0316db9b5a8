use Rattle.std.proofs.Common.{false, ◌∙◌, sym, subst}
use Rattle.slot_reader.specs.Readings.{TellsNext}
use Rattle.slot_reader.proofs.ReadLemmas.{reads_then}
use Rattle.slot_reader.proofs.ReadingLemmas.{checked_ended, so_far_more, same_slot_then}
use Rattle.slot_reader.proofs.checked.check_inputs.Goals as goal

pub returns-in-Some-clause-checked : goal.returns-in-Some-clause-checked
returns-in-Some-clause-checked g c = λ v given.
    (let x = c.inputs.invariant.so_far v given in
    let told = (g.D.Outside.stands c.next.new.disk).told in
    let tells = subst (TellsNext c.next.new.self v x.0 told) c.in_ok-next.was (c.next.ensures.next v x.0 x.1) in
    checked_ended c.args.reader c.next.new.self v x.0 told c.in_ok-next.next c.in-Some.checked (same_slot_then c.args.reader c.inputs.reader c.next.new.self c.inputs.invariant.same c.next.ensures.same) tells (sym c.ended.ensures ∙ c.in-Some.is))

pub inputs-preserved : goal.inputs-preserved
inputs-preserved g c =
    let none = sym c.ended.ensures ∙ c.in-None.is in
    record {
      same = same_slot_then c.args.reader c.inputs.reader c.next.new.self c.inputs.invariant.same c.next.ensures.same;
      within = c.next.ensures.within;
      shows = c.next.ensures.shows;
      so_far = λ v given.
          (let x = c.inputs.invariant.so_far v given in
          let told = (g.D.Outside.stands c.next.new.disk).told in
          let tells = subst (TellsNext c.next.new.self v x.0 told) c.in_ok-next.was (c.next.ensures.next v x.0 x.1) in
          so_far_more c.next.new.self v x.0 told c.in_ok-next.next tells none);
      reads = reads_then false (g.D.Outside.stands c.args.disk.now) (g.D.Outside.stands c.inputs.disk) (g.D.Outside.stands c.next.new.disk) c.inputs.invariant.reads c.in_ok-next.ensures.reads;
    }
