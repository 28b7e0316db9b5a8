use Rattle.std.proofs.Common.{Option, false, Ok, subst}
use Rattle.std.specs.Prelude.{IfSome}
use Rattle.std.proofs.lemmas.Result.{err_from_is_err_and}
use Rattle.f2b_base.specs.declared.input.Input.{Input}
use Rattle.f2b_model.specs.Storable.{IsStorableInput}
use Rattle.slot_reader.proofs.ReadLemmas.{reads_same, reads_then}
use Rattle.reconcile.proofs.LoadLemmas.{Gives, none_taken, then_taken, then_ended, then_failed}
use Rattle.reconcile.proofs.load.after_all.Goals as goal

pub inputs-init : goal.inputs-init
inputs-init g c = record {
  there = c.requires.there;
  storable = c.requires.storable;
  taken = λ all left. none_taken c.args.core c.args.inputs (g.D.Outside.stands c.args.disk.now).told all left;
  reads = reads_same (g.D.Outside.stands c.args.disk.now);
}

pub inputs-preserved : goal.inputs-preserved
inputs-preserved g c =
    let a = g.D.Outside.stands c.inputs.disk in
    let b = g.D.Outside.stands c.next.new.disk in
    let given = subst (λ (x : Option Input). Gives c.inputs.inputs c.next.new.self a.told b.told (Ok x)) c.in-Some.is c.in_ok-input.ensures.given in
    let storable = subst (λ (x : Option Input). IfSome x IsStorableInput) c.in-Some.is c.in_ok-input.ensures.storable in
    record {
      there = c.next.ensures.there;
      storable = c.in_ok-core-in-Some.ensures.storable c.inputs.invariant.storable;
      taken = λ all left.
          then_taken c.args.core c.inputs.core all c.inputs.inputs c.next.new.self false a b c.in_ok-input.ensures.reads (c.inputs.invariant.taken all left) c.in_ok-core-in-Some.core c.in-Some.input given c.in_ok-core-in-Some.ensures.core
          storable;
      reads = reads_then false (g.D.Outside.stands c.args.disk.now) a b c.inputs.invariant.reads c.in_ok-input.ensures.reads;
    }

pub returns-in_err-input-clause-taken : goal.returns-in_err-input-clause-taken
returns-in_err-input-clause-taken g c = λ left first.
    (let a = g.D.Outside.stands c.inputs.disk in
    let b = g.D.Outside.stands c.next.new.disk in
    let p = err_from_is_err_and c.from_residual.result c.from_residual.ensures.1 in
    rw (p.1, p.2) (then_failed c.args.core c.inputs.core left c.inputs.inputs c.next.new.self _ a b c.in_err-input.ensures.reads (c.inputs.invariant.taken left first) _ c.in_err-input.ensures.given))

pub returns-in_err-input-clause-reads : goal.returns-in_err-input-clause-reads
returns-in_err-input-clause-reads g c =
    let a = g.D.Outside.stands c.inputs.disk in
    let b = g.D.Outside.stands c.next.new.disk in
    let p = err_from_is_err_and c.from_residual.result c.from_residual.ensures.1 in
    rw (p.1, p.2) (reads_then _ (g.D.Outside.stands c.args.disk.now) a b c.inputs.invariant.reads c.in_err-input.ensures.reads)

pub returns-in_err-core-in-Some-clause-reads : goal.returns-in_err-core-in-Some-clause-reads
returns-in_err-core-in-Some-clause-reads g c =
    let a = g.D.Outside.stands c.inputs.disk in
    let b = g.D.Outside.stands c.next.new.disk in
    let p = err_from_is_err_and c.from_residual-in_err-core-in-Some.result c.from_residual-in_err-core-in-Some.ensures.1 in
    rw (p.1, p.2) (reads_then false (g.D.Outside.stands c.args.disk.now) a b c.inputs.invariant.reads c.in_ok-input.ensures.reads)

pub returns-in-None-clause-taken : goal.returns-in-None-clause-taken
returns-in-None-clause-taken g c = λ left first.
    (let a = g.D.Outside.stands c.inputs.disk in
    let b = g.D.Outside.stands c.next.new.disk in
    let given = subst (λ (x : Option Input). Gives c.inputs.inputs c.next.new.self a.told b.told (Ok x)) c.in-None.is c.in_ok-input.ensures.given in
    then_ended c.args.core c.inputs.core left c.inputs.inputs c.next.new.self false a b c.in_ok-input.ensures.reads (c.inputs.invariant.taken left first) given)

pub returns-in-None-clause-reads : goal.returns-in-None-clause-reads
returns-in-None-clause-reads g c =
    reads_then false (g.D.Outside.stands c.args.disk.now) (g.D.Outside.stands c.inputs.disk) (g.D.Outside.stands c.next.new.disk) c.inputs.invariant.reads c.in_ok-input.ensures.reads
