use Rattle.std.proofs.Common.{false}
use Rattle.std.proofs.lemmas.Result.{err_from_is_err_and}
use Rattle.ban_journal.specs.declared.load.Loaded.{Loaded}
use Rattle.slot_reader.proofs.ReadLemmas.{reads_then}
use Rattle.reconcile.proofs.LoadLemmas.{engine_loaded, engine_on_disk, inputs_failed, placed_then, rests_then}
use Rattle.reconcile.proofs.engine.Engine.load.Goals as goal

pub returns-in_err-core-2-clause-loaded : goal.returns-in_err-core-2-clause-loaded
returns-in_err-core-2-clause-loaded g c =
    let b = g.D.Outside.stands c.load.new.disk in
    let d = g.D.Outside.stands c.after_all.new.disk in
    let l : Loaded = c.in_ok-loaded.loaded in
    let p = err_from_is_err_and c.from_residual-in_err-core-2.result c.from_residual-in_err-core-2.ensures.1 in
    rw (p.1, p.2) (inputs_failed c.args.limit l c.in_ok-core.core _ _ b d c.in_ok-loaded.ensures.loaded c.in_err-core-2.ensures.reads c.in_err-core-2.ensures.taken)

pub returns-in_err-core-2-clause-reads : goal.returns-in_err-core-2-clause-reads
returns-in_err-core-2-clause-reads g c =
    let b = g.D.Outside.stands c.load.new.disk in
    let d = g.D.Outside.stands c.after_all.new.disk in
    let p = err_from_is_err_and c.from_residual-in_err-core-2.result c.from_residual-in_err-core-2.ensures.1 in
    rw (p.1, p.2) (reads_then _ (g.D.Outside.stands c.args.disk.now) b d c.in_ok-loaded.ensures.reads c.in_err-core-2.ensures.reads)

pub returns-clause-loaded : goal.returns-clause-loaded
returns-clause-loaded g c =
    let b = g.D.Outside.stands c.load.new.disk in
    let d = g.D.Outside.stands c.after_all.new.disk in
    let l : Loaded = c.in_ok-loaded.loaded in
    engine_loaded c.args.limit l c.in_ok-core.core c.in_ok-core-2.core b d c.in_ok-loaded.ensures.loaded c.in_ok-core.ensures.sound c.in_ok-core-2.ensures.reads c.in_ok-core-2.ensures.taken

pub returns-clause-placed : goal.returns-clause-placed
returns-clause-placed g c =
    placed_then c.in_ok-loaded.loaded.journal (g.D.Outside.stands c.load.new.disk) (g.D.Outside.stands c.after_all.new.disk) c.in_ok-core-2.ensures.reads c.in_ok-loaded.ensures.placed

pub returns-clause-on_disk : goal.returns-clause-on_disk
returns-clause-on_disk g c = λ rests h told.
    (let a = g.D.Outside.stands c.args.disk.now in
    let b = g.D.Outside.stands c.load.new.disk in
    let d = g.D.Outside.stands c.after_all.new.disk in
    let l : Loaded = c.in_ok-loaded.loaded in
    engine_on_disk c.args.limit l c.in_ok-core.core c.in_ok-core-2.core b d c.in_ok-loaded.ensures.loaded c.in_ok-core.ensures.sound c.in_ok-core-2.ensures.reads c.in_ok-core-2.ensures.taken h told
    c.in_ok-loaded.ensures.storable (rests_then false a b c.in_ok-loaded.ensures.reads rests))

pub returns-clause-reads : goal.returns-clause-reads
returns-clause-reads g c =
    let b = g.D.Outside.stands c.load.new.disk in
    let d = g.D.Outside.stands c.after_all.new.disk in
    reads_then false (g.D.Outside.stands c.args.disk.now) b d c.in_ok-loaded.ensures.reads c.in_ok-core-2.ensures.reads
