-- While the journal of a run is loaded reads leave the run where it is, and one that fails breaks it.
use Rattle.std.proofs.Common.{◌≡◌, Bool, false, true, List, [], ◌∷◌, refl, sym, ap, ◌∙◌, subst}
use Rattle.f2b_model.specs.Lists.{AllOf}
use Rattle.f2b_world.specs.Told.{History, Standing, grown}
use Rattle.f2b_world.specs.Walks.{after, Along}
use Rattle.f2b_world.specs.declared.answer.Len.TheVariants.{Bytes as LenIs, Failed as LenFailed}
use Rattle.f2b_world.specs.declared.answer.Piece.TheVariants.{Bytes as PieceIs, Failed as PieceFailed}
use Rattle.f2b_world.specs.declared.event.Event.{Event}
use Rattle.f2b_world.specs.declared.event.Event.TheVariants.{DiskLen, DiskRead, DiskSync, DiskWrite}
use Rattle.f2b_world.proofs.AddsLemmas.{adds_weaker}
use Rattle.f2b_world.proofs.WalkLemmas.{after_append, along_append}
use Rattle.reconcile.specs.Laws.{ChangesNoSlot}
use Rattle.run_law.specs.Disk.{IsLoading, broken}
use Rattle.run_law.specs.Law.{Free, Goes, MayCome, feed}
use Rattle.run_law.specs.Points.{Run}
use Rattle.run_law.specs.Stages.{IsSteady}
use Rattle.run_law.proofs.LongLemmas.{goes_on}
use Rattle.run_steps.specs.Starting.{LeavesSlots}
use Rattle.slot_reader.proofs.ReadLemmas.{reads_answers, reads_events}
use Rattle.slot_reader.specs.Reads.{AreBroken, AreDone, AreReads, AreTrue, IsDone, IsFailed, OnlyReads}
use Rattle.slot_reader.proofs.AnswerLemmas.{true_split}

-- the run that a list of events leads to
abbrev run_after : Run → List Event → Run
run_after r es = after feed MayCome Free r es

abbrev Passes : Run → History → List Event → Type 0
Passes r g es = Along feed MayCome Free r g es

-- ---- one read

may_done : (r : Run) (event : Event) → IsLoading r.point r.owed → IsDone event → MayCome r event
may_done r (DiskLen slot (LenIs long)) loading done = (loading, done)
may_done r (DiskRead slot at len (PieceIs piece)) loading done = (loading, done)
may_done r _ loading done = absurd done

feed_done : (r : Run) (event : Event) → IsDone event → feed r event ≡ r
feed_done r (DiskLen slot (LenIs long)) done = refl
feed_done r (DiskRead slot at len (PieceIs piece)) done = refl
feed_done r _ done = absurd done

may_failed : (r : Run) (event : Event) → IsLoading r.point r.owed → IsFailed event → MayCome r event
may_failed r (DiskLen slot LenFailed) loading failed = (loading, failed)
may_failed r (DiskRead slot at len PieceFailed) loading failed = (loading, failed)
may_failed r _ loading failed = absurd failed

feed_failed : (r : Run) (event : Event) → IsFailed event → feed r event ≡ broken r
feed_failed r (DiskLen slot LenFailed) failed = refl
feed_failed r (DiskRead slot at len PieceFailed) failed = refl
feed_failed r _ failed = absurd failed

done_still : (event : Event) → IsDone event → ChangesNoSlot event
done_still (DiskWrite slot at bytes answer) done = absurd done
done_still (DiskSync slot answer) done = absurd done
done_still _ done = tt

-- ---- reads that were answered

passes_done : (r : Run) (g : History) (es : List Event) → IsLoading r.point r.owed → AreDone es → AreTrue g es → Passes r g es
passes_done r g [] loading done answers = tt
passes_done r g (event ∷ es) loading done answers =
    let P : Run → Type 0 = λ s. Passes s (grown g (event ∷ [])) es in (
      record { holds = tt; allowed = may_done r event loading done.0; honest = answers.0; bounded = answers.1 },
      subst P (sym (feed_done r event done.0)) (passes_done r (grown g (event ∷ [])) es loading done.1 answers.2),
    )

after_done : (r : Run) (es : List Event) → AreDone es → run_after r es ≡ r
after_done r [] done = refl
after_done r (event ∷ es) done = ap (λ (s : Run). run_after s es) (feed_done r event done.0) ∙ after_done r es done.1

all_still : (es : List Event) → AreDone es → AllOf ChangesNoSlot es
all_still [] done = tt
all_still (event ∷ es) done = (done_still event done.0, all_still es done.1)

-- ---- the last one failed

passes_broken : (r : Run) (g : History) (es : List Event) → IsLoading r.point r.owed → AreBroken es → AreTrue g es → Passes r g es
passes_broken r g es loading is answers =
    let parts = true_split g is.first (is.one ∷ []) (subst (AreTrue g) is.parts answers) in
    let P : Run → Type 0 = λ s. Passes s (grown g is.first) (is.one ∷ []) in
    let last : Passes r (grown g is.first) (is.one ∷ []) =
    (record { holds = tt; allowed = may_failed r is.one loading is.failed; honest = parts.1.0; bounded = parts.1.1 }, tt) in
    subst (Passes r g) (sym is.parts)
    (along_append feed MayCome Free r g is.first (is.one ∷ []) (passes_done r g is.first loading is.done parts.0) (subst P (sym (after_done r is.first is.done)) last))

after_broken : (r : Run) (es : List Event) → AreBroken es → run_after r es ≡ broken r
after_broken r es is =
    ap (run_after r) is.parts
    ∙ after_append feed MayCome Free r is.first (is.one ∷ [])
    ∙ ap (λ (s : Run). run_after s (is.one ∷ [])) (after_done r is.first is.done)
    ∙ feed_failed r is.one is.failed

-- ---- all reads of a load

-- the run stays where it is
pub reads_stay : (a b : Standing) (r : Run) → IsLoading r.point r.owed → OnlyReads false a b → Goes a.told b.told r r
reads_stay a b r loading reads = record {
  events = adds_weaker (λ g es. AreReads false es × AreTrue g es) (λ g es. Passes r g es × (run_after r es ≡ r)) a.told b.told
      reads.told
      (λ g es is. (passes_done r g es loading is.0 is.1, after_done r es is.0));
}

-- it breaks
pub reads_break : (a b : Standing) (r : Run) → IsLoading r.point r.owed → OnlyReads true a b → Goes a.told b.told r (broken r)
reads_break a b r loading reads = record {
  events = adds_weaker (λ g es. AreReads true es × AreTrue g es) (λ g es. Passes r g es × (run_after r es ≡ broken r)) a.told b.told
      reads.told
      (λ g es is. (passes_broken r g es loading is.0 is.1, after_broken r es is.0));
}

-- the slots are left alone
pub reads_leave : (a b : Standing) → OnlyReads false a b → LeavesSlots a b
reads_leave a b reads = adds_weaker (λ g es. AreReads false es) (λ g es. AllOf ChangesNoSlot es) a.told b.told (reads_events false a b reads) (λ g es done. all_still es done)

pub reads_steady : (failed : Bool) (a b : Standing) → OnlyReads failed a b → IsSteady a b
reads_steady failed a b reads = record { counts = reads.steady; history = goes_on AreTrue a.told b.told (reads_answers failed a b reads) }
