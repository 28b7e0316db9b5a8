-- From how an input's calls ended, what whatever a stop leaves opens to.
use Rattle.std.proofs.Common.{ℕ, ◌≡◌, ◌<◌, ◌^◌, inl, inr, Bool, true, false, if◌then◌else◌, Option, Some, None, Result, Ok, Err, IfOk, List, [], take, refl, sym, ap, subst, ◌∙◌, append-nil}
use Rattle.f2b_base.specs.declared.input.Input.{Input}
use Rattle.f2b_base.specs.declared.view.View.{View}
use Rattle.f2b_model.specs.declared.told.Told.{Told}
use Rattle.f2b_model.specs.Lanes.{books_now}
use Rattle.f2b_model.specs.Steps.{moves_now}
use Rattle.f2b_model.specs.Storable.{IsStorable, IsStorableInput}
use Rattle.f2b_model.specs.Views.{spread}
use Rattle.f2b_model.specs.Whole.{Now, is_whole_spent, step_now}
use Rattle.f2b_world.specs.declared.event.Event.{Event}
use Rattle.f2b_world.specs.Told.{History, Standing, Adds, grown}
use Rattle.f2b_world.proofs.AddsLemmas.{adds_weaker, adds_none, grown_none}
use Rattle.ban_journal.specs.declared.append_error.AppendError.{AppendError}
use Rattle.ban_journal.specs.declared.append_error.AppendError.TheVariants.{DiskFault as JournalFault, Full as JournalFull, Spent as JournalSpent, NoMemory as JournalMemory}
use Rattle.ban_journal.specs.Answers.{Writes, IsAnswer}
use Rattle.ban_journal.proofs.CallLemmas.{stopped_at_once}
use Rattle.ban_journal.proofs.PartLemmas.{none_taken, part_take}
use Rattle.slot_writes.specs.declared.position.Position.{Position}
use Rattle.slot_writes.specs.Entries.{Entry, Written, Full as EntryFull, Spent as EntrySpent, fits, append_writes, appended, turn_entry, entry_of}
use Rattle.slot_writes.specs.Rests.{PermitsBoth}
use Rattle.slot_writes.specs.Writes.{Write, done_events, IsFirstPart, IsBroken, IsPart, Performs}
use Rattle.slot_writes.proofs.RunLemmas.{all_is_part}
use Rattle.reconcile.specs.declared.engine_error.EngineError.{EngineError}
use Rattle.reconcile.specs.declared.engine_error.EngineError.TheVariants.{Spent, DiskFault, Full, NoMemory}
use Rattle.reconcile.specs.Answers.{entry_for, error_of, journal_of, Refuses, IsWritten}
use Rattle.reconcile.specs.Engines.{EngineNow, IsOnDisk, OpensThrough}
use Rattle.reconcile.specs.Laws.{IsWithinBounds}
use Rattle.reconcile.specs.Opens.{WhereTold, Opens, OpensEither}
use Rattle.reconcile.proofs.EngineLemmas.{rest_opens, written_opens, written_on_disk}
use Rattle.f2b_model.proofs.TakenLemmas.{storable_taken}

-- ---- what came

-- what holds of the events where the history before them is told
told_of : (P Q : History → List Event → Type 0) (old new : Option History) → Adds old new P → ((g : History) → old ≡ Some g → (es : List Event) → P g es → Q g es) → Adds old new Q
told_of P Q old None adds f = tt
told_of P Q old (Some h) adds f = (adds.0, adds.1, adds.2, adds.3, f adds.0 adds.2 adds.1 adds.4)

-- where a run was done
done_at : (ws : List Write) (old new : Option History) → Performs ws old new → (h : History) → new ≡ Some h → (g : History) × (es : List Event) × (old ≡ Some g) × (h ≡ grown g es) × (es ≡ done_events ws)
done_at ws old None p h is = absurd (cc)
done_at ws old (Some j) p h is =
    let a = p.events in
    (a.0, a.1, a.2, ((let e : j ≡ h = cc in sym e) ∙ a.3), a.4)

-- what came is a part of the calls
part_came : (limit : ℕ) (next : Position) (ws : List Write) (a b : Standing) (answer : Result Position EngineError) → IsWritten limit (Written next ws) a b answer → Adds a.told b.told (λ g es. IsPart ws es)
part_came limit next ws a b (Ok p) is = adds_weaker (λ g es. es ≡ done_events ws) (λ g es. IsPart ws es) a.told b.told is.1.performs.events (λ g es done. all_is_part ws es done)
part_came limit next ws a b (Err DiskFault) is = adds_weaker (λ g es. IsBroken ws es) (λ g es. IsPart ws es) a.told b.told is.breaks.events (λ g es broken. inr broken)
part_came limit next ws a b (Err NoMemory) is = adds_weaker (λ g es. IsFirstPart ws es) (λ g es. IsPart ws es) a.told b.told is.stops.events (λ g es first. inl first)
part_came limit next ws a b (Err (Full need most)) is = absurd is
part_came limit next ws a b (Err Spent) is = absurd is

-- nothing came
none_came : (cause : EngineError) (a b : Standing) (answer : Result Position EngineError) → Refuses cause a b answer → Adds a.told b.told (λ g es. es ≡ [])
none_came cause a b (Ok p) is = absurd is
none_came cause a b (Err e) is = subst (λ (s : Standing). Adds a.told s.told (λ g es. es ≡ [])) (sym is.1) (adds_none a.told)

nothing_new : (g : History) (es : List Event) (k : ℕ) → es ≡ [] → (image : ℕ → List ℕ) → PermitsBoth (grown g (take k es)) image → PermitsBoth g image
nothing_new g es k none image permits =
    let same : grown g (take k es) ≡ g = ap (λ (r : List Event). grown g (take k r)) none ∙ ap (grown g) (none_taken k) ∙ grown_none g in
    subst (λ (h : History). PermitsBoth h image) same permits

-- ---- what whatever a stop leaves opens to

module _ (e : EngineNow) (i : Input) (within : IsWithinBounds e i) where
  abbrev either_at : History → List Event → Type 0
  either_at g es = (k : ℕ) → OpensEither (spread e.core) (spread (step_now e.core i)) (grown g (take k es))

  through_calls : (next : Position) (ws : List Write) (old new : Option History) → entry_for e i ≡ Written next ws → Adds old new (λ g es. IsPart ws es) → WhereTold old (IsOnDisk e) → OpensThrough e i old new
  through_calls next ws old new is part lasts = record {
    points = told_of (λ g es. IsPart ws es) either_at old new part (λ g told es came k. written_opens e i next ws g within (lasts g told) (take k es) is (part_take ws es k came));
  }

  through_none : (old new : Option History) → Adds old new (λ g es. es ≡ []) → WhereTold old (IsOnDisk e) → OpensThrough e i old new
  through_none old new none lasts = record {
    points = told_of (λ g es. es ≡ []) either_at old new none (λ g told es came k image permits. inl (rest_opens e g (lasts g told) image (nothing_new g es k came image permits)));
  }

  through_entry : (entry : Entry) (a b : Standing) (answer : Result Position EngineError) → entry_for e i ≡ entry → IsWritten e.journal.limit entry a b answer → WhereTold a.told (IsOnDisk e) → OpensThrough e i a.told b.told
  through_entry (Written next ws) a b answer is did lasts = through_calls next ws a.told b.told is (part_came e.journal.limit next ws a b answer did) lasts
  through_entry (EntryFull need) a b answer is did lasts = through_none a.told b.told (none_came _ a b answer did) lasts
  through_entry EntrySpent a b answer is did lasts = through_none a.told b.told (none_came _ a b answer did) lasts

  lasts_entry : (entry : Entry) (a b : Standing) (p : Position) → entry_for e i ≡ entry → IsWritten e.journal.limit entry a b (Ok p) → WhereTold a.told (IsOnDisk e) → WhereTold b.told (IsOnDisk (record { journal = p; core = step_now e.core i }))
  lasts_entry (Written next ws) a b p is did lasts = λ h told.
      let d = done_at ws a.told b.told did.1.performs h told in
      let there = written_on_disk e i next ws d.0 within (lasts d.0 d.2) d.1 is d.4 in
      subst (λ (q : Position). IsOnDisk (record { journal = q; core = step_now e.core i }) h) (sym did.0) (subst (IsOnDisk (record { journal = next; core = step_now e.core i })) (sym d.3) there)
  lasts_entry (EntryFull need) a b p is did lasts = absurd did
  lasts_entry EntrySpent a b p is did lasts = absurd did

opens_after : (e : EngineNow) (told : Option History) → WhereTold told (IsOnDisk e) → WhereTold told (Opens (spread e.core))
opens_after e told lasts g is = rest_opens e g (lasts g is)

-- An engine took an input so, and answered that.
pub record Took (e : EngineNow) (i : Input) (a b : Standing) (result : Result (EngineNow × Told) EngineError) : Type 0 where
  pub within : IsWithinBounds e i
  pub did : IsWritten e.journal.limit (entry_for e i) a b (journal_of result)
  pub core : IfOk result (λ r. r.0.core ≡ step_now e.core i)

pub took_opens : (e : EngineNow) (i : Input) (a b : Standing) (result : Result (EngineNow × Told) EngineError) → Took e i a b result → WhereTold a.told (IsOnDisk e) → OpensThrough e i a.told b.told
took_opens e i a b result is = through_entry e i is.within (entry_for e i) a b (journal_of result) refl is.did

pub took_lasts : (e : EngineNow) (i : Input) (a b : Standing) (result : Result (EngineNow × Told) EngineError) → Took e i a b result → WhereTold a.told (IsOnDisk e) → IfOk result (λ r. WhereTold b.told (IsOnDisk r.0))
took_lasts e i a b (Ok r) is lasts =
    subst (λ (n : Now). WhereTold b.told (IsOnDisk (record { journal = r.0.journal; core = n }))) (sym is.core) (lasts_entry e i is.within (entry_for e i) a b r.0.journal refl is.did lasts)
took_lasts e i a b (Err x) is lasts = tt

pub took_closed : (e : EngineNow) (i : Input) (a b : Standing) (result : Result (EngineNow × Told) EngineError) → Took e i a b result → WhereTold a.told (IsOnDisk e)
    → IfOk result (λ r. WhereTold b.told (Opens (spread r.0.core)))
took_closed e i a b (Ok r) is lasts = opens_after r.0 b.told (took_lasts e i a b (Ok r) is lasts)
took_closed e i a b (Err x) is lasts = tt

-- ---- how the calls end

if_true : (b : Bool) (x y : Entry) → b ≡ true → (if b then x else y) ≡ x
if_true true x y is = refl
if_true false x y is = absurd (let e : false ≡ true = is in cc)

if_false : (b : Bool) (x y : Entry) → b ≡ false → (if b then x else y) ≡ y
if_false false x y is = refl
if_false true x y is = absurd (let e : true ≡ false = is in cc)

-- before any call
pub unwritten : (limit : ℕ) (entry : Entry) (a : Standing) → IsWritten limit entry a a (Err NoMemory)
unwritten limit (Written next ws) a = stopped_at_once ws a a refl
unwritten limit (EntryFull need) a = (inr refl, refl)
unwritten limit EntrySpent a = (inr refl, refl)

all_first : (ws : List Write) (es : List Event) → es ≡ done_events ws → IsFirstPart ws es
all_first ws es done = record { first = ws; left = []; parts = sym (append-nil ws); done = done }

-- behind all calls
pub written_unmade : (limit : ℕ) (entry : Entry) (a b : Standing) (p : Position) → IsWritten limit entry a b (Ok p) → IsWritten limit entry a b (Err NoMemory)
written_unmade limit (Written next ws) a b p did = record {
  stops = record { events = adds_weaker (λ g es. es ≡ done_events ws) (λ g es. IsFirstPart ws es) a.told b.told did.1.performs.events (λ g es done. all_first ws es done) };
  beside = did.1.beside;
}
written_unmade limit (EntryFull need) a b p did = absurd did
written_unmade limit EntrySpent a b p did = absurd did

-- the journal's answers
module _ (p : Position) (v : View) (i : Input) (a b : Standing) where
  append_is : fits p i ≡ true → entry_of p v i ≡ Written (appended p i) (append_writes p i)
  append_is room = if_true (fits p i) (Written (appended p i) (append_writes p i)) (turn_entry p v i) room

  turn_is : fits p i ≡ false → entry_of p v i ≡ turn_entry p v i
  turn_is full = if_false (fits p i) (Written (appended p i) (append_writes p i)) (turn_entry p v i) full

  pub append_written : (q : Position) → fits p i ≡ true → Writes (appended p i) (append_writes p i) a b (Ok q) → IsWritten p.limit (entry_of p v i) a b (Ok q)
  append_written q room did = subst (λ (entry : Entry). IsWritten p.limit entry a b (Ok q)) (sym (append_is room)) did

  failed_so : (next : Position) (ws : List Write) (e : AppendError) → Writes next ws a b (Err e) → IsWritten p.limit (Written next ws) a b (Err (error_of e))
  failed_so next ws JournalFault did = did
  failed_so next ws JournalMemory did = did
  failed_so next ws (JournalFull need limit) did = absurd did
  failed_so next ws JournalSpent did = absurd did

  pub append_failed : (e : AppendError) → fits p i ≡ true → Writes (appended p i) (append_writes p i) a b (Err e) → IsWritten p.limit (entry_of p v i) a b (Err (error_of e))
  append_failed e room did =
      subst (λ (entry : Entry). IsWritten p.limit entry a b (Err (error_of e))) (sym (append_is room)) (failed_so (appended p i) (append_writes p i) e did)

  turned_so : (entry : Entry) (q : Position) → IsAnswer p.limit entry a b (Ok q) → IsWritten p.limit entry a b (Ok q)
  turned_so (Written next ws) q did = did
  turned_so (EntryFull need) q did = absurd (let e : Ok q ≡ Err _ = did.0 in cc)
  turned_so EntrySpent q did = absurd (let e : Ok q ≡ Err _ = did.0 in cc)

  refused_so : (entry : Entry) (e : AppendError) → IsAnswer p.limit entry a b (Err e) → IsWritten p.limit entry a b (Err (error_of e))
  refused_so (Written next ws) e did = failed_so next ws e did
  refused_so (EntryFull need) e did = (inl (let f : e ≡ JournalFull _ _ = (let g : Err e ≡ Err _ = did.0 in cc) in ap error_of f), did.1)
  refused_so EntrySpent e did = (inl (let f : e ≡ JournalSpent = (let g : Err e ≡ Err JournalSpent = did.0 in cc) in ap error_of f), did.1)

  pub turn_written : (w : View) (q : Position) → w ≡ v → fits p i ≡ false → IsAnswer p.limit (turn_entry p w i) a b (Ok q) → IsWritten p.limit (entry_of p v i) a b (Ok q)
  turn_written w q is full did =
      subst (λ (entry : Entry). IsWritten p.limit entry a b (Ok q)) (ap (λ (u : View). turn_entry p u i) is ∙ sym (turn_is full)) (turned_so (turn_entry p w i) q did)

  pub turn_failed : (w : View) (e : AppendError) → w ≡ v → fits p i ≡ false → IsAnswer p.limit (turn_entry p w i) a b (Err e) → IsWritten p.limit (entry_of p v i) a b (Err (error_of e))
  turn_failed w e is full did =
      subst (λ (entry : Entry). IsWritten p.limit entry a b (Err (error_of e))) (ap (λ (u : View). turn_entry p u i) is ∙ sym (turn_is full)) (refused_so (turn_entry p w i) e did)

-- ---- how an engine takes an input

-- its numbers are used up
pub took_spent : (e f : EngineNow) (i : Input) (a : Standing) (spent : Bool) → f ≡ e → e.journal.limit < 2 ^ 64 → IsStorable f.core → IsStorableInput i → spent ≡ is_whole_spent moves_now books_now f.core
    → spent ≡ true → Took e i a a (Err Spent)
took_spent e f i a spent same limited stored taken is holds =
    let used : is_whole_spent moves_now books_now e.core ≡ true = subst (λ (x : EngineNow). is_whole_spent moves_now books_now x.core ≡ true) same (sym is ∙ holds) in
    let entry_is : entry_for e i ≡ EntrySpent = if_true (is_whole_spent moves_now books_now e.core) EntrySpent (entry_of e.journal (spread e.core) i) used in
    record {
      within = record { limit = limited; core = subst (λ (x : EngineNow). IsStorable x.core) same stored; input = taken };
      did = subst (λ (entry : Entry). IsWritten e.journal.limit entry a a (Err Spent)) (sym entry_is) (inl refl, refl);
      core = tt;
    }

-- they are not
pub took_free : (e f : EngineNow) (i : Input) (a b : Standing) (spent : Bool) (result : Result (EngineNow × Told) EngineError) → f ≡ e → e.journal.limit < 2 ^ 64 → IsStorable f.core → IsStorableInput i
    → spent ≡ is_whole_spent moves_now books_now f.core → spent ≡ false → IsWritten e.journal.limit (entry_of e.journal (spread e.core) i) a b (journal_of result)
    → IfOk result (λ r. r.0.core ≡ step_now e.core i) → Took e i a b result
took_free e f i a b spent result same limited stored taken is fails did core =
    let free : is_whole_spent moves_now books_now e.core ≡ false = subst (λ (x : EngineNow). is_whole_spent moves_now books_now x.core ≡ false) same (sym is ∙ fails) in
    let entry_is : entry_for e i ≡ entry_of e.journal (spread e.core) i = if_false (is_whole_spent moves_now books_now e.core) EntrySpent (entry_of e.journal (spread e.core) i) free in
    record {
      within = record { limit = limited; core = subst (λ (x : EngineNow). IsStorable x.core) same stored; input = taken };
      did = subst (λ (entry : Entry). IsWritten e.journal.limit entry a b (journal_of result)) (sym entry_is) did;
      core = core;
    }

pub ruleset written_exits = (append_written, append_failed, turn_written, turn_failed, unwritten)

pub ruleset taken_exits = (written_unmade, storable_taken)
