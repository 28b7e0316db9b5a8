-- An input that is written, and one that is not, by what the engine answers.
use Rattle.std.proofs.Common.{ℕ, ◌≡◌, ◌⊎◌, if◌then◌else◌, inl, inr, List, [], Option, Some, None, Result, Ok, Err, refl, sym, ap, ◌∙◌, subst, arith}
use Rattle.f2b_base.specs.declared.input.Input.{Input}
use Rattle.f2b_base.specs.declared.input.What.{What}
use Rattle.f2b_model.specs.Lanes.{books_now}
use Rattle.f2b_model.specs.Steps.{moves_now}
use Rattle.f2b_model.specs.Storable.{IsStorableInput}
use Rattle.f2b_model.specs.Views.{spread}
use Rattle.f2b_model.specs.Whole.{is_whole_spent, step_now, told_now}
use Rattle.f2b_model.specs.declared.told.Told.{Told}
use Rattle.f2b_world.specs.Told.{Adds, History, Standing}
use Rattle.f2b_world.specs.declared.event.Event.{Event}
use Rattle.ban_journal.specs.Answers.{Broke, IsBeside, Stopped, Wrote, said}
use Rattle.slot_writes.specs.Entries.{Entry, Written, Full, Spent, entry_of}
use Rattle.slot_writes.specs.Writes.{Write, Performs, IsBroken, IsFirstPart, done_events}
use Rattle.slot_writes.specs.declared.position.Position.{Position}
use Rattle.reconcile.specs.Answers.{Fails, IsWritten, Refuses as Unwritten}
use Rattle.reconcile.specs.declared.engine_error.EngineError.{EngineError}
use Rattle.reconcile.specs.declared.engine_error.EngineError.TheVariants.{Spent as EngineSpent, DiskFault as EngineFault, Full as EngineFull, NoMemory as EngineMemory}
use Rattle.run_law.specs.Law.{Halts}
use Rattle.run_law.specs.News.{brings, said_number}
use Rattle.run_law.specs.Server.{Server, entry_in, input_at, is_spent}
use Rattle.run_law.specs.Stages.{IsRefusedAs, IsSteady, IsUnsaid, Refuses}
use Rattle.run_law.specs.declared.status.Status.{Status}
use Rattle.run_law.specs.declared.status.Status.TheVariants.{Stopped as StoppedRun, TurnsSpent, WorkloadDone, Usage, ConfFault, ConfRefused, DiskFault, NotAJournal, JournalFull, GateFault, SinkFault, ConfTooLarge, PatternRefused, NumbersSpent, NoMemory}
use Rattle.run_law.proofs.CauseLemmas.{cause_by_then, cause_later, steady_refl}
use Rattle.run_law.proofs.LongLemmas.{goes_on}
use Rattle.run_law.proofs.PointLemmas.{halts_here}
use Rattle.run_law.proofs.StageLemmas.{fails_broken, fails_full, fails_short, fails_spent}
use Rattle.run_steps.specs.Keeping.{IsStorableAt, IsTimedAlike, IsUnbrought, KeepsClocked, entry_at, input_of, news_of}
use Rattle.run_steps.specs.Writing.{StepsTo, WriteFails, Writes}
use Rattle.run_steps.specs.declared.clocked.Clocked.{Clocked}

-- ---- the same for the code and for the law

-- numbers are used up in the code's state exactly where they are in the server's
pub spent_is : (kept : Clocked) (s : Server) → KeepsClocked s kept → is_whole_spent moves_now books_now kept.engine.core ≡ is_spent s
spent_is kept s keeps = ap (is_whole_spent moves_now books_now) keeps.core

pub same_input : (kept : Clocked) (s : Server) (what : What) → KeepsClocked s kept → input_of kept what ≡ input_at s what
same_input kept s what keeps = λ i. record { secs = keeps.now i; word = keeps.word i; what = what }

pub entry_is : (kept : Clocked) (s : Server) (what : What) → KeepsClocked s kept → entry_at kept what ≡ entry_in s what
entry_is kept s what keeps = λ i. if spent_is kept s keeps i then Spent else entry_of (keeps.journal i) (spread (keeps.core i)) (same_input kept s what keeps i)

pub stored_is : (kept : Clocked) (s : Server) (what : What) → KeepsClocked s kept → IsStorableAt kept what → IsStorableInput (input_at s what)
stored_is kept s what keeps stored = subst IsStorableInput (same_input kept s what keeps) stored

-- ---- what the engine answered

written_by : (limit : ℕ) (e : Entry) (a b : Standing) (p : Position) → IsWritten limit e a b (Ok p) → (ws : List Write) × (e ≡ Written p ws) × Performs ws a.told b.told
written_by limit (Written next ws) a b p is = (ws, ap (λ (q : Position). Written q ws) (sym is.0), is.1.performs)
written_by limit (Full need) a b p is = absurd is
written_by limit Spent a b p is = absurd is

spent_by : (limit : ℕ) (e : Entry) (a b : Standing) → IsWritten limit e a b (Err EngineSpent) → (e ≡ Spent) × (b ≡ a)
spent_by limit (Written next ws) a b is = absurd is
spent_by limit (Full need) a b (inl same, still) = absurd (cc)
spent_by limit (Full need) a b (inr same, still) = absurd (cc)
spent_by limit Spent a b (why, still) = (refl, still)

full_by : (limit : ℕ) (e : Entry) (a b : Standing) (need most : ℕ) → IsWritten limit e a b (Err (EngineFull need most)) → (bytes : ℕ) × (e ≡ Full bytes) × (need ≡ said bytes) × (most ≡ limit) × (b ≡ a)
full_by limit (Written next ws) a b need most is = absurd is
full_by limit (Full bytes) a b need most (inl same, still) = (bytes, refl, (let e : need ≡ said bytes = cc in e), (let e : most ≡ limit = cc in e), still)
full_by limit (Full bytes) a b need most (inr same, still) = absurd (cc)
full_by limit Spent a b need most (inl same, still) = absurd (cc)
full_by limit Spent a b need most (inr same, still) = absurd (cc)

broken_by : (limit : ℕ) (e : Entry) (a b : Standing) → IsWritten limit e a b (Err EngineFault) → (p : Position) × (ws : List Write) × (e ≡ Written p ws) × Broke ws a b
broken_by limit (Written next ws) a b is = (next, ws, refl, is)
broken_by limit (Full bytes) a b (inl same, still) = absurd (cc)
broken_by limit (Full bytes) a b (inr same, still) = absurd (cc)
broken_by limit Spent a b (inl same, still) = absurd (cc)
broken_by limit Spent a b (inr same, still) = absurd (cc)

-- memory ran out while the input was written, or before
abbrev IsCutShort : Entry → Standing → Standing → Type 0
IsCutShort e a b = ((p : Position) × (ws : List Write) × (e ≡ Written p ws) × Stopped ws a b) ⊎ (b ≡ a)

short_by : (limit : ℕ) (e : Entry) (a b : Standing) → IsWritten limit e a b (Err EngineMemory) → IsCutShort e a b
short_by limit (Written next ws) a b is = inl (next, ws, refl, is)
short_by limit (Full bytes) a b (why, still) = inr still
short_by limit Spent a b (why, still) = inr still

-- ---- counts and slots

beside_steady : (a b : Standing) (P : History → List Event → Type 0) → IsBeside a b → Adds a.told b.told P → IsSteady a b
beside_steady a b P beside adds = record { counts = beside.steady; history = goes_on P a.told b.told adds }

still_steady : (a b : Standing) → b ≡ a → IsSteady a b
still_steady a b still =
    let P : Standing → Type 0 = λ s. IsSteady a s in
    subst P (sym still) (steady_refl a)

fails_steady : (ws : List Write) (a b : Standing) (error : EngineError) → Fails ws a b error → IsSteady a b
fails_steady ws a b EngineFault is = beside_steady a b (λ g es. IsBroken ws es) is.beside is.breaks.events
fails_steady ws a b EngineMemory is = beside_steady a b (λ g es. IsFirstPart ws es) is.beside is.stops.events
fails_steady ws a b EngineSpent is = absurd is
fails_steady ws a b (EngineFull need limit) is = absurd is

refuses_steady : (cause : EngineError) (a b : Standing) (result : Result Position EngineError) → Unwritten cause a b result → IsSteady a b
refuses_steady cause a b (Ok p) is = absurd is
refuses_steady cause a b (Err error) (why, still) = still_steady a b still

pub written_steady : (limit : ℕ) (e : Entry) (a b : Standing) (result : Result Position EngineError) → IsWritten limit e a b result → IsSteady a b
written_steady limit (Written next ws) a b (Ok p) is = beside_steady a b (λ g es. es ≡ done_events ws) is.1.beside is.1.performs.events
written_steady limit (Written next ws) a b (Err error) is = fails_steady ws a b error is
written_steady limit (Full need) a b result is = refuses_steady (EngineFull (said need) limit) a b result is
written_steady limit Spent a b result is = refuses_steady EngineSpent a b result is

-- ---- an input is written

pub write_done : (a b : Standing) (before after : Clocked) (what : What) (tells : Told) → IsWritten before.engine.journal.limit (entry_at before what) a b (Ok after.engine.journal)
    → after.engine.core ≡ step_now before.engine.core (input_of before what) → tells ≡ told_now before.engine.core (input_of before what) → IsTimedAlike before after
    → Writes a b before what after tells
write_done a b before after what tells is core told time =
    let by = written_by before.engine.journal.limit (entry_at before what) a b after.engine.journal is in
    record { calls = by.0; entry = by.1; performs = by.2; steps = record { core = core; tells = told; time = time } }

-- ---- an input is not written

module _ (a m b : Standing) (before : Clocked) (what : What) (status : Status) where
  pub write_spent : IsWritten before.engine.journal.limit (entry_at before what) a m (Err EngineSpent) → Refuses m b before.now NumbersSpent status → WriteFails a b before what status
  write_spent is refuses =
      let by = spent_by before.engine.journal.limit (entry_at before what) a m is in
      record {
        runs = λ pre post r at next s is_at keeps.
            let P : Standing → ℕ → Type 0 = λ x now. Refuses x b now NumbersSpent status in
            let refused : Refuses a b s.now NumbersSpent status = subst (λ (x : Standing). P x s.now) by.1 (subst (λ (n : ℕ). P m n) keeps.now refuses) in
            fails_spent KeepsClocked a b (news_of pre (Some what) post s) what r at next s status is_at refl (sym (entry_is before s what keeps) ∙ by.0) refused;
      }

  pub write_full : (need limit : ℕ) → IsWritten before.engine.journal.limit (entry_at before what) a m (Err (EngineFull need limit)) → Refuses m b before.now (JournalFull need limit) status
      → WriteFails a b before what status
  write_full need limit is refuses =
      let by = full_by before.engine.journal.limit (entry_at before what) a m need limit is in
      record {
        runs = λ pre post r at next s is_at keeps.
            let most : limit ≡ s.position.limit = by.3 ∙ ap (λ (p : Position). p.limit) keeps.journal in
            let P : Standing → ℕ → ℕ → ℕ → Type 0 = λ x now n k. Refuses x b now (JournalFull n k) status in
            let here : P a before.now need limit = subst (λ (x : Standing). P x before.now need limit) by.4 refuses in
            let refused : P a s.now (said_number by.0) s.position.limit =
            subst (λ (k : ℕ). P a s.now (said_number by.0) k) most (subst (λ (n : ℕ). P a s.now n limit) by.2 (subst (λ (now : ℕ). P a now need limit) keeps.now here)) in
            fails_full KeepsClocked a b (news_of pre (Some what) post s) what r at next s by.0 status is_at refl (sym (entry_is before s what keeps) ∙ by.1) refused;
      }

  pub write_broken : IsStorableAt before what → IsWritten before.engine.journal.limit (entry_at before what) a m (Err EngineFault) → Refuses m b before.now DiskFault status
      → WriteFails a b before what status
  write_broken stored is refuses =
      let by = broken_by before.engine.journal.limit (entry_at before what) a m is in
      record {
        runs = λ pre post r at next s is_at keeps.
            let P : ℕ → Type 0 = λ now. Refuses m b now DiskFault status in
            fails_broken KeepsClocked a m b (news_of pre (Some what) post s) what r at next s by.0 by.1 status is_at refl (sym (entry_is before s what keeps) ∙ by.2)
            (stored_is before s what keeps stored) by.3.breaks (subst P keeps.now refuses);
      }

pub write_short : (a b : Standing) (before : Clocked) (what : What) → IsStorableAt before what → IsWritten before.engine.journal.limit (entry_at before what) a b (Err EngineMemory)
    → WriteFails a b before what NoMemory
write_short a b before what stored is = record {
  runs = λ pre post r at next s is_at keeps.
      elim (short_by before.engine.journal.limit (entry_at before what) a b is) [
        | inl by ↦ fails_short KeepsClocked a b (news_of pre (Some what) post s) what r next s by.0 by.1 refl (sym (entry_is before s what keeps) ∙ by.2) (stored_is before s what keeps stored) by.3.stops
        | inr still ↦ subst (λ (x : Standing). Halts a.told x.told (brings (news_of pre (Some what) post s) next s r) NoMemory) (sym still) (halts_here a.told (brings (news_of pre (Some what) post s) next s r))
      ];
}

-- ---- causes

-- what could not be said since a later moment could not be said since an earlier one
unsaid_since : (old mid new : Standing) (status : Status) → IsSteady old mid → IsUnsaid mid new status → IsUnsaid old new status
unsaid_since old mid new SinkFault steady is = cause_later old mid new SinkFault steady is
unsaid_since old mid new NoMemory steady is = tt
unsaid_since old mid new StoppedRun steady is = absurd is
unsaid_since old mid new TurnsSpent steady is = absurd is
unsaid_since old mid new WorkloadDone steady is = absurd is
unsaid_since old mid new Usage steady is = absurd is
unsaid_since old mid new ConfFault steady is = absurd is
unsaid_since old mid new (ConfRefused error) steady is = absurd is
unsaid_since old mid new DiskFault steady is = absurd is
unsaid_since old mid new (NotAJournal slot at) steady is = absurd is
unsaid_since old mid new (JournalFull need limit) steady is = absurd is
unsaid_since old mid new GateFault steady is = absurd is
unsaid_since old mid new ConfTooLarge steady is = absurd is
unsaid_since old mid new (PatternRefused jail place kind) steady is = absurd is
unsaid_since old mid new NumbersSpent steady is = absurd is

-- lines could not be said
pub unsaid_unbrought : (before : Clocked) (what : Option What) (a b : Standing) (status : Status) → IsUnsaid a b status → IsUnbrought before what a b status
unsaid_unbrought before None a b status is = is
unsaid_unbrought before (Some what) a b StoppedRun is = is
unsaid_unbrought before (Some what) a b TurnsSpent is = is
unsaid_unbrought before (Some what) a b WorkloadDone is = is
unsaid_unbrought before (Some what) a b Usage is = is
unsaid_unbrought before (Some what) a b ConfFault is = is
unsaid_unbrought before (Some what) a b (ConfRefused error) is = is
unsaid_unbrought before (Some what) a b DiskFault is = absurd is
unsaid_unbrought before (Some what) a b (NotAJournal slot at) is = is
unsaid_unbrought before (Some what) a b (JournalFull need limit) is = absurd is
unsaid_unbrought before (Some what) a b GateFault is = is
unsaid_unbrought before (Some what) a b SinkFault is = is
unsaid_unbrought before (Some what) a b ConfTooLarge is = is
unsaid_unbrought before (Some what) a b (PatternRefused jail place kind) is = is
unsaid_unbrought before (Some what) a b NumbersSpent is = absurd is
unsaid_unbrought before (Some what) a b NoMemory is = is

-- also where other calls came before
pub unsaid_later : (before : Clocked) (what : Option What) (a m b : Standing) (status : Status) → IsSteady a m → IsUnsaid m b status → IsUnbrought before what a b status
unsaid_later before what a m b status steady is = unsaid_unbrought before what a b status (unsaid_since a m b status steady is)

-- a refusal with a cause was said, or could not be said
refused_unbrought : (before : Clocked) (what : What) (a m b : Standing) (refusal status : Status) → IsUnbrought before (Some what) a b refusal → IsSteady a m → IsRefusedAs m b refusal status
    → IsUnbrought before (Some what) a b status
refused_unbrought before what a m b refusal status cause steady (inl is) =
    let P : Status → Type 0 = λ s. IsUnbrought before (Some what) a b s in
    subst P (sym is) cause
refused_unbrought before what a m b refusal status cause steady (inr is) = unsaid_later before (Some what) a m b status steady is

module _ (before : Clocked) (what : What) (a m b : Standing) (status : Status) where
  pub spent_unbrought : IsWritten before.engine.journal.limit (entry_at before what) a m (Err EngineSpent) → IsRefusedAs m b NumbersSpent status → IsUnbrought before (Some what) a b status
  spent_unbrought is refused =
      refused_unbrought before what a m b NumbersSpent status (spent_by before.engine.journal.limit (entry_at before what) a m is).0
      (written_steady before.engine.journal.limit (entry_at before what) a m (Err EngineSpent) is) refused

  pub full_unbrought : (need limit : ℕ) → IsWritten before.engine.journal.limit (entry_at before what) a m (Err (EngineFull need limit)) → IsRefusedAs m b (JournalFull need limit) status
      → IsUnbrought before (Some what) a b status
  full_unbrought need limit is refused =
      let by = full_by before.engine.journal.limit (entry_at before what) a m need limit is in
      refused_unbrought before what a m b (JournalFull need limit) status (by.0, by.1, by.2, by.3)
      (written_steady before.engine.journal.limit (entry_at before what) a m (Err (EngineFull need limit)) is) refused

  pub broken_unbrought : IsWritten before.engine.journal.limit (entry_at before what) a m (Err EngineFault) → IsSteady m b → IsRefusedAs m b DiskFault status
      → IsUnbrought before (Some what) a b status
  broken_unbrought is steady refused =
      let by = broken_by before.engine.journal.limit (entry_at before what) a m is in
      let first = written_steady before.engine.journal.limit (entry_at before what) a m (Err EngineFault) is in
      refused_unbrought before what a m b DiskFault status (cause_by_then a m b DiskFault first steady by.3.rose) first refused

-- memory ran out
pub memory_unbrought : (before : Clocked) (what : Option What) (a b : Standing) → IsUnbrought before what a b NoMemory
memory_unbrought before what a b = unsaid_unbrought before what a b NoMemory tt

pub ruleset writing = (write_done, write_spent, write_full, write_broken, write_short, written_steady, spent_unbrought, full_unbrought, broken_unbrought, memory_unbrought)
