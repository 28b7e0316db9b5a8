-- Which calls on the disk an input makes, and how they end.
use Rattle.std.specs.Prelude.{ℕ, ◌≡◌, ◌⊎◌, if◌then◌else◌, List, Result, Ok, Err}
use Rattle.f2b_base.specs.declared.input.Input.{Input}
use Rattle.f2b_model.specs.declared.told.Told.{Told}
use Rattle.f2b_model.specs.Lanes.{books_now}
use Rattle.f2b_model.specs.Steps.{moves_now}
use Rattle.f2b_model.specs.Views.{spread}
use Rattle.f2b_model.specs.Whole.{is_whole_spent}
use Rattle.f2b_world.specs.Told.{Standing}
use Rattle.ban_journal.specs.declared.append_error.AppendError.{AppendError}
use Rattle.ban_journal.specs.declared.append_error.AppendError.TheVariants.{DiskFault as JournalFault, Full as JournalFull}
use Rattle.ban_journal.specs.declared.append_error.AppendError.TheVariants.{Spent as JournalSpent, NoMemory as JournalMemory}
use Rattle.ban_journal.specs.Answers.{Wrote, Broke, Stopped, said}
use Rattle.slot_writes.specs.declared.position.Position.{Position}
use Rattle.slot_writes.specs.Entries.{Entry, Written, Full as EntryFull, Spent as EntrySpent, entry_of}
use Rattle.slot_writes.specs.Writes.{Write}
use Rattle.reconcile.specs.declared.engine_error.EngineError.{EngineError}
use Rattle.reconcile.specs.declared.engine_error.EngineError.TheVariants.{Spent, DiskFault, Full, NoMemory}
use Rattle.reconcile.specs.Engines.{EngineNow}

-- What becomes of an input: nothing where the numbers of the state are used up, else what becomes of it in the journal.
abbrev pub entry_for : EngineNow → Input → Entry
entry_for e i = if is_whole_spent moves_now books_now e.core then EntrySpent else entry_of e.journal (spread e.core) i

abbrev pub error_of : AppendError → EngineError
error_of JournalFault = DiskFault
error_of (JournalFull need limit) = Full need limit
error_of JournalSpent = Spent
error_of JournalMemory = NoMemory

-- the calls failed so
abbrev pub Fails : List Write → Standing → Standing → EngineError → Type 0
Fails ws old new DiskFault = Broke ws old new
Fails ws old new NoMemory = Stopped ws old new
Fails ws old new (Full need limit) = ⊥
Fails ws old new Spent = ⊥

-- no call was made, for this cause or for want of memory
abbrev pub Refuses : EngineError → Standing → Standing → Result Position EngineError → Type 0
Refuses cause old new (Ok p) = ⊥
Refuses cause old new (Err e) = ((e ≡ cause) ⊎ (e ≡ NoMemory)) × (new ≡ old)

-- What becomes of an input was done: the answer is where the journal stands then, or why not.
abbrev pub IsWritten : ℕ → Entry → Standing → Standing → Result Position EngineError → Type 0
IsWritten limit (Written next ws) old new (Ok p) = (p ≡ next) × Wrote ws old new
IsWritten limit (Written next ws) old new (Err e) = Fails ws old new e
IsWritten limit (EntryFull need) old new answer = Refuses (Full (said need) limit) old new answer
IsWritten limit EntrySpent old new answer = Refuses Spent old new answer

-- where the journal of the engine stands
abbrev pub journal_of : Result (EngineNow × Told) EngineError → Result Position EngineError
journal_of (Ok r) = Ok r.0.journal
journal_of (Err e) = Err e
