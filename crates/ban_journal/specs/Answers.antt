-- What calls on the disk did, and what a journal answers.
use Rattle.std.specs.Prelude.{ℕ, ◌≡◌, ◌≢◌, ◌≤◌, ◌^◌, ◌-◌, min, List, Result, Ok, Err}
use Rattle.f2b_world.specs.Faults.{Fault as Kind, OfDisk, Rose}
use Rattle.f2b_world.specs.Told.{Standing, Leaves}
use Rattle.ban_journal.specs.declared.append_error.AppendError.{AppendError}
use Rattle.ban_journal.specs.declared.append_error.AppendError.TheVariants.{DiskFault, Full, Spent, NoMemory}
use Rattle.ban_journal.specs.declared.fault.Fault.{Fault}
use Rattle.ban_journal.specs.declared.fault.Fault.TheVariants.{Disk as FaultDisk, NoMemory as FaultMemory}
use Rattle.ban_journal.specs.Places.{IsNoShorter}
use Rattle.slot_writes.specs.declared.position.Position.{Position}
use Rattle.slot_writes.specs.Entries.{Entry, Written, Full as EntryFull, Spent as EntrySpent}
use Rattle.slot_writes.specs.Writes.{Write, Performs, Breaks, StopsShort}

-- Nothing but the disk was touched: the link and files are as before, and only its faults were counted.
pub record IsBeside (old new : Standing) : Type 0 where
  pub leaves : Leaves old new
  pub steady : (kind : Kind) → old.faults kind ≤ new.faults kind
  pub still : (kind : Kind) → kind ≢ OfDisk → new.faults kind ≡ old.faults kind

-- all of these calls were made, and done
pub record Wrote (ws : List Write) (old new : Standing) : Type 0 where
  pub performs : Performs ws old.told new.told
  pub beside : IsBeside old new
  pub longer : IsNoShorter old.told new.told

-- the disk failed at one of these calls, and tells it
pub record Broke (ws : List Write) (old new : Standing) : Type 0 where
  pub breaks : Breaks ws old.told new.told
  pub beside : IsBeside old new
  pub rose : Rose (old.faults OfDisk) (new.faults OfDisk)

-- nothing was done from one of these calls on
pub record Stopped (ws : List Write) (old new : Standing) : Type 0 where
  pub stops : StopsShort ws old.told new.told
  pub beside : IsBeside old new

abbrev pub Stops : List Write → Standing → Standing → Fault → Type 0
Stops ws old new FaultDisk = Broke ws old new
Stops ws old new FaultMemory = Stopped ws old new

abbrev pub error_of : Fault → AppendError
error_of FaultDisk = DiskFault
error_of FaultMemory = NoMemory

-- the calls failed so
abbrev pub Fails : List Write → Standing → Standing → AppendError → Type 0
Fails ws old new DiskFault = Broke ws old new
Fails ws old new NoMemory = Stopped ws old new
Fails ws old new (Full need limit) = ⊥
Fails ws old new Spent = ⊥

-- what was written, or how it failed
abbrev pub Writes : Position → List Write → Standing → Standing → Result Position AppendError → Type 0
Writes next ws old new (Ok after) = (after ≡ next) × Wrote ws old new
Writes next ws old new (Err e) = Fails ws old new e

-- the most that a number of bytes says
abbrev pub said : ℕ → ℕ
said n = min n (2 ^ 64 - 1)

-- A journal does with an input what becomes of it.
abbrev pub IsAnswer : ℕ → Entry → Standing → Standing → Result Position AppendError → Type 0
IsAnswer limit (Written next ws) old new answer = Writes next ws old new answer
IsAnswer limit (EntryFull need) old new answer = (answer ≡ Err (Full (said need) limit)) × (new ≡ old)
IsAnswer limit EntrySpent old new answer = (answer ≡ Err Spent) × (new ≡ old)
