-- What the code keeps of a server to take inputs.
use Rattle.std.specs.Prelude.{ℕ, ◌≡◌, false, List, Option, Some, None}
use Rattle.f2b_base.specs.declared.input.Input.{Input}
use Rattle.f2b_base.specs.declared.input.What.{What}
use Rattle.f2b_model.specs.Lanes.{books_now}
use Rattle.f2b_model.specs.Sound.{IsSound}
use Rattle.f2b_model.specs.Steps.{moves_now}
use Rattle.f2b_model.specs.Whole.{is_whole_spent, now_of, step_now}
use Rattle.f2b_model.specs.Storable.{IsStorableInput}
use Rattle.f2b_world.specs.Faults.{OfDisk, Rose}
use Rattle.f2b_world.specs.Told.{History, Standing}
use Rattle.ban_journal.specs.Answers.{said}
use Rattle.ban_journal.specs.Places.{IsPlaced}
use Rattle.slot_writes.specs.Entries.{Entry, Full, Spent}
use Rattle.reconcile.specs.Answers.{entry_for}
use Rattle.log_set.specs.Logs.{IsSetOf}
use Rattle.run_law.specs.News.{News}
use Rattle.run_law.specs.Server.{Server, log_jails}
use Rattle.run_law.specs.Stages.{IsUnsaid}
use Rattle.run_law.specs.declared.status.Status.{Status}
use Rattle.run_law.specs.declared.status.Status.TheVariants.{DiskFault, JournalFull, NumbersSpent}
use Rattle.run_steps.specs.declared.clocked.Clocked.{Clocked}
use Rattle.run_steps.specs.declared.running.Running.{Running}

-- the middle state of a sound state, where its journal stands, and the time
pub record KeepsClocked (s : Server) (kept : Clocked) : Type 0 where
  pub core : kept.engine.core ≡ now_of s.state
  pub sound : IsSound s.state
  pub journal : kept.engine.journal ≡ s.position
  pub now : kept.now ≡ s.now
  pub word : kept.word ≡ s.word

-- besides, the followed logs of its jails, the commands that run, the clients, and the turns that are left
pub record KeepsRunning (s : Server) (kept : Running) : Type 0 where
  pub clocked : KeepsClocked s kept.clocked
  pub logs : IsSetOf kept.logs (log_jails s) s.logs
  pub children : kept.children ≡ s.children
  pub clients : kept.clients ≡ s.clients
  pub left : kept.left ≡ s.left

-- these news, whatever the server is
abbrev pub news_of : List (List ℕ) → Option What → List (List ℕ) → Server → News
news_of before what behind s = record { before = before; what = what; behind = behind }

-- what happened, at the last reading
abbrev pub input_of : Clocked → What → Input
input_of kept what = record { secs = kept.now; word = kept.word; what = what }

-- the time is the same
pub record IsTimedAlike (before after : Clocked) : Type 0 where
  pub now : after.now ≡ before.now
  pub word : after.word ≡ before.word

-- what becomes of it in the journal
abbrev pub entry_at : Clocked → What → Entry
entry_at kept what = entry_for kept.engine (input_of kept what)

-- it can be stored
abbrev pub IsStorableAt : Clocked → What → Type 0
IsStorableAt kept what = IsStorableInput (input_of kept what)

-- the slots are as long as the journal knows of them
abbrev pub IsPlacedIn : Option History → Clocked → Type 0
IsPlacedIn told kept = IsPlaced kept.engine.journal told

-- serials and ids are not used up
abbrev pub IsLive : Clocked → Type 0
IsLive kept = is_whole_spent moves_now books_now kept.engine.core ≡ false

-- what the code keeps has made the step of what happened, if that is an input
abbrev pub Makes : Clocked → Option What → Clocked → Type 0
Makes before None after = after.engine.core ≡ before.engine.core
Makes before (Some what) after = (after.engine.core ≡ step_now before.engine.core (input_of before what)) × IsLive before

-- What was brought was not taken: no number was left for what happened, or no room, the disk failed, or lines could not be said.
abbrev pub IsUnbrought : Clocked → Option What → Standing → Standing → Status → Type 0
IsUnbrought kept (Some what) old new NumbersSpent = entry_at kept what ≡ Spent
IsUnbrought kept (Some what) old new (JournalFull need limit) = (bytes : ℕ) × (entry_at kept what ≡ Full bytes) × (need ≡ said bytes) × (limit ≡ kept.engine.journal.limit)
IsUnbrought kept (Some what) old new DiskFault = Rose (old.faults OfDisk) (new.faults OfDisk)
IsUnbrought kept what old new status = IsUnsaid old new status
