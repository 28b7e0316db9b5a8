-- The exit status of the program.
use Rattle.std.specs.Prelude.{ℕ}
use Rattle.run_law.specs.declared.status.Status.{Status}
use Rattle.run_law.specs.declared.status.Status.TheVariants.{Stopped, TurnsSpent, WorkloadDone, Usage, ConfFault, ConfRefused, DiskFault, NotAJournal, JournalFull, GateFault, SinkFault, ConfTooLarge, PatternRefused, NumbersSpent, NoMemory}

-- the number that tells how a run ended
abbrev pub status_number : Status → ℕ
status_number Stopped = 0
status_number TurnsSpent = 0
status_number WorkloadDone = 0
status_number Usage = 2
status_number ConfFault = 3
status_number (ConfRefused error) = 4
status_number DiskFault = 5
status_number (NotAJournal slot at) = 6
status_number (JournalFull need limit) = 7
status_number GateFault = 8
status_number SinkFault = 9
status_number ConfTooLarge = 10
status_number (PatternRefused jail place kind) = 11
status_number NumbersSpent = 12
status_number NoMemory = 71
