-- What files in memory hold and tell.
use Rattle.std.specs.Prelude.{ℕ, Option, Some, None, List, []}
use Rattle.f2b_world.specs.declared.event.Event.{Event}
use Rattle.f2b_world.specs.Shelves.{Shelf}
use Rattle.f2b_world.specs.Faults.{Fault, OfPatterns, OfFiles}
use Rattle.f2b_world.specs.Told.{History, Standing}
use Rattle.f2b_mem.specs.Files.{file_in}
use Rattle.f2b_mem.specs.declared.calls.Calls.{Calls}
use Rattle.f2b_mem.specs.declared.files.MemFiles.{MemFiles}

abbrev pub shelf_of : MemFiles → Option Shelf
shelf_of m = Some (file_in m.files)

-- the events of the patterns that were made, as long as they are told
abbrev pub book_of : MemFiles → Option (List Event)
book_of m = m.book

-- the history of these events
abbrev pub made_of : Option (List Event) → Option History
made_of (Some events) = Some (record { first = λ slot. []; events = events })
made_of None = None

-- the count of each kind of fault
abbrev pub file_counts : ℕ → ℕ → Fault → ℕ
file_counts patterns files OfPatterns = patterns
file_counts patterns files OfFiles = files
file_counts patterns files _ = 0

abbrev pub faults_of : MemFiles → Fault → ℕ
faults_of m = file_counts m.pattern_faults m.file_faults

-- which calls fail, and how many were made
abbrev pub calls_of : MemFiles → Calls
calls_of m = m.calls

abbrev pub stands_of : MemFiles → Standing
stands_of m = record { told = made_of (book_of m); talk = None; shelf = shelf_of m; faults = faults_of m }
