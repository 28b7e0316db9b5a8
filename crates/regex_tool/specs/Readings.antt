-- What is read of files, and what comes of a log.
use Rattle.std.specs.Prelude.{◌≡◌, ◌≢◌, ◌≤◌, ◌⊎◌, ℕ, Bool, true, false, List, [], ◌∷◌, Option, Some, None, IfSome}
use Rattle.f2b_base.specs.declared.jail.JailDef.{JailDef}
use Rattle.f2b_world.specs.Faults.{Fault, OfFiles, Rose}
use Rattle.f2b_world.specs.Shelves.{Shelf}
use Rattle.f2b_world.specs.Told.{Standing, Leaves}
use Rattle.log_follow.specs.Lines.{line_of}
use Rattle.log_follow.specs.declared.line.Line.{Line}
use Rattle.regex_tool.specs.Asks.{Asks}
use Rattle.regex_tool.specs.Logs.{log_lines}
use Rattle.regex_tool.specs.Results.{AreResults, HasRead}
use Rattle.regex_tool.specs.declared.log_test.LogTest.{LogTest}
use Rattle.regex_tool.specs.declared.results.Results.{Results}
use Rattle.regex_tool.specs.declared.shows.Shows.{Shows}
use Rattle.regex_tool.specs.declared.status.ToolStatus.{ToolStatus}
use Rattle.regex_tool.specs.declared.status.ToolStatus.TheVariants.{FileFault, NoMemory}

-- Files were read, and nothing else was done.
pub record IsOpened (old new : Standing) : Type 0 where
  pub told : new.told ≡ old.told
  pub leaves : Leaves old new
  pub steady : old.faults OfFiles ≤ new.faults OfFiles
  pub still : (kind : Fault) → kind ≢ OfFiles → new.faults kind ≡ old.faults kind

-- a log that was read to its end, or that is not there
pub record IsWholeLog (shelf : Option Shelf) (path bytes : List ℕ) (old new : LogTest) : Type 0 where
  pub content : IfSome shelf (λ files. files path ≡ Some bytes)
  pub reads : (jail : JailDef) (shows : Shows) (now : ℕ) → HasRead jail shows now old [] → HasRead jail shows now new bytes

pub record IsNoLog (shelf : Option Shelf) (path : List ℕ) (old new : LogTest) : Type 0 where
  pub absent : IfSome shelf (λ files. files path ≡ None)
  pub reads : (jail : JailDef) (shows : Shows) (now : ℕ) → HasRead jail shows now old [] → HasRead jail shows now new []

abbrev pub IsLogRead : Option Shelf → List ℕ → LogTest → LogTest → Bool → Type 0
IsLogRead shelf path old new true = (bytes : List ℕ) × IsWholeLog shelf path bytes old new
IsLogRead shelf path old new false = IsNoLog shelf path old new

-- the lines of a log, or its path as one line where there is no such file
abbrev pub IsLog : Option Shelf → List ℕ → List Line → Type 0
IsLog shelf log lines =
    ((bytes : List ℕ) × IfSome shelf (λ files. files log ≡ Some bytes) × (lines ≡ log_lines bytes))
    ⊎ (IfSome shelf (λ files. files log ≡ None) × (lines ≡ line_of log ∷ []))

-- these come of the lines of the log
pub record IsOfLog (shelf : Option Shelf) (jail : JailDef) (asks : Asks) (now : ℕ) (results : Results) : Type 0 where
  pub lines : List Line
  pub log_is : IsLog shelf asks.log lines
  pub are : AreResults jail asks.shows now lines results

abbrev pub HasLogCause : Standing → Standing → ToolStatus → Type 0
HasLogCause old new FileFault = Rose (old.faults OfFiles) (new.faults OfFiles)
HasLogCause old new NoMemory = Unit {0}
HasLogCause old new _ = ⊥
