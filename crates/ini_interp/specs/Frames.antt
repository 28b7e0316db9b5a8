-- The files that are being read, and what is left to do with each.
use Rattle.std.specs.Prelude.{◌≡◌, ◌≢◌, ℕ, zero, suc, ◌+◌, ◌*◌, ◌-◌, List, [], ◌∷◌, ◌++◌, length, map, fold, Option, None, Some, Result, Ok, Err, Bool, false, codes}
use Rattle.ini_interp.specs.declared.frames.Frame.{Frame}
use Rattle.ini_interp.specs.declared.frames.Step.{Step}
use Rattle.ini_interp.specs.declared.frames.Step.TheVariants.{Include, Join}
use Rattle.ini_interp.specs.declared.error.IniError.{IniError}
use Rattle.ini_interp.specs.declared.merge_error.MergeError.{MergeError}
use Rattle.ini_interp.specs.declared.merge_error.MergeError.TheVariants.{Ini}
use Rattle.ini_interp.specs.Files.{file_of}
use Rattle.ini_interp.specs.InTurn.{followed, in_turn}
use Rattle.ini_interp.specs.Joins.{joined}
use Rattle.ini_interp.specs.Merges.{Files, FilesRead, includes, included, read_with, is_among}
use Rattle.ini_interp.specs.Sections.{Sections, value_of}

-- what is to be done with a file
abbrev pub steps_of : Sections → List Step
steps_of file = map Include (includes file (codes "before")) ++ Join file ∷ map Include (includes file (codes "after"))

-- what reading a file adds, where these files are being read
abbrev pub read_at : Files → List (List ℕ) → List ℕ → List ℕ → FilesRead
read_at files way = read_with files (length files - length way) way

-- what a step of a file adds; the file stands first on the way
abbrev pub step_adds : Files → List (List ℕ) → List ℕ → Step → FilesRead
step_adds files way file (Include name) = included files (read_at files way) way file name
step_adds files way file (Join sections) = Ok (sections ∷ [])

-- what the steps of these frames add, those of the last first, where these files are being read below them
abbrev pub pending : Files → List (List ℕ) → List Frame → FilesRead
pending files way [] = Ok []
pending files way (frame ∷ frames) =
    followed (pending files (frame.path ∷ way) frames) (in_turn (step_adds files (frame.path ∷ way) frame.path) frame.steps.items)

-- the way on which the frames stand
abbrev pub way_of : List (List ℕ) → List Frame → List (List ℕ)
way_of way [] = way
way_of way (frame ∷ frames) = way_of (frame.path ∷ way) frames

-- each path is that of a file, and none stands twice
abbrev pub IsWay : Files → List (List ℕ) → Type 0
IsWay files [] = Unit {0}
IsWay files (path ∷ way) = (is_among way path ≡ false) × (value_of path files ≢ None) × IsWay files way

-- what was pending is now laid over the sections, or is pending still
pub record IsKept (was now : FilesRead) (old new : Sections) : Type 0 where
  pub done : List Sections
  pub pending : was ≡ followed (Ok done) now
  pub merged : new ≡ fold joined old done

-- a file that is read now: its frame has all its steps
pub record IsOpened (path content : List ℕ) (frame : Frame) : Type 0 where
  pub path_is : frame.path ≡ path
  pub file : Sections
  pub meaning : file_of content ≡ Ok file
  pub steps : frame.steps.items ≡ steps_of file

-- a file that is at fault
pub record IsFaulty (path content : List ℕ) (fault : MergeError) : Type 0 where
  pub error : IniError
  pub meaning : file_of content ≡ Err error
  pub fault_is : fault ≡ Ini path error

-- what a file on the way includes under a name is there, and is read now
pub record IsEntered (files : Files) (way : List (List ℕ)) (file name : List ℕ) (frame : Frame) : Type 0 where
  pub content : List ℕ
  pub apart : is_among way frame.path ≡ false
  pub there : value_of frame.path files ≡ Some content
  pub reads : included files (read_at files way) way file name ≡ read_at files way frame.path content
  pub opened : IsOpened frame.path content frame

-- How much there is to do. A step costs less than the steps of a file that it may read.

abbrev pub steps_in : Result Sections IniError → ℕ
steps_in (Err error) = 0
steps_in (Ok file) = length (steps_of file)

-- the steps of all files
abbrev pub most_steps : Files → ℕ
most_steps [] = 0
most_steps (file ∷ files) = steps_in (file_of file.1) + most_steps files

-- what a step costs at most, where so many more files may stand on the way
unfoldable pub cost : Files → ℕ → ℕ
cost files zero = 1
cost files (suc left) = 2 + most_steps files * cost files left

abbrev pub weight : Files → List (List ℕ) → List Frame → ℕ
weight files way [] = 0
weight files way (frame ∷ frames) =
    1 + length frame.steps.items * cost files (length files - length (frame.path ∷ way)) + weight files (frame.path ∷ way) frames
