-- What files hold, and what reading them answers.
use Rattle.std.specs.Prelude.{ℕ, ◌≡◌, ◌<◌, ◌≤◌, Option, Some, None, List, length, take, drop}
use Rattle.f2b_base.specs.declared.outside.TreeAnswer.{TreeAnswer}
use Rattle.f2b_base.specs.declared.outside.TreeAnswer.TheVariants.{Failed as TreeFailed}
use Rattle.f2b_world.specs.declared.answer.FileAnswer.{FileAnswer}
use Rattle.f2b_world.specs.declared.answer.FileAnswer.TheVariants.{Bytes as FileBytes, Absent as FileAbsent, TooLarge, Failed as FileFailed, NoMemory as FileNoMemory}
use Rattle.f2b_world.specs.declared.answer.FilePiece.{FilePiece}
use Rattle.f2b_world.specs.declared.answer.FilePiece.TheVariants.{Bytes as PieceBytes, Absent as PieceAbsent, Failed as PieceFailed, NoMemory as PieceNoMemory}
use Rattle.f2b_world.specs.Faults.{Fault, OfFiles}

-- the content of the file of a path, if there is one
abbrev pub Shelf : Type 0
Shelf = List ℕ → Option (List ℕ)

-- the most bytes of a file that is read whole
abbrev pub whole_file_bytes : ℕ
whole_file_bytes = 268435456

abbrev pub file_fault : FileAnswer → Option Fault
file_fault FileFailed = Some OfFiles
file_fault _ = None

abbrev pub piece_fault : FilePiece → Option Fault
piece_fault PieceFailed = Some OfFiles
piece_fault _ = None

abbrev pub tree_fault : TreeAnswer → Option Fault
tree_fault TreeFailed = Some OfFiles
tree_fault _ = None

-- a whole file, whose content is told
abbrev pub IsFile : Option (List ℕ) → FileAnswer → Type 0
IsFile content (FileBytes bytes) = content ≡ Some bytes
IsFile content FileAbsent = content ≡ None
IsFile content TooLarge = (bytes : List ℕ) × (content ≡ Some bytes) × (whole_file_bytes < length bytes)
IsFile content FileFailed = Unit {0}
IsFile content FileNoMemory = Unit {0}

-- the bytes of a file from a place on, as many as were asked for or all where there are fewer
abbrev pub IsPieceAt : Option (List ℕ) → ℕ → ℕ → FilePiece → Type 0
IsPieceAt content at max (PieceBytes bytes) = (whole : List ℕ) × (content ≡ Some whole) × (bytes ≡ take max (drop at whole))
IsPieceAt content at max PieceAbsent = content ≡ None
IsPieceAt content at max PieceFailed = Unit {0}
IsPieceAt content at max PieceNoMemory = Unit {0}

-- What follows holds whether files tell their content or not.

-- a file that is read whole has no more bytes than that
abbrev pub IsWholeFile : FileAnswer → Type 0
IsWholeFile (FileBytes bytes) = length bytes ≤ whole_file_bytes
IsWholeFile _ = Unit {0}

-- a piece has at most as many bytes as were asked for
abbrev pub IsShort : ℕ → FilePiece → Type 0
IsShort max (PieceBytes bytes) = length bytes ≤ max
IsShort max _ = Unit {0}
