-- What an event's answer has of the types that it has in code: numbers and bytes are below a bound, and texts are UTF-8. In a
-- history they are plain numbers and lists, and what is written of them is read again only where they are so.
use Rattle.std.specs.Prelude.{ℕ, List, slice_index, ◌<◌, ◌^◌, All, FitsSigned, IsUtf8}
use Rattle.std.specs.Int.{w32}
use Rattle.f2b_base.specs.declared.outside.Reading.{Reading}
use Rattle.f2b_base.specs.declared.outside.TreeAnswer.{TreeAnswer}
use Rattle.f2b_base.specs.declared.outside.TreeAnswer.TheVariants.{Tree as ConfigTree}
use Rattle.f2b_base.specs.declared.outside.TreeFile.{TreeFile}
use Rattle.f2b_world.specs.declared.answer.Accept.{Accept}
use Rattle.f2b_world.specs.declared.answer.Accept.TheVariants.{Conn}
use Rattle.f2b_world.specs.declared.answer.GateRead.{GateRead}
use Rattle.f2b_world.specs.declared.answer.GateRead.TheVariants.{Bytes as ReadBytes}
use Rattle.f2b_world.specs.declared.answer.GateWrite.{GateWrite}
use Rattle.f2b_world.specs.declared.answer.GateWrite.TheVariants.{Took}
use Rattle.f2b_world.specs.declared.answer.Len.{Len}
use Rattle.f2b_world.specs.declared.answer.Len.TheVariants.{Bytes as LenBytes, Failed as LenFailed}
use Rattle.f2b_world.specs.declared.answer.Look.{Look}
use Rattle.f2b_world.specs.declared.answer.Look.TheVariants.{File}
use Rattle.f2b_world.specs.declared.answer.NamesAnswer.{NamesAnswer}
use Rattle.f2b_world.specs.declared.answer.NamesAnswer.TheVariants.{Names}
use Rattle.f2b_world.specs.declared.answer.Piece.{Piece}
use Rattle.f2b_world.specs.declared.answer.Piece.TheVariants.{Bytes as PieceBytes}
use Rattle.f2b_world.specs.declared.answer.PollAnswer.{PollAnswer}
use Rattle.f2b_world.specs.declared.answer.PollAnswer.TheVariants.{Ended}
use Rattle.f2b_world.specs.declared.event.Event.{Event}
use Rattle.f2b_world.specs.declared.event.Event.TheVariants.{DiskLen, DiskRead, Clock, Config, Names as NamesIn, Look as LookAt, ChildPoll, GateAccept, GateRead as ReadFrom, GateWrite as WriteTo}

-- each is a byte
abbrev pub AreBytes : List ℕ → Type 0
AreBytes bytes = (i : ℕ) → slice_index bytes i < 256

-- a moment and a word
pub record IsReading (reading : Reading) : Type 0 where
  pub secs : reading.secs < 2 ^ 64
  pub word : reading.word < 2 ^ 64

-- the length of a slot
abbrev pub FitsLen : Len → Type 0
FitsLen (LenBytes n) = n < 2 ^ 64
FitsLen LenFailed = Unit {0}

-- the bytes of a slot
abbrev pub FitsPiece : Piece → Type 0
FitsPiece (PieceBytes bytes) = AreBytes bytes
FitsPiece _ = Unit {0}

-- the path and the bytes of a file of a configuration
pub record FitsFile (file : TreeFile) : Type 0 where
  pub path : IsUtf8 file.path
  pub content : AreBytes file.content

-- the files of a configuration
abbrev pub FitsTree : TreeAnswer → Type 0
FitsTree (ConfigTree tree) = All FitsFile tree.files
FitsTree _ = Unit {0}

-- the size and the bytes of a file that was looked at
abbrev pub FitsLook : Look → Type 0
FitsLook (File file) = (file.size < 2 ^ 64) × AreBytes file.head × AreBytes file.bytes
FitsLook _ = Unit {0}

-- the status of a command
abbrev pub FitsPoll : PollAnswer → Type 0
FitsPoll (Ended status) = FitsSigned w32 status
FitsPoll _ = Unit {0}

-- the number of a client
abbrev pub FitsAccept : Accept → Type 0
FitsAccept (Conn conn) = conn < 2 ^ 32
FitsAccept _ = Unit {0}

-- what a client sent
abbrev pub FitsRead : GateRead → Type 0
FitsRead (ReadBytes bytes) = AreBytes bytes
FitsRead _ = Unit {0}

-- how many bytes a client took
abbrev pub FitsWrite : GateWrite → Type 0
FitsWrite (Took n) = n < 2 ^ 32
FitsWrite _ = Unit {0}

-- the names in a directory
abbrev pub FitsNames : NamesAnswer → Type 0
FitsNames (Names names) = All IsUtf8 names
FitsNames _ = Unit {0}

-- the numbers and texts of an event's answer
abbrev pub IsBounded : Event → Type 0
IsBounded (DiskLen slot answer) = FitsLen answer
IsBounded (DiskRead slot at len answer) = FitsPiece answer
IsBounded (Clock answer) = IsReading answer
IsBounded (Config root answer) = FitsTree answer
IsBounded (LookAt path head from max answer) = FitsLook answer
IsBounded (NamesIn dir answer) = FitsNames answer
IsBounded (ChildPoll job answer) = FitsPoll answer
IsBounded (GateAccept answer) = FitsAccept answer
IsBounded (ReadFrom conn max answer) = FitsRead answer
IsBounded (WriteTo conn bytes answer) = FitsWrite answer
IsBounded _ = Unit {0}
