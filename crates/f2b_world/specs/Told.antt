-- The history that a world keeps, and what a call does to it.
use Rattle.std.specs.Prelude.{ℕ, ◌≡◌, ◌==◌, ◌||◌, Bool, false, if◌then◌else◌, ◌≤◌, ◌-◌, Option, Some, None, IfSome, List, [], ◌∷◌, ◌++◌, length, take, drop, min}
use Rattle.f2b_base.specs.declared.outside.TreeAnswer.{TreeAnswer}
use Rattle.f2b_base.specs.declared.outside.TreeAnswer.TheVariants.{Tree as ConfigTree, Failed as ConfigFailed, TooLarge as ConfigTooLarge, NoMemory as ConfigNoMemory}
use Rattle.f2b_world.specs.declared.answer.Accept.TheVariants.{Conn, Failed as AcceptFailed}
use Rattle.f2b_world.specs.declared.answer.GateRead.{GateRead}
use Rattle.f2b_world.specs.declared.answer.GateRead.TheVariants.{Bytes as ReadBytes, Quiet as ReadQuiet, End as ReadEnd, Failed as ReadFailed, NoMemory as ReadNoMemory}
use Rattle.f2b_world.specs.declared.answer.GateWrite.{GateWrite}
use Rattle.f2b_world.specs.declared.answer.GateWrite.TheVariants.{Took, Failed as TookFailed}
use Rattle.f2b_world.specs.declared.answer.Len.TheVariants.{Bytes as LenBytes, Failed as LenFailed}
use Rattle.f2b_world.specs.declared.answer.Listen.TheVariants.{Failed as ListenFailed}
use Rattle.f2b_world.specs.declared.answer.Look.{Look}
use Rattle.f2b_world.specs.declared.answer.Look.TheVariants.{File, Absent as LookAbsent, Failed as LookFailed, NoMemory as LookNoMemory}
use Rattle.f2b_world.specs.declared.answer.MakeAnswer.TheVariants.{Built as WasBuilt, Syntax as WasSyntax, TooBig as WasTooBig}
use Rattle.f2b_world.specs.declared.answer.NamesAnswer.{NamesAnswer}
use Rattle.f2b_world.specs.declared.answer.NamesAnswer.TheVariants.{Names as NamesGiven, Absent as NamesAbsent, Failed as NamesFailed, NoMemory as NamesNoMemory}
use Rattle.f2b_world.specs.declared.answer.Piece.{Piece}
use Rattle.f2b_world.specs.declared.answer.Piece.TheVariants.{Bytes as PieceBytes, Failed as PieceFailed, NoMemory as PieceNoMemory}
use Rattle.f2b_world.specs.declared.answer.PollAnswer.TheVariants.{Failed as PollFailed}
use Rattle.f2b_world.specs.declared.answer.Said.TheVariants.{Failed as SayFailed}
use Rattle.f2b_world.specs.declared.answer.StartAnswer.{StartAnswer}
use Rattle.f2b_world.specs.declared.answer.StartAnswer.TheVariants.{Started, Failed as StartFailed, NoMemory as StartNoMemory}
use Rattle.f2b_world.specs.declared.answer.StoreAnswer.{StoreAnswer}
use Rattle.f2b_world.specs.declared.answer.StoreAnswer.TheVariants.{Kept, NoMemory as StoreNoMemory}
use Rattle.f2b_world.specs.declared.answer.Synced.TheVariants.{Failed as SyncFailed}
use Rattle.f2b_world.specs.declared.answer.Wrote.{Wrote}
use Rattle.f2b_world.specs.declared.answer.Wrote.TheVariants.{Done as WroteDone, Failed as WriteFailed, NoMemory as WriteNoMemory}
use Rattle.f2b_world.specs.declared.event.Event.{Event}
use Rattle.f2b_world.specs.declared.event.Event.TheVariants.{Say, DiskLen, DiskRead, DiskWrite, DiskSync, Make, Config, StoreAt, Names, Look as LookAt, ChildStart, ChildPoll, GateListen, GateAccept, GateRead as ReadFrom, GateWrite as WriteTo, GateClose}
use Rattle.f2b_world.specs.declared.pattern.Made.{Made}
use Rattle.f2b_world.specs.declared.pattern.Made.TheVariants.{Built, Syntax, TooBig, NoMemory as MadeNoMemory}
use Rattle.f2b_world.specs.Bounds.{IsBounded}
use Rattle.f2b_world.specs.Faults.{Fault, OfSink, OfDisk, OfPatterns, OfConfiguration, OfLogs, OfChildren, OfGate, Counted}
use Rattle.f2b_world.specs.Links.{Talk, Goes}
use Rattle.f2b_world.specs.Shelves.{Shelf}
use Rattle.f2b_world.specs.Slots.{Slot, settled, slot_after}
use Rattle.f2b_world.specs.Trees.{IsInByteOrder}

-- what the slots held as the history began, and the events since
pub record History : Type 0 where
  pub first : ℕ → List ℕ
  pub events : List Event

-- What is known of a world: its history, what was said over its link and what its files hold, each where it tells that, and how
-- often each kind of fault came.
pub record Standing : Type 0 where
  pub told : Option History
  pub talk : Option Talk
  pub shelf : Option Shelf
  pub faults : Fault → ℕ

-- what was said over the link, and what files hold, is as before
pub record Leaves (old new : Standing) : Type 0 where
  pub talk : new.talk ≡ old.talk
  pub shelf : new.shelf ≡ old.shelf

-- a history after these events more
abbrev pub grown : History → List Event → History
grown g es = record { first = g.first; events = g.events ++ es }

-- the slot at the end of a history
abbrev pub slot_of : History → ℕ → Slot
slot_of g slot = slot_after slot (settled (g.first slot)) g.events

-- The history goes on by events for which P holds, as long as it is told. It is not told again once it was not.
abbrev pub Adds : Option History → Option History → (History → List Event → Type 0) → Type 0
Adds old new P = IfSome new (λ h. (g : History) × (es : List Event) × (old ≡ Some g) × (h ≡ grown g es) × P g es)

-- the fault that an event tells
abbrev pub fault_of : Event → Option Fault
fault_of (Say bytes SayFailed) = Some OfSink
fault_of (DiskLen slot LenFailed) = Some OfDisk
fault_of (DiskRead slot at len PieceFailed) = Some OfDisk
fault_of (DiskWrite slot at bytes WriteFailed) = Some OfDisk
fault_of (DiskSync slot SyncFailed) = Some OfDisk
fault_of (Make text WasTooBig) = Some OfPatterns
fault_of (Config root ConfigFailed) = Some OfConfiguration
fault_of (Names dir NamesFailed) = Some OfLogs
fault_of (LookAt path head from max LookFailed) = Some OfLogs
fault_of (ChildStart job text StartFailed) = Some OfChildren
fault_of (ChildPoll job PollFailed) = Some OfChildren
fault_of (GateListen path ListenFailed) = Some OfGate
fault_of (GateAccept AcceptFailed) = Some OfGate
fault_of (ReadFrom conn max ReadFailed) = Some OfGate
fault_of (WriteTo conn bytes TookFailed) = Some OfGate
fault_of _ = None

abbrev pub is_in : ℕ → List ℕ → Bool
is_in n [] = false
is_in n (m ∷ ms) = (n == m) || is_in n ms

abbrev pub left_out : ℕ → List ℕ → List ℕ
left_out n [] = []
left_out n (m ∷ ms) = if n == m then left_out n ms else m ∷ left_out n ms

-- the numbers of the clients that were accepted and not closed since
abbrev pub connected_after : List ℕ → List Event → List ℕ
connected_after conns [] = conns
connected_after conns (GateAccept (Conn conn) ∷ es) = connected_after (conn ∷ conns) es
connected_after conns (GateClose conn ∷ es) = connected_after (left_out conn conns) es
connected_after conns (_ ∷ es) = connected_after conns es

-- what a told disk answers is what its slot holds, and a client that is accepted gets a number that is not in use
abbrev pub IsHonest : History → Event → Type 0
IsHonest g (DiskLen slot (LenBytes n)) = n ≡ length (slot_of g slot).now
IsHonest g (DiskRead slot at len (PieceBytes bytes)) = bytes ≡ take len (drop at (slot_of g slot).now)
IsHonest g (GateAccept (Conn conn)) = is_in conn (connected_after [] g.events) ≡ false
IsHonest g _ = Unit {0}

-- One call: it adds its event, and its fault is counted where it failed.
pub record Called (old : Standing) (event : Event) (new : Standing) : Type 0 where
  pub adds : Adds old.told new.told (λ g es. (es ≡ event ∷ []) × IsHonest g event)
  pub bounded : IsBounded event
  pub leaves : Leaves old new
  pub counts : Counted (fault_of event) old.faults new.faults

-- a call that may have found no memory, and then did nothing
abbrev pub Asked : Standing → Option Event → Standing → Type 0
Asked old (Some event) new = Called old event new
Asked old None new = new ≡ old

abbrev pub read_event : ℕ → ℕ → ℕ → Piece → Option Event
read_event slot at len PieceNoMemory = None
read_event slot at len (PieceBytes bytes) = Some (DiskRead slot at len (PieceBytes bytes))
read_event slot at len PieceFailed = Some (DiskRead slot at len PieceFailed)

abbrev pub write_event : ℕ → ℕ → List ℕ → Wrote → Option Event
write_event slot at bytes WriteNoMemory = None
write_event slot at bytes WroteDone = Some (DiskWrite slot at bytes WroteDone)
write_event slot at bytes WriteFailed = Some (DiskWrite slot at bytes WriteFailed)

abbrev pub make_event : List ℕ → Made → Option Event
make_event text MadeNoMemory = None
make_event text (Built pattern) = Some (Make text WasBuilt)
make_event text Syntax = Some (Make text WasSyntax)
make_event text TooBig = Some (Make text WasTooBig)

abbrev pub config_event : List ℕ → TreeAnswer → Option Event
config_event root ConfigNoMemory = None
config_event root (ConfigTree tree) = Some (Config root (ConfigTree tree))
config_event root ConfigFailed = Some (Config root ConfigFailed)
config_event root ConfigTooLarge = Some (Config root ConfigTooLarge)

abbrev pub store_event : List ℕ → StoreAnswer → Option Event
store_event socket StoreNoMemory = None
store_event socket Kept = Some (StoreAt socket Kept)

abbrev pub names_event : List ℕ → NamesAnswer → Option Event
names_event dir NamesNoMemory = None
names_event dir (NamesGiven names) = Some (Names dir (NamesGiven names))
names_event dir NamesAbsent = Some (Names dir NamesAbsent)
names_event dir NamesFailed = Some (Names dir NamesFailed)

abbrev pub look_event : List ℕ → ℕ → ℕ → ℕ → Look → Option Event
look_event path head from max LookNoMemory = None
look_event path head from max (File file) = Some (LookAt path head from max (File file))
look_event path head from max LookAbsent = Some (LookAt path head from max LookAbsent)
look_event path head from max LookFailed = Some (LookAt path head from max LookFailed)

abbrev pub start_event : ℕ → List ℕ → StartAnswer → Option Event
start_event job text StartNoMemory = None
start_event job text Started = Some (ChildStart job text Started)
start_event job text StartFailed = Some (ChildStart job text StartFailed)

abbrev pub receive_event : ℕ → ℕ → GateRead → Option Event
receive_event conn max ReadNoMemory = None
receive_event conn max (ReadBytes bytes) = Some (ReadFrom conn max (ReadBytes bytes))
receive_event conn max ReadQuiet = Some (ReadFrom conn max ReadQuiet)
receive_event conn max ReadEnd = Some (ReadFrom conn max ReadEnd)
receive_event conn max ReadFailed = Some (ReadFrom conn max ReadFailed)

-- A call on the link, by which the talk goes on as P says. It is no event.
pub record Spoken (old : Standing) (failed : Option Fault) (P : Talk → Talk → Type 0) (new : Standing) : Type 0 where
  pub told : new.told ≡ old.told
  pub talk : Goes old.talk new.talk P
  pub shelf : new.shelf ≡ old.shelf
  pub counts : Counted failed old.faults new.faults

-- A call on files, whose answer tells what they hold. It is no event.
pub record Opened (old : Standing) (failed : Option Fault) (P : Shelf → Type 0) (new : Standing) : Type 0 where
  pub told : new.told ≡ old.told
  pub answer : IfSome old.shelf P
  pub leaves : Leaves old new
  pub counts : Counted failed old.faults new.faults

-- where the history is told, the slot is at least so long
abbrev pub HasLength : Option History → ℕ → ℕ → Type 0
HasLength told slot n = (g : History) → told ≡ Some g → n ≤ length (slot_of g slot).now

-- What follows holds in every world, told or not.

-- a read gives exactly as many bytes as were asked for
abbrev pub IsPieceOf : ℕ → Piece → Type 0
IsPieceOf len (PieceBytes bytes) = length bytes ≡ len
IsPieceOf len _ = Unit {0}

-- what a look gives is as long as it was asked, or all that stands in the file from there on
abbrev pub KeepsBounds : ℕ → ℕ → ℕ → Look → Type 0
KeepsBounds head from max (File file) = (length file.head ≡ min head file.size) × (length file.bytes ≡ min max (file.size - from))
KeepsBounds head from max _ = Unit {0}

-- the names in a directory are in byte order
abbrev pub KeepsNames : NamesAnswer → Type 0
KeepsNames (NamesGiven names) = IsInByteOrder names
KeepsNames _ = Unit {0}

-- a client's bytes are at least one, and at most as many as were asked for
abbrev pub IsReceived : ℕ → GateRead → Type 0
IsReceived max (ReadBytes bytes) = (1 ≤ length bytes) × (length bytes ≤ max)
IsReceived max _ = Unit {0}

-- a client takes at least one byte, and at most as many as it was given
abbrev pub IsTaken : ℕ → GateWrite → Type 0
IsTaken given (Took n) = (1 ≤ n) × (n ≤ given)
IsTaken given _ = Unit {0}
