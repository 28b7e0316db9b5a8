-- What a script answers to a call, by the events before it.
use Rattle.std.specs.Prelude.{ℕ, ◌≡◌, ◌==◌, ◌+◌, Bool, true, false, not, ◌&&◌, if◌then◌else◌, leb, Option, Some, None, List, [], ◌∷◌, ◌++◌, length, take, drop, min, max, slice_get, count_by}
use Rattle.std.specs.Bool.{MatchBool}
use Rattle.std.specs.List.{list_any}
use Rattle.f2b_base.specs.declared.outside.TreeAnswer.TheVariants.{Failed as ConfigFailed}
use Rattle.f2b_world.specs.declared.answer.Accept.{Accept}
use Rattle.f2b_world.specs.declared.answer.Accept.TheVariants.{Conn, Quiet as AcceptQuiet, Failed as AcceptFailed}
use Rattle.f2b_world.specs.declared.answer.GateRead.{GateRead}
use Rattle.f2b_world.specs.declared.answer.GateRead.TheVariants.{Bytes as ReadBytes, Quiet as ReadQuiet, Failed as ReadFailed}
use Rattle.f2b_world.specs.declared.answer.GateWrite.TheVariants.{Took, Failed as TookFailed}
use Rattle.f2b_world.specs.declared.answer.Len.TheVariants.{Bytes as LenBytes, Failed as LenFailed}
use Rattle.f2b_world.specs.declared.answer.Listen.TheVariants.{Listening, Failed as ListenFailed}
use Rattle.f2b_world.specs.declared.answer.Look.TheVariants.{Failed as LookFailed}
use Rattle.f2b_world.specs.declared.answer.MakeAnswer.TheVariants.{TooBig as WasTooBig}
use Rattle.f2b_world.specs.declared.answer.NamesAnswer.TheVariants.{Failed as NamesFailed}
use Rattle.f2b_world.specs.declared.answer.Piece.TheVariants.{Bytes as PieceBytes, Failed as PieceFailed}
use Rattle.f2b_world.specs.declared.answer.PollAnswer.TheVariants.{Failed as PollFailed}
use Rattle.f2b_world.specs.declared.answer.Said.TheVariants.{Done as SayDone, Failed as SayFailed}
use Rattle.f2b_world.specs.declared.answer.StartAnswer.TheVariants.{Started, Failed as StartFailed}
use Rattle.f2b_world.specs.declared.answer.StoreAnswer.TheVariants.{Kept}
use Rattle.f2b_world.specs.declared.answer.Synced.TheVariants.{Done as SyncDone, Failed as SyncFailed}
use Rattle.f2b_world.specs.declared.answer.Wrote.TheVariants.{Done as WroteDone, Failed as WriteFailed}
use Rattle.f2b_world.specs.declared.event.Event.{Event}
use Rattle.f2b_world.specs.declared.event.Event.TheVariants.{Say, DiskLen, DiskRead, DiskWrite, DiskSync, Make, Clock, Config, StoreAt, Names, Look as LookAt, ChildStart, ChildPoll, ChildKill, GateListen, GateAccept, GateRead as ReadFrom, GateWrite as WriteTo, GateClose, Pause}
use Rattle.f2b_world.specs.Slots.{Slot, settled, slot_after}
use Rattle.f2b_mem.specs.Commands.{polled, ran_in}
use Rattle.f2b_mem.specs.Listings.{IsListing}
use Rattle.f2b_mem.specs.Script.{reading_at, tree_at, content_at, seen, slots_of}
use Rattle.f2b_mem.specs.declared.script.ClientPlan.{ClientPlan}
use Rattle.f2b_mem.specs.declared.script.Script.{Script}

abbrev pub is_clock : Event → Bool
is_clock (Clock answer) = true
is_clock _ = false

abbrev pub is_config : Event → Bool
is_config (Config root answer) = true
is_config _ = false

abbrev pub is_pause : Event → Bool
is_pause (Pause ms) = true
is_pause _ = false

-- the numbers of the clients that were accepted
abbrev pub accepted_in : List Event → List ℕ
accepted_in [] = []
accepted_in (GateAccept (Conn conn) ∷ events) = conn ∷ accepted_in events
accepted_in (_ ∷ events) = accepted_in events

-- the first client, from that number on, that has connected after so many pauses and was not accepted
abbrev pub first_waiting : ℕ → List ClientPlan → ℕ → List ℕ → Option ℕ
first_waiting number [] pauses accepted = None
first_waiting number (plan ∷ plans) pauses accepted = if leb plan.pauses pauses && not (list_any (λ other. other == number) accepted) then Some number else first_waiting (number + 1) plans pauses accepted

abbrev pub accepting : Option ℕ → Accept
accepting (Some number) = Conn number
accepting None = AcceptQuiet

-- how many bytes a client gave
abbrev pub given_to : ℕ → List Event → ℕ
given_to conn [] = 0
given_to conn (ReadFrom other most (ReadBytes bytes) ∷ events) = (if other == conn then length bytes else 0) + given_to conn events
given_to conn (_ ∷ events) = given_to conn events

-- the bytes that a client gives next, which gave so many
abbrev pub giving : Option ClientPlan → ℕ → ℕ → List ℕ
giving None given most = []
giving (Some plan) given most = take (min most (max 1 plan.piece)) (drop given plan.sent)

abbrev pub receiving : List ℕ → GateRead
receiving [] = ReadQuiet
receiving (byte ∷ bytes) = ReadBytes (byte ∷ bytes)

-- a call fails where its place in the history, from 0, is listed
abbrev pub fails : Script → List Event → Bool
fails script before = list_any (λ place. place == length before) script.fails

-- the slot after these events
abbrev pub slot_in : Script → List Event → ℕ → Slot
slot_in script events slot = slot_after slot (settled (slots_of script.image slot)) events

-- The call of an event with the answer that the script gives to it after the events before it. Of a pattern the script says only
-- whether it is refused, and `Lists` says what a listing has.
abbrev pub played : Script → List Event → Event → Event
played script before (Say bytes answer) = Say bytes (if fails script before then SayFailed else SayDone)
played script before (DiskLen slot answer) = DiskLen slot (if fails script before then LenFailed else LenBytes (length (slot_in script before slot).now))
played script before (DiskRead slot at len answer) = DiskRead slot at len (if fails script before then PieceFailed else PieceBytes (take len (drop at (slot_in script before slot).now)))
played script before (DiskWrite slot at bytes answer) = DiskWrite slot at bytes (if fails script before then WriteFailed else WroteDone)
played script before (DiskSync slot answer) = DiskSync slot (if fails script before then SyncFailed else SyncDone)
played script before (Make text answer) = Make text (if fails script before then WasTooBig else answer)
played script before (Clock answer) = Clock (reading_at script.readings (count_by is_clock before))
played script before (Config root answer) = Config root (if fails script before then ConfigFailed else tree_at script.trees (count_by is_config before))
played script before (StoreAt socket answer) = StoreAt socket Kept
played script before (Names dir answer) = Names dir (if fails script before then NamesFailed else answer)
played script before (LookAt path head from max answer) = LookAt path head from max (if fails script before then LookFailed else seen (content_at script.changes path (count_by is_pause before)) head from max)
played script before (ChildStart job text answer) = ChildStart job text (if fails script before then StartFailed else Started)
played script before (ChildPoll job answer) = ChildPoll job (if fails script before then PollFailed else polled script.children (ran_in before).running job)
played script before (ChildKill job) = ChildKill job
played script before (GateListen path answer) = GateListen path (if fails script before then ListenFailed else Listening)
played script before (GateAccept answer) = GateAccept (if fails script before then AcceptFailed else accepting (first_waiting 0 script.clients (count_by is_pause before) (accepted_in before)))
played script before (ReadFrom conn most answer) = ReadFrom conn most (if fails script before then ReadFailed else receiving (giving (slice_get script.clients conn) (given_to conn before) most))
played script before (WriteTo conn bytes answer) = WriteTo conn bytes (if fails script before then TookFailed else Took (length bytes))
played script before (GateClose conn) = GateClose conn
played script before (Pause ms) = Pause ms

-- a listing fails where the script says so, and else has the names that the script gives after the pauses before it
abbrev pub Lists : Script → List Event → Event → Type 0
Lists script before (Names dir answer) = MatchBool (fails script before) (answer ≡ NamesFailed) (IsListing script.changes dir (count_by is_pause before) answer)
Lists script before _ = Unit {0}

-- each event has the answer that the script gives to it after the events before it
abbrev pub Plays : Script → List Event → Type 0
Plays script events = (before : List Event) (event : Event) (later : List Event) → events ≡ before ++ event ∷ later → (event ≡ played script before event) × Lists script before event
