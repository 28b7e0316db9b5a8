-- Calls on the outside with their arguments, and which event is which call.
use Rattle.std.specs.Prelude.{ℕ, ◌≡◌, List, length, Option, Some, None}
use Rattle.f2b_world.specs.Told.{IsReceived, IsTaken}
use Rattle.f2b_world.specs.declared.event.Event.{Event}
use Rattle.f2b_world.specs.declared.event.Event.TheVariants.{Say, DiskWrite, DiskSync, Make, Clock, Config, StoreAt, Names, Look as LookAt, ChildStart, ChildPoll, ChildKill, GateListen, GateAccept, GateRead, GateWrite, GateClose, Pause}
use Rattle.slot_writes.specs.Writes.{Write, Put, Sync}

pub data Call : Type 0 where
  AskSay : List ℕ → Call
  AskWrite : Write → Call
  AskTree : List ℕ → Call
  AskMake : List ℕ → Call
  AskStore : List ℕ → Call
  AskListen : List ℕ → Call
  AskClock : Call
  AskNames : List ℕ → Call
  -- a path, how many of the first bytes, from which offset on, and how many bytes at most
  AskLook : List ℕ → ℕ → ℕ → ℕ → Call
  -- the number of a job, and a command
  AskStart : ℕ → List ℕ → Call
  AskPoll : ℕ → Call
  AskKill : ℕ → Call
  AskAccept : Call
  -- the number of a client, and how many bytes at most
  AskRead : ℕ → ℕ → Call
  -- the number of a client, and what is offered to it
  AskSend : ℕ → List ℕ → Call
  AskClose : ℕ → Call
  AskPause : ℕ → Call

-- the event is this call, with some answer; a read gives no more than it was asked for, and a write takes no more than it was offered
abbrev pub Makes : Call → Event → Type 0
Makes (AskSay line) (Say bytes answer) = bytes ≡ line
Makes (AskWrite (Put slot at bytes)) (DiskWrite there place written answer) = (there ≡ slot) × (place ≡ at) × (written ≡ bytes)
Makes (AskWrite (Sync slot)) (DiskSync there answer) = there ≡ slot
Makes (AskTree root) (Config there answer) = there ≡ root
Makes (AskMake text) (Make made answer) = made ≡ text
Makes (AskStore socket) (StoreAt there answer) = there ≡ socket
Makes (AskListen socket) (GateListen there answer) = there ≡ socket
Makes AskClock (Clock answer) = Unit {0}
Makes (AskNames dir) (Names there answer) = there ≡ dir
Makes (AskLook path head from max) (LookAt there first begin most answer) = (there ≡ path) × (first ≡ head) × (begin ≡ from) × (most ≡ max)
Makes (AskStart job text) (ChildStart there command answer) = (there ≡ job) × (command ≡ text)
Makes (AskPoll job) (ChildPoll there answer) = there ≡ job
Makes (AskKill job) (ChildKill there) = there ≡ job
Makes AskAccept (GateAccept answer) = Unit {0}
Makes (AskRead conn most) (GateRead there max answer) = (there ≡ conn) × (max ≡ most) × IsReceived most answer
Makes (AskSend conn bytes) (GateWrite there offered answer) = (there ≡ conn) × (offered ≡ bytes) × IsTaken (length bytes) answer
Makes (AskClose conn) (GateClose there) = there ≡ conn
Makes (AskPause ms) (Pause waited) = waited ≡ ms
Makes _ _ = ⊥

abbrev pub IsNext : Option Call → Event → Type 0
IsNext (Some call) event = Makes call event
IsNext None event = ⊥
