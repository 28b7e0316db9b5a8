-- What a client and its server have said to each other, and what a call on the link adds to it.
use Rattle.std.specs.Prelude.{ℕ, ◌≡◌, ◌≤◌, Bool, true, false, Option, Some, None, IfSome, List, ◌++◌, length, take}
use Rattle.f2b_world.specs.declared.answer.Linked.{Linked}
use Rattle.f2b_world.specs.declared.answer.Linked.TheVariants.{Connected, Failed as LinkFailed}
use Rattle.f2b_world.specs.declared.answer.LinkRead.{LinkRead}
use Rattle.f2b_world.specs.declared.answer.LinkRead.TheVariants.{Bytes as LinkBytes, End, Failed as ReadFailed, NoMemory as ReadNoMemory}
use Rattle.f2b_world.specs.Faults.{Fault, OfLink}

-- the path of the server to which it is connected, the bytes that were sent, those that were received, and whether the end of these
-- was seen
pub record Talk : Type 0 where
  pub server : Option (List ℕ)
  pub sent : List ℕ
  pub received : List ℕ
  pub ended : Bool

-- the fault of a connection or of what was to be sent
abbrev pub link_fault : Linked → Option Fault
link_fault Connected = None
link_fault LinkFailed = Some OfLink

-- the fault of what was to be received
abbrev pub read_fault : LinkRead → Option Fault
read_fault ReadFailed = Some OfLink
read_fault _ = None

-- A talk that is told goes on as P says. It is not told again once it was not.
abbrev pub Goes : Option Talk → Option Talk → (Talk → Talk → Type 0) → Type 0
Goes old new P = IfSome new (λ after. (before : Talk) × (old ≡ Some before) × P before after)

-- The talk is with the server of that path, which has not ended, or, where that failed, as before.
abbrev pub Connects : List ℕ → Linked → Talk → Talk → Type 0
Connects path Connected before after = after ≡ record before { server = Some path; ended = false }
Connects path LinkFailed before after = after ≡ before

-- a talk whose client sent these bytes more
abbrev pub with_sent : Talk → List ℕ → Talk
with_sent talk bytes = record talk { sent = talk.sent ++ bytes }

-- All the bytes were sent, or, where that failed, some beginning of them.
abbrev pub Sends : List ℕ → Linked → Talk → Talk → Type 0
Sends bytes Connected before after = after ≡ with_sent before bytes
Sends bytes LinkFailed before after = (n : ℕ) × (after ≡ with_sent before (take n bytes))

-- What was received stands behind what was received before. At the end nothing more is received.
abbrev pub Receives : LinkRead → Talk → Talk → Type 0
Receives (LinkBytes bytes) before after = (before.ended ≡ false) × (after ≡ record before { received = before.received ++ bytes })
Receives End before after = after ≡ record before { ended = true }
Receives ReadFailed before after = after ≡ before
Receives ReadNoMemory before after = after ≡ before

-- the bytes that were received are at least one, and at most as many as were asked for
abbrev pub IsReceivedOf : ℕ → LinkRead → Type 0
IsReceivedOf max (LinkBytes bytes) = (1 ≤ length bytes) × (length bytes ≤ max)
IsReceivedOf max _ = Unit {0}
