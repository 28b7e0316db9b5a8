-- What a client says to a server, and what it hears.
use Rattle.std.specs.Prelude.{◌≡◌, ◌≢◌, ◌≤◌, ℕ, Bool, List, ◌++◌, take, Some, Result, Err}
use Rattle.client_frames.specs.Frames.{request}
use Rattle.client_frames.specs.Replies.{IsTrueOf}
use Rattle.client_frames.specs.declared.answer.Answer.{Answer}
use Rattle.client_frames.specs.declared.error.ReceiveError.{ReceiveError}
use Rattle.client_frames.specs.declared.error.ReceiveError.TheVariants.{LinkFault, NoMemory}
use Rattle.f2b_world.specs.Faults.{Fault, OfLink}
use Rattle.f2b_world.specs.Links.{Talk, Goes}
use Rattle.f2b_world.specs.Told.{Standing}

-- The client connected to the server at a path, sent it bytes, and received some of it, of which P holds. Nothing else was said.
pub record Exchanges (socket sent : List ℕ) (P : List ℕ → Bool → Type 0) (before after : Talk) : Type 0 where
  pub received : List ℕ
  pub is : after ≡ record { server = Some socket; sent = before.sent ++ sent; received = before.received ++ received; ended = after.ended }
  pub holds : P received after.ended

-- No more was sent than these bytes, from the first one on.
abbrev pub SendsAtMost : List ℕ → Talk → Talk → Type 0
SendsAtMost bytes before after = (n : ℕ) × (after.sent ≡ before.sent ++ take n bytes)

-- Calls on the link alone were made, by which the talk goes on as P says.
pub record Talks (old new : Standing) (P : Talk → Talk → Type 0) : Type 0 where
  pub told : new.told ≡ old.told
  pub shelf : new.shelf ≡ old.shelf
  pub talk : Goes old.talk new.talk P
  pub steady : (kind : Fault) → old.faults kind ≤ new.faults kind
  pub others : (kind : Fault) → kind ≢ OfLink → new.faults kind ≡ old.faults kind

-- The one frame of the words was sent to the server at the path, and this is true of what it said.
abbrev pub Hears : (socket : List ℕ) (words : List (List ℕ)) → Result Answer ReceiveError → Standing → Standing → Type 0
Hears socket words result old new = Goes old.talk new.talk (Exchanges socket (request words) (IsTrueOf result))

-- what became of a request; where the link failed or memory was wanted nothing is said of it
abbrev pub IsHeard : (socket : List ℕ) (words : List (List ℕ)) → Result Answer ReceiveError → Standing → Standing → Type 0
IsHeard socket words (Err LinkFault) old new = Unit {0}
IsHeard socket words (Err NoMemory) old new = Unit {0}
IsHeard socket words result old new = Hears socket words result old new
