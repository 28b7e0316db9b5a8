-- What is received of a server.
use Rattle.std.specs.Prelude.{◌≡◌, ◌≢◌, ◌⊎◌, ℕ, ◌+◌, ◌<◌, ◌≤◌, Bool, true, List, ◌++◌, length, Some, Result, Ok, Err}
use Rattle.client_frames.specs.Comes.{IsPart, said_length}
use Rattle.client_frames.specs.Frames.{IsReply, framed, most_reply, reply, reply_body}
use Rattle.client_frames.specs.declared.answer.Answer.{Answer}
use Rattle.client_frames.specs.declared.error.ReceiveError.{ReceiveError}
use Rattle.client_frames.specs.declared.error.ReceiveError.TheVariants.{LinkFault, LinkEnded, BadReply, NoMemory}
use Rattle.f2b_world.specs.Faults.{Fault, OfLink}
use Rattle.f2b_world.specs.Links.{Talk, Goes}
use Rattle.f2b_world.specs.Told.{Standing}

-- the length that came is one that no reply has
pub record IsBadLength (came : List ℕ) : Type 0 where
  pub count : ℕ
  pub said : said_length came ≡ Some count
  pub alone : length came ≡ 4
  pub bad : (count ≡ 0) ⊎ (most_reply < count)

-- the bytes are no reply behind its length
abbrev pub IsNoReply : List ℕ → Type 0
IsNoReply body = (answer : Answer) → IsReply answer → body ≢ reply_body answer

-- a whole frame came that is no reply
pub record IsBadFrame (came : List ℕ) : Type 0 where
  pub body : List ℕ
  pub is : came ≡ framed body
  pub some : 1 ≤ length body
  pub few : length body ≤ most_reply
  pub bad : IsNoReply body

-- What is told of a reply is true of the bytes that came, and of whether the server's end was seen.
abbrev pub IsTrueOf : Result Answer ReceiveError → List ℕ → Bool → Type 0
IsTrueOf (Ok answer) came ended = came ≡ reply answer
IsTrueOf (Err LinkFault) came ended = IsPart most_reply came
IsTrueOf (Err LinkEnded) came ended = (ended ≡ true) × IsPart most_reply came
IsTrueOf (Err BadReply) came ended = IsBadLength came ⊎ IsBadFrame came
IsTrueOf (Err NoMemory) came ended = Unit {0}

-- so many bytes more were received, whose end was seen or not
pub record Gains (P : List ℕ → Bool → Type 0) (before after : Talk) : Type 0 where
  pub more : List ℕ
  pub is : after ≡ record before { received = before.received ++ more; ended = after.ended }
  pub holds : P more after.ended

-- Bytes were received of a server, of which P holds, and nothing else was done.
pub record Received (old new : Standing) (P : List ℕ → Bool → Type 0) : Type 0 where
  pub told : new.told ≡ old.told
  pub shelf : new.shelf ≡ old.shelf
  pub talk : Goes old.talk new.talk (Gains P)
  pub steady : (kind : Fault) → old.faults kind ≤ new.faults kind
  pub others : (kind : Fault) → kind ≢ OfLink → new.faults kind ≡ old.faults kind

-- ---- the parts of it

-- what is made of the bytes behind a length
abbrev pub Answers : List ℕ → Result Answer ReceiveError → Type 0
Answers body (Ok answer) = (body ≡ reply_body answer) × IsReply answer
Answers body (Err BadReply) = IsNoReply body
Answers body (Err NoMemory) = Unit {0}
Answers body (Err _) = ⊥

-- what is made of a frame that came whole
abbrev pub Judges : List ℕ → Result Answer ReceiveError → Type 0
Judges whole (Ok answer) = (whole ≡ reply answer) × IsReply answer
Judges whole (Err BadReply) = IsBadFrame whole
Judges whole (Err NoMemory) = Unit {0}
Judges whole (Err _) = ⊥

-- as many bytes as a length says stand behind it, and a reply can have so many
pub record IsWhole (came : List ℕ) : Type 0 where
  pub count : ℕ
  pub said : said_length came ≡ Some count
  pub some : 1 ≤ count
  pub few : count ≤ most_reply
  pub len : length came ≡ 4 + count

-- what is made of the four bytes of a length
abbrev pub Says : List ℕ → Result ℕ ReceiveError → Type 0
Says came (Ok count) = (said_length came ≡ Some count) × (1 ≤ count) × (count ≤ most_reply)
Says came (Err BadReply) = IsBadLength came
Says came (Err _) = ⊥

-- what came behind some bytes, until so many were there in all
abbrev pub Fills : ℕ → List ℕ → List ℕ → Result (Unit {0}) ReceiveError → List ℕ → Bool → Type 0
Fills count before after (Ok _) more ended = after ≡ before ++ more
Fills count before after (Err LinkEnded) more ended = (ended ≡ true) × (length (before ++ more) < count)
Fills count before after (Err LinkFault) more ended = length (before ++ more) < count
Fills count before after (Err NoMemory) more ended = Unit {0}
Fills count before after (Err BadReply) more ended = ⊥

-- the bytes are others, and more behind them
abbrev pub IsMore : List ℕ → List ℕ → Type 0
IsMore before after = (more : List ℕ) × (after ≡ before ++ more)
