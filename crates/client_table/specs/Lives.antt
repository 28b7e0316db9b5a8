-- The life of a client, call by call, and what its bytes come to in all.
use Rattle.std.specs.Prelude.{◌≡◌, ℕ, ◌+◌, Bool, true, false, List, [], ◌∷◌, ◌++◌, length, take, All, Option, Some, None}
use Rattle.std.specs.List.{flat_map}
use Rattle.client_frames.specs.Comes.{Heard, Part, Words, Is, IsPart}
use Rattle.client_frames.specs.Frames.{most_request, reply, request}
use Rattle.client_frames.specs.Laws.{IsSent, requests_of}
use Rattle.client_frames.specs.declared.answer.Answer.{Answer}
use Rattle.client_table.specs.Clients.{Client, AnswersRead, AnswersWrite, IsHeard, accepted, after_read, after_write, answered, asks, heard_in}
use Rattle.f2b_world.specs.declared.answer.GateRead.{GateRead}
use Rattle.f2b_world.specs.declared.answer.GateRead.TheVariants as read
use Rattle.f2b_world.specs.declared.answer.GateWrite.{GateWrite}
use Rattle.f2b_world.specs.declared.answer.GateWrite.TheVariants as write

-- a call on a client, at a moment
pub data Call : Type 0 where
  -- it was read, with this answer; and where that made a request whole, or a frame of it was refused, that was replied to so, before the next call
  WasRead : ℕ → GateRead → Option Answer → Call
  -- all that was unwritten was offered to it, with this answer
  WasWritten : ℕ → GateWrite → Call

-- a reply comes exactly where there is something to reply to
abbrev pub IsRepliedTo : Heard → Option Answer → Type 0
IsRepliedTo Part None = Unit {0}
IsRepliedTo Part (Some answer) = ⊥
IsRepliedTo _ None = ⊥
IsRepliedTo _ (Some answer) = Unit {0}

abbrev pub replied_to : Option Answer → Client → Client
replied_to None c = c
replied_to (Some answer) c = answered answer c

-- the client behind a call
abbrev pub after_call : Call → Client → Client
after_call (WasRead now answer replied) c = replied_to replied (after_read now answer c)
after_call (WasWritten now answer) c = after_write now answer c

-- it asked for that call, and the answer is one that the outside gives there
abbrev pub IsAsked : Call → Client → Type 0
IsAsked (WasRead now answer replied) c =
    AnswersRead (asks c) answer × IsHeard answer c × IsRepliedTo (heard_in answer c) replied
IsAsked (WasWritten now answer) c = AnswersWrite (asks c) answer

-- ---- a life

-- each call is one that the client asked for where it came
abbrev pub AreAsked : List Call → Client → Type 0
AreAsked [] c = Unit {0}
AreAsked (call ∷ calls) c = IsAsked call c × AreAsked calls (after_call call c)

-- the client behind all of them
abbrev pub after_calls : List Call → Client → Client
after_calls [] c = c
after_calls (call ∷ calls) c = after_calls calls (after_call call c)

-- the bytes that came, in all
abbrev pub came_by : Call → List ℕ
came_by (WasRead now (read.Bytes bytes) replied) = bytes
came_by _ = []

abbrev pub came_in : List Call → List ℕ
came_in calls = flat_map came_by calls

-- the replies that were put in, in order
abbrev pub replies_by : Call → List Answer
replies_by (WasRead now answer (Some replied)) = replied ∷ []
replies_by _ = []

abbrev pub replies_in : List Call → List Answer
replies_in calls = flat_map replies_by calls

-- the requests that were handed out, in order
abbrev pub requests_by : Call → Client → List (List (List ℕ))
requests_by (WasRead now answer replied) c = requests_of (heard_in answer c)
requests_by (WasWritten now answer) c = []

abbrev pub requests_in : List Call → Client → List (List (List ℕ))
requests_in [] c = []
requests_in (call ∷ calls) c = requests_by call c ++ requests_in calls (after_call call c)

-- the bytes that it took, in all
abbrev pub taken_by : Call → Client → List ℕ
taken_by (WasWritten now (write.Took count)) c = take count c.unwritten
taken_by _ c = []

abbrev pub taken_in : List Call → Client → List ℕ
taken_in [] c = []
taken_in (call ∷ calls) c = taken_by call c ++ taken_in calls (after_call call c)

-- ---- what bytes come to

-- a frame that is no request
abbrev pub IsFault : Heard → Type 0
IsFault Part = ⊥
IsFault (Words words) = ⊥
IsFault _ = Unit {0}

pub record IsRefused (bytes : List ℕ) : Type 0 where
  pub what : Heard
  pub fault : IsFault what
  pub is : Is what bytes

-- what stands behind the requests: a part of the next one, or a frame that is refused
abbrev pub IsRest : Bool → List ℕ → Type 0
IsRest false rest = IsPart most_request rest
IsRest true rest = IsRefused rest

-- The bytes are the frames of these requests, one behind the other, and behind them a part of one more, or a frame that is refused.
pub record AreRequests (bytes : List ℕ) (requests : List (List (List ℕ))) (refused : Bool) : Type 0 where
  pub rest : List ℕ
  pub is : bytes ≡ flat_map request requests ++ rest
  pub sent : All IsSent requests
  pub behind : IsRest refused rest

-- how many refusals there were
abbrev pub refusals : Bool → ℕ
refusals false = 0
refusals true = 1

-- ---- the law

pub record LifeLaw : Type 0 where
  -- What a client took is a beginning of the frames of the replies, in order, and what is missing of them is unwritten.
  pub written : (conn now : ℕ) (calls : List Call) → AreAsked calls (accepted conn now)
      → flat_map reply (replies_in calls) ≡ taken_in calls (accepted conn now) ++ (after_calls calls (accepted conn now)).unwritten
  -- The requests that were handed out are those of all bytes that came.
  pub handed : (conn now : ℕ) (calls : List Call) → AreAsked calls (accepted conn now)
      → AreRequests (came_in calls) (requests_in calls (accepted conn now)) (after_calls calls (accepted conn now)).hearing.refused
  -- There was one reply to each of them, in order, and one more where a frame was refused, behind which nothing came.
  pub counted : (conn now : ℕ) (calls : List Call) → AreAsked calls (accepted conn now)
      → length (replies_in calls) ≡ length (requests_in calls (accepted conn now)) + refusals (after_calls calls (accepted conn now)).hearing.refused
  -- Bytes come to one list of requests alone.
  pub one : (bytes : List ℕ) (a b : List (List (List ℕ))) (r s : Bool) → AreRequests bytes a r → AreRequests bytes b s → a ≡ b
  -- Where a client is read, the replies to all requests before are written whole, and there was one to each.
  pub in_turn : (conn now : ℕ) (calls : List Call) (at : ℕ) (answer : GateRead) (replied : Option Answer)
      → AreAsked (calls ++ WasRead at answer replied ∷ []) (accepted conn now)
      → (taken_in calls (accepted conn now) ≡ flat_map reply (replies_in calls)) × (length (replies_in calls) ≡ length (requests_in calls (accepted conn now)))
