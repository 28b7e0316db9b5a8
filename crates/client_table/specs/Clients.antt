-- The clients of a server: what came of each, what is still to be written to it, what it asks next, and when it is over.
use Rattle.std.specs.Prelude.{ℕ, zero, suc, ◌==◌, ◌+◌, ◌≤◌, nat_le, nat_lt, Bool, true, false, ◌||◌, ◌&&◌, not, if◌then◌else◌, List, [], ◌∷◌, ◌++◌, length, drop, slice_get, IfSome}
use Rattle.std.specs.List.{insert, list_any, position_or_len}
use Rattle.std.specs.Option.{option_map_or}
use Rattle.client_frames.specs.Comes.{Hearing, Heard, Part, Is, heard, hearing_after, wanted}
use Rattle.client_frames.specs.Frames.{most_request, reply}
use Rattle.client_frames.specs.declared.answer.Answer.{Answer}
use Rattle.f2b_world.specs.Told.{IsReceived, IsTaken}
use Rattle.f2b_world.specs.declared.answer.GateRead.{GateRead}
use Rattle.f2b_world.specs.declared.answer.GateRead.TheVariants as read
use Rattle.f2b_world.specs.declared.answer.GateWrite.{GateWrite}
use Rattle.f2b_world.specs.declared.answer.GateWrite.TheVariants as write

pub record Client : Type 0 where
  -- the number that the outside gave it
  pub conn : ℕ
  -- what came of its request that is not whole yet; or a frame of it was refused, and nothing more is read of it
  pub hearing : Hearing
  -- what is still to be written to it
  pub unwritten : List ℕ
  -- the moment of its accept, or of the last byte since then that was read of it or written to it
  pub last : ℕ
  -- a call on it was answered that it has ended, or that the call failed
  pub gone : Bool

-- how many there are at most
abbrev pub most_clients : ℕ
most_clients = 16

-- the longest frame of a reply: its length, whether the request was accepted, and the text
abbrev pub most_frame : ℕ
most_frame = 67108869

-- a client that was accepted
abbrev pub accepted : ℕ → ℕ → Client
accepted conn now = record { conn = conn; hearing = record { came = []; refused = false }; unwritten = []; last = now; gone = false }

-- ---- what it asks next

pub data Asks : Type 0 where
  -- to write these bytes to it
  Writes : List ℕ → Asks
  -- to read so many bytes of it at most
  Reads : ℕ → Asks
  -- nothing: a frame of it was refused, and that was written
  Nothing : Asks

abbrev pub asks_to_read : Hearing → Asks
asks_to_read hearing = if hearing.refused then Nothing else Reads (wanted hearing)

-- what is unwritten is written before anything more is read
abbrev pub asks : Client → Asks
asks c = if length c.unwritten == 0 then asks_to_read c.hearing else Writes c.unwritten

-- what is asked is what the outside can do
abbrev pub IsBounded : Asks → Type 0
IsBounded (Writes bytes) = (1 ≤ length bytes) × (length bytes ≤ most_frame)
IsBounded (Reads most) = (1 ≤ most) × (most ≤ most_request)
IsBounded Nothing = Unit {0}

-- it asked to be read, and a read of so much can be answered so
abbrev pub AnswersRead : Asks → GateRead → Type 0
AnswersRead (Reads most) answer = IsReceived most answer
AnswersRead _ answer = ⊥

-- it asked to be written to, and a write of so much can be answered so
abbrev pub AnswersWrite : Asks → GateWrite → Type 0
AnswersWrite (Writes bytes) answer = IsTaken (length bytes) answer
AnswersWrite _ answer = ⊥

-- ---- what an answer changes

-- what is heard once these bytes came
abbrev pub heard_in : GateRead → Client → Heard
heard_in (read.Bytes bytes) c = heard (c.hearing.came ++ bytes)
heard_in _ c = Part

-- the bytes that came are what is heard of them
abbrev pub IsHeard : GateRead → Client → Type 0
IsHeard (read.Bytes bytes) c = Is (heard (c.hearing.came ++ bytes)) (c.hearing.came ++ bytes)
IsHeard _ c = Unit {0}

-- it is gone
abbrev pub lost : Client → Client
lost c = record c { gone = true }

-- a read of it was answered so, at that moment
abbrev pub after_read : ℕ → GateRead → Client → Client
after_read now (read.Bytes bytes) c =
    record c { hearing = hearing_after (c.hearing.came ++ bytes) (heard (c.hearing.came ++ bytes)); last = now }
after_read now read.Quiet c = c
after_read now read.End c = lost c
after_read now read.Failed c = lost c
after_read now read.NoMemory c = c

-- a write to it of all that was unwritten was answered so, at that moment
abbrev pub after_write : ℕ → GateWrite → Client → Client
after_write now (write.Took count) c = record c { unwritten = drop count c.unwritten; last = now }
after_write now write.Quiet c = c
after_write now write.Failed c = lost c

-- its request, or its frame that is refused, is answered so
abbrev pub answered : Answer → Client → Client
answered answer c = record c { unwritten = reply answer }

-- ---- when it is over

-- how many seconds without a byte are too many
abbrev pub idle_seconds : ℕ
idle_seconds = 30

-- a frame of it was refused, and that was written whole
abbrev pub is_refused : Client → Bool
is_refused c = c.hearing.refused && length c.unwritten == 0

-- so much time has passed since its accept, and since the last byte
abbrev pub is_idle : ℕ → Client → Bool
is_idle now c = nat_le (c.last + idle_seconds) now

abbrev pub is_over : ℕ → Client → Bool
is_over now c = c.gone || (is_refused c || is_idle now c)

-- ---- all of them, by their numbers

-- the place of a number among them: in front of the first with a greater one, or behind them all
abbrev pub place_for : ℕ → List Client → ℕ
place_for conn cs = position_or_len (λ (c : Client). nat_lt conn c.conn) cs

-- one more
abbrev pub with_client : Client → List Client → List Client
with_client c cs = insert cs (place_for c.conn cs) c

-- of the client at a place: its number, what it asks, what is still to be written to it, and whether it is over
abbrev pub conn_at : ℕ → List Client → ℕ
conn_at place cs = option_map_or (λ (c : Client). c.conn) (slice_get cs place) 0

abbrev pub asks_at : ℕ → List Client → Asks
asks_at place cs = option_map_or asks (slice_get cs place) Nothing

abbrev pub unwritten_at : ℕ → List Client → List ℕ
unwritten_at place cs = option_map_or (λ (c : Client). c.unwritten) (slice_get cs place) []

abbrev pub is_over_at : ℕ → ℕ → List Client → Bool
is_over_at now place cs = option_map_or (is_over now) (slice_get cs place) false

-- what is heard of it as a read of it is answered so
abbrev pub heard_at : GateRead → ℕ → List Client → Heard
heard_at answer place cs = option_map_or (heard_in answer) (slice_get cs place) Part

abbrev pub IsHeardAt : GateRead → ℕ → List Client → Type 0
IsHeardAt answer place cs = IfSome (slice_get cs place) (λ c. IsHeard answer c)

-- the client at that place is changed, and no other
abbrev pub changed_at : ℕ → (Client → Client) → List Client → List Client
changed_at place change [] = []
changed_at zero change (c ∷ cs) = change c ∷ cs
changed_at (suc place) change (c ∷ cs) = c ∷ changed_at place change cs

-- something is to be written to it
abbrev pub has_unwritten : Client → Bool
has_unwritten c = not (length c.unwritten == 0)

abbrev pub have_unwritten : List Client → Bool
have_unwritten cs = list_any has_unwritten cs
