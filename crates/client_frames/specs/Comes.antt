-- What has come of a request, and what it is.
use Rattle.std.specs.Prelude.{◌≡◌, ◌≢◌, ℕ, zero, suc, ◌+◌, ◌-◌, ◌<◌, ◌≤◌, Bool, true, false, ◌==◌, ◌&&◌, nat_lt, nat_le, List, [], ◌∷◌, ◌++◌, length, take, drop, All, Option, Some, None, IfSome, Result, Ok, Err, codes, if◌then◌else◌}
use Rattle.std.specs.Int.{w16, w32, from_be_bytes}
use Rattle.std.specs.Str.{is_utf8}
use Rattle.client_frames.specs.Frames.{IsWord, AreRequest, framed, most_request, request, spelling, word_spelling}
use Rattle.client_frames.specs.declared.error.FrameError.{FrameError}
use Rattle.client_frames.specs.declared.error.FrameError.TheVariants as errors

-- the length that a frame says, once its four bytes have come
unfoldable pub said_length : List ℕ → Option ℕ
said_length came = if nat_lt (length came) 4 then None else Some (from_be_bytes w32 came)

-- how many bytes are missing of the length, and once that is there, of the frame
abbrev pub missing_of : List ℕ → Option ℕ → ℕ
missing_of came None = 4 - length came
missing_of came (Some n) = 4 + n - length came

unfoldable pub missing : List ℕ → ℕ
missing came = missing_of came (said_length came)

-- no more came than the frame has
abbrev pub IsWithin : List ℕ → Type 0
IsWithin came = IfSome (said_length came) (λ n. length came ≤ 4 + n)

-- The frame is not whole, and may become one: its length has not come, or says at most so many bytes and some of them are missing.
abbrev pub IsPart : ℕ → List ℕ → Type 0
IsPart most came = IfSome (said_length came) (λ n. (1 ≤ n) × (n ≤ most) × (length came < 4 + n))

-- ---- what came is

pub data Heard : Type 0 where
  -- a frame that is not whole
  Part : Heard
  -- a request of these words
  Words : List (List ℕ) → Heard
  -- a length of so many bytes, more than a request may have
  TooLong : ℕ → Heard
  -- a length of 0
  Empty : Heard
  -- a frame in which no word begins at this offset behind its length
  BadWord : ℕ → Heard

-- bytes that begin with a word behind its length
pub record BeginsWithWord (bytes : List ℕ) : Type 0 where
  pub word : List ℕ
  pub others : List ℕ
  pub fits : IsWord word
  pub is : bytes ≡ word_spelling word ++ others

-- words came, and then bytes that begin with none
pub record IsBadAt (at : ℕ) (body : List ℕ) : Type 0 where
  pub words : List (List ℕ)
  pub others : List ℕ
  pub fit : All IsWord words
  pub is : body ≡ spelling words ++ others
  pub place : at ≡ length (spelling words)
  pub some : others ≢ []
  pub bad : ¬ BeginsWithWord others

-- the whole frame came of these words
pub record IsRequest (words : List (List ℕ)) (came : List ℕ) : Type 0 where
  pub is : came ≡ request words
  pub fit : All IsWord words
  pub bounds : AreRequest words

-- a whole frame came that is no request
pub record IsBad (at : ℕ) (came : List ℕ) : Type 0 where
  pub body : List ℕ
  pub is : came ≡ framed body
  pub few : length body ≤ most_request
  pub bad : IsBadAt at body

-- What came, where no more came than the frame has, is this.
abbrev pub Is : Heard → List ℕ → Type 0
Is Part came = IsPart most_request came
Is (Words words) came = IsRequest words came
Is (TooLong n) came = (said_length came ≡ Some n) × (most_request < n)
Is Empty came = said_length came ≡ Some 0
Is (BadWord at) came = IsBad at came

-- ---- the same as a reading, which ends at the first fault

-- a word of so many bytes at the front, and what follows it
abbrev pub word_of : ℕ → List ℕ → Option (List ℕ × List ℕ)
word_of n bytes = if nat_le n (length bytes) && is_utf8 (take n bytes) then Some (take n bytes, drop n bytes) else None

unfoldable pub first_word : List ℕ → Option (List ℕ × List ℕ)
first_word bytes = if nat_lt (length bytes) 2 then None else word_of (from_be_bytes w16 bytes) (drop 2 bytes)

abbrev pub with_word : List ℕ → Result (List (List ℕ)) ℕ → Result (List (List ℕ)) ℕ
with_word word (Ok words) = Ok (word ∷ words)
with_word word (Err left) = Err left

-- the words that bytes are, or how many bytes are left where none begins; k bounds how many words there can be
unfoldable pub words_in : ℕ → List ℕ → Result (List (List ℕ)) ℕ
words_in k [] = Ok []
words_in zero (byte ∷ bytes) = Err (length (byte ∷ bytes))
words_in (suc k) (byte ∷ bytes) = elim (first_word (byte ∷ bytes)) [
  | Some x ↦ with_word x.0 (words_in k x.1)
  | None ↦ Err (length (byte ∷ bytes))
]

abbrev pub heard_words : ℕ → Result (List (List ℕ)) ℕ → Heard
heard_words n (Ok words) = Words words
heard_words n (Err left) = BadWord (n - left)

abbrev pub heard_behind : ℕ → List ℕ → Heard
heard_behind n body =
    if n == 0 then Empty else if nat_lt most_request n then TooLong n else if nat_lt (length body) n then Part else heard_words n (words_in n body)

abbrev pub heard_by : Option ℕ → List ℕ → Heard
heard_by None came = Part
heard_by (Some n) came = heard_behind n (drop 4 came)

unfoldable pub heard : List ℕ → Heard
heard came = heard_by (said_length came) came

-- ---- connections

-- A connection: what has come of the request that is not whole yet; or a frame was refused, and nothing more is taken.
pub record Hearing : Type 0 where
  pub came : List ℕ
  pub refused : Bool

-- how many bytes it waits for
abbrev pub wanted_of : List ℕ → Bool → ℕ
wanted_of came true = 0
wanted_of came false = missing came

abbrev pub wanted : Hearing → ℕ
wanted hearing = wanted_of hearing.came hearing.refused

-- a connection on which this came
abbrev pub hearing_after : List ℕ → Heard → Hearing
hearing_after came Part = record { came = came; refused = false }
hearing_after came (Words words) = record { came = []; refused = false }
hearing_after came _ = record { came = []; refused = true }

-- what a feed tells of what came; want of memory tells nothing
abbrev pub told : Result (Option (List (List ℕ))) FrameError → Option Heard
told (Ok None) = Some Part
told (Ok (Some words)) = Some (Words words)
told (Err (errors.TooLong n)) = Some (TooLong n)
told (Err errors.Empty) = Some Empty
told (Err (errors.BadWord at)) = Some (BadWord at)
told (Err errors.NoMemory) = None

-- what a client is told of a frame that is refused
abbrev pub refusal_of : FrameError → Option (List ℕ)
refusal_of (errors.TooLong n) = Some (codes "Frame too long")
refusal_of errors.Empty = Some (codes "Empty frame")
refusal_of (errors.BadWord at) = Some (codes "Bad word")
refusal_of errors.NoMemory = None

-- What was read is the words that bytes are, or there is a place in them where no word begins.
abbrev pub Reads : List ℕ → Result (List (List ℕ)) FrameError → Type 0
Reads body (Ok words) = All IsWord words × (body ≡ spelling words)
Reads body (Err (errors.BadWord at)) = IsBadAt at body
Reads body (Err errors.NoMemory) = Unit {0}
Reads body (Err _) = ⊥
