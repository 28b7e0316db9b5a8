-- The frames of requests and replies. A frame is bytes behind their number; a request is words, and a reply is a text behind a byte that
-- says whether the request was accepted.
use Rattle.std.specs.Prelude.{ℕ, ◌<◌, ◌≤◌, ◌^◌, Bool, true, false, List, ◌∷◌, ◌++◌, length, IsUtf8}
use Rattle.std.specs.Int.{w16, w32, to_be_bytes}
use Rattle.std.specs.List.{flat_map}
use Rattle.client_frames.specs.declared.answer.Answer.{Answer}

-- the most bytes of a request behind its length
abbrev pub most_request : ℕ
most_request = 65536

-- the most bytes of a reply's text
abbrev pub most_text : ℕ
most_text = 67108864

-- the most bytes of a reply behind its length: the text, and the byte before it
abbrev pub most_reply : ℕ
most_reply = 67108865

-- a number in four bytes, the highest one first
unfoldable pub four_bytes : ℕ → List ℕ
four_bytes n = to_be_bytes w32 n

-- a number in two bytes, the higher one first
unfoldable pub two_bytes : ℕ → List ℕ
two_bytes n = to_be_bytes w16 n

-- bytes behind their number
unfoldable pub framed : List ℕ → List ℕ
framed body = four_bytes (length body) ++ body

-- ---- requests

-- a word behind the number of its bytes
unfoldable pub word_spelling : List ℕ → List ℕ
word_spelling word = two_bytes (length word) ++ word

-- words, one behind the other
unfoldable pub spelling : List (List ℕ) → List ℕ
spelling words = flat_map word_spelling words

-- the frame of a request
unfoldable pub request : List (List ℕ) → List ℕ
request words = framed (spelling words)

-- a word that a request can have: two bytes can say its length, and it is text
pub record IsWord (word : List ℕ) : Type 0 where
  pub short : length word < 2 ^ 16
  pub text : IsUtf8 word

-- words that are a request: there is one, and together they are no longer than a request may be
pub record AreRequest (words : List (List ℕ)) : Type 0 where
  pub some : 1 ≤ length words
  pub few : length (spelling words) ≤ most_request

-- ---- replies

-- the byte that says whether a request was accepted
abbrev pub verdict : Bool → ℕ
verdict true = 0
verdict false = 1

-- a reply behind its length
unfoldable pub reply_body : Answer → List ℕ
reply_body answer = verdict answer.accepted ∷ answer.text

-- the frame of a reply
unfoldable pub reply : Answer → List ℕ
reply answer = framed (reply_body answer)

-- a reply that can be sent: text that is no longer than a reply may be
pub record IsReply (answer : Answer) : Type 0 where
  pub short : length answer.text ≤ most_text
  pub text : IsUtf8 answer.text
