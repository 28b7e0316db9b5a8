-- The lines that the client says.
use Rattle.std.specs.Prelude.{ℕ, ℤ, Bool, false, ◌&&◌, List, [], ◌∷◌, ◌++◌, codes, if◌then◌else◌}
use Rattle.std.specs.Fmt.{signed_decimal}
use Rattle.std.specs.Str.{bytes_eq}
use Rattle.client_frames.specs.declared.answer.Answer.{Answer}

-- the one word is `ping`
abbrev pub is_ping : List (List ℕ) → Bool
is_ping (word ∷ []) = bytes_eq word (codes "ping")
is_ping _ = false

-- what is told of the reply to these words: its text, but for a ping that was accepted
abbrev pub reply_text : List (List ℕ) → Answer → List ℕ
reply_text words answer = if answer.accepted && is_ping words then codes "Server replied: pong" else answer.text

-- what is said of the reply to these words
unfoldable pub reply_line : List (List ℕ) → Answer → List ℕ
reply_line words answer = reply_text words answer ++ codes "\n"

-- what is said of a time word
unfoldable pub seconds_line : ℤ → List ℕ
seconds_line seconds = signed_decimal seconds ++ codes "\n"
