-- What is replied to what came of a client, and what happens by it.
use Rattle.std.specs.Prelude.{ℕ, List, [], ◌∷◌, Option, Some, None, unwrap_or, Result, Ok, Err, codes}
use Rattle.client_frames.specs.Comes.{Heard, Part, Words, TooLong, Empty, BadWord}
use Rattle.client_frames.specs.declared.answer.Answer.{Answer}
use Rattle.client_replies.specs.Changes.{effect}
use Rattle.client_replies.specs.Refusals.{refusal}
use Rattle.client_replies.specs.Replies.{refused, reply}
use Rattle.client_words.specs.Commands.{command_of}
use Rattle.client_words.specs.Refusals.{refusal_of}
use Rattle.client_words.specs.declared.error.CommandError.{CommandError}
use Rattle.client_words.specs.declared.request.Request.{Request}
use Rattle.client_words.specs.declared.request.Request.TheVariants.{Reload}
use Rattle.f2b_base.specs.declared.input.What.{What}
use Rattle.f2b_base.specs.declared.input.What.TheVariants.{Stop}
use Rattle.f2b_model.specs.Whole.{State, now_of}
use Rattle.run_law.specs.News.{News, nothing}
use Rattle.run_law.specs.Said.{stopping_line}

pub data Response : Type 0 where
  -- it is answered so, and this is brought beside it
  Answers : Answer → News → Response
  -- the configuration is read again, and the answer comes behind that
  ReadsAgain : Response

-- a stop that comes is said
abbrev pub stop_lines : ℕ → Option What → List (List ℕ)
stop_lines now (Some Stop) = stopping_line now ∷ []
stop_lines now _ = []

abbrev pub changing : ℕ → Option What → News
changing now what = record { before = []; what = what; behind = stop_lines now what }

abbrev pub refusing : List ℕ → Response
refusing why = Answers (refused why) nothing

-- a configuration is read again unless the state refuses that
abbrev pub rereading : Option (List ℕ) → Response
rereading (Some why) = refusing why
rereading None = ReadsAgain

-- The reply and the input are those of the state that the request meets.
abbrev pub to_request : ℕ → State → Request → Response
to_request now s Reload = rereading (refusal (now_of s) Reload)
to_request now s asked = Answers (reply now (now_of s) asked) (changing now (effect (now_of s) asked))

-- the words of a request, or what is wrong with them first
abbrev pub to_command : ℕ → State → Result Request CommandError → Response
to_command now s (Ok asked) = to_request now s asked
to_command now s (Err error) = refusing (unwrap_or (refusal_of error) [])

abbrev pub to_words : ℕ → State → List (List ℕ) → Response
to_words now s words = to_command now s (command_of words)

-- what is heard of a client is responded to, unless it is a part
unfoldable pub to_heard : ℕ → State → Heard → Option Response
to_heard now s Part = None
to_heard now s (Words words) = Some (to_words now s words)
to_heard now s (TooLong n) = Some (refusing (codes "Frame too long"))
to_heard now s Empty = Some (refusing (codes "Empty frame"))
to_heard now s (BadWord at) = Some (refusing (codes "Bad word"))
