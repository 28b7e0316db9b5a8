-- The words of the client: [-q] [-s SOCKET] WORD .., or --str2sec WORD.
use Rattle.std.specs.Prelude.{ℕ, ℤ, nat_le, Bool, true, false, ◌||◌, List, [], ◌∷◌, length, Option, Some, None, option_map, codes, if◌then◌else◌}
use Rattle.std.specs.Str.{bytes_eq}
use Rattle.client_frames.specs.Frames.{AreRequest, most_request, request, spelling}
use Rattle.jail_conf.specs.Times.{time_word}
use Rattle.client_tool.specs.declared.asked.Asked.{Asked}
use Rattle.client_tool.specs.declared.asked.Asked.TheVariants as asked

-- what words ask for
pub data Asks : Type 0 where
  -- that these words are sent to the server at this path, as one request; and whether a reply that accepts it is kept quiet
  Request : (quiet : Bool) → (socket : List ℕ) → (words : List (List ℕ)) → Asks
  -- how many seconds a time word stands for
  Seconds : ℤ → Asks

-- where a server's socket is, if nothing else is said
abbrev pub usual_socket : List ℕ
usual_socket = codes "/var/run/fail2ban/fail2ban.sock"

-- words that are a request: there is one, and together they are no longer than a request may be
abbrev pub is_request : List (List ℕ) → Bool
is_request [] = false
is_request (word ∷ words) = nat_le (length (spelling (word ∷ words))) most_request

abbrev pub request_at : (quiet : Bool) (socket : List ℕ) (words : List (List ℕ)) → Option Asks
request_at quiet socket words = if is_request words then Some (Request quiet socket words) else None

-- what is asked of the server at a path: the words that are sent, perhaps behind `-q`
abbrev pub request_to : (quiet : Bool) (socket : List ℕ) (words : List (List ℕ)) → Option Asks
request_to quiet socket [] = None
request_to quiet socket (first ∷ words) = if bytes_eq first (codes "-q") then request_at true socket words else request_at quiet socket (first ∷ words)

-- what is asked behind `-s`: the path of the socket, and the words
abbrev pub behind_socket : (quiet : Bool) → List (List ℕ) → Option Asks
behind_socket quiet [] = None
behind_socket quiet (socket ∷ words) = request_to quiet socket words

-- what is asked behind `--str2sec`: the seconds of the one word
abbrev pub behind_str2sec : List (List ℕ) → Option Asks
behind_str2sec (word ∷ []) = option_map Seconds (time_word word)
behind_str2sec _ = None

-- whether the word asks for nothing: `-d` and `-t` do
abbrev pub asks_nothing : List ℕ → Bool
asks_nothing word = bytes_eq word (codes "-d") || bytes_eq word (codes "-t")

-- what is asked behind `-q`: a request
abbrev pub behind_quiet : List (List ℕ) → Option Asks
behind_quiet [] = None
behind_quiet (first ∷ rest) =
    if bytes_eq first (codes "-s") then behind_socket true rest
    else if bytes_eq first (codes "--str2sec") || asks_nothing first then None
    else request_at true usual_socket (first ∷ rest)

-- what is asked, by the first word and those behind it
abbrev pub asks_by : (first : List ℕ) (rest : List (List ℕ)) → Option Asks
asks_by first rest =
    if bytes_eq first (codes "-q") then behind_quiet rest
    else if bytes_eq first (codes "-s") then behind_socket false rest
    else if bytes_eq first (codes "--str2sec") then behind_str2sec rest
    else if asks_nothing first then None
    else request_at false usual_socket (first ∷ rest)

-- what the words ask for, where they ask for something
unfoldable pub asks_of : List (List ℕ) → Option Asks
asks_of [] = None
asks_of (first ∷ rest) = asks_by first rest

-- what the code has of it
abbrev pub shown : Asked → Asks
shown (asked.Request quiet socket words) = Request quiet socket.now words
shown (asked.Seconds seconds) = Seconds seconds

-- the words of a request that is asked for are one that can be sent
abbrev pub IsBounded : Option Asks → Type 0
IsBounded (Some (Request quiet socket words)) = AreRequest words
IsBounded _ = Unit {0}

-- whether a server is asked
abbrev pub asks_server : Option Asks → Bool
asks_server (Some (Request quiet socket words)) = true
asks_server _ = false

-- whether nothing is to be said of a request that is accepted
abbrev pub is_quiet : Option Asks → Bool
is_quiet (Some (Request quiet socket words)) = quiet
is_quiet _ = false

-- the frame of the request that is asked for, or nothing where none is
abbrev pub frame_of : Option Asks → List ℕ
frame_of (Some (Request quiet socket words)) = request words
frame_of _ = []
