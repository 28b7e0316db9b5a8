-- Requests that come one behind the other, cut anywhere.
use Rattle.std.specs.Prelude.{◌≡◌, ℕ, ◌≤◌, false, List, [], ◌∷◌, ◌++◌, length, All}
use Rattle.std.specs.List.{flat_map}
use Rattle.client_frames.specs.Comes.{Heard, Words, Hearing, heard, hearing_after, wanted}
use Rattle.client_frames.specs.Frames.{AreRequest, IsWord, request}

-- a connection over which nothing came
abbrev pub fresh : Hearing
fresh = record { came = []; refused = false }

-- what a piece makes whole
abbrev pub requests_of : Heard → List (List (List ℕ))
requests_of (Words words) = words ∷ []
requests_of _ = []

-- the connection behind a piece
abbrev pub behind : Hearing → List ℕ → Hearing
behind hearing piece = hearing_after (hearing.came ++ piece) (heard (hearing.came ++ piece))

-- the requests that pieces make whole, in order
abbrev pub requests_in : Hearing → List (List ℕ) → List (List (List ℕ))
requests_in hearing [] = []
requests_in hearing (piece ∷ pieces) = requests_of (heard (hearing.came ++ piece)) ++ requests_in (behind hearing piece) pieces

-- each piece has some bytes, and no more than are wanted where it comes
abbrev pub AreWanted : Hearing → List (List ℕ) → Type 0
AreWanted hearing [] = Unit {0}
AreWanted hearing (piece ∷ pieces) = (1 ≤ length piece) × (length piece ≤ wanted hearing) × AreWanted (behind hearing piece) pieces

-- words that a client can send
pub record IsSent (words : List (List ℕ)) : Type 0 where
  pub fit : All IsWord words
  pub bounds : AreRequest words

pub record CutLaw : Type 0 where
  -- requests that are sent one behind the other come as they were sent, whatever the pieces are
  pub cut : (requests : List (List (List ℕ))) (pieces : List (List ℕ)) → All IsSent requests → flat_map (λ piece. piece) pieces ≡ flat_map request requests
      → AreWanted fresh pieces → requests_in fresh pieces ≡ requests
