-- What words ask for can be sent.
use Rattle.std.proofs.Common.{◌≡◌, ℕ, Bool, true, false, List, [], ◌∷◌, length, Option, Some, None, refl, arith, if◌then◌else◌}
use Rattle.std.specs.Prelude.{◌||◌, ℤ, codes, option_map}
use Rattle.std.proofs.lemmas.Bool.{leb-true}
use Rattle.std.specs.Str.{bytes_eq}
use Rattle.client_frames.specs.Frames.{AreRequest, most_request, spelling}
use Rattle.jail_conf.specs.Times.{time_word}
use Rattle.client_tool.specs.Asks.{Asks, Request, Seconds, IsBounded, asks_nothing, asks_of, behind_quiet, behind_socket, behind_str2sec, is_request, request_at, request_to, usual_socket}

are_request : (words : List (List ℕ)) → is_request words ≡ true → AreRequest words
are_request [] is = absurd (cc)
are_request (word ∷ words) is = record { some = omega arith; few = leb-true (length (spelling (word ∷ words))) most_request is }

by_if : (is : Bool) (a b : Option Asks) → IsBounded a → IsBounded b → IsBounded (if is then a else b)
by_if true a b first other = first
by_if false a b first other = other

request_bounded : (quiet : Bool) (socket : List ℕ) (words : List (List ℕ)) → IsBounded (request_at quiet socket words)
request_bounded quiet socket words = by_test (is_request words) refl
  where
    by_test : (is : Bool) → is_request words ≡ is → IsBounded (if is then Some (Request quiet socket words) else None)
    by_test true is = are_request words is
    by_test false is = tt

to_bounded : (quiet : Bool) (socket : List ℕ) (words : List (List ℕ)) → IsBounded (request_to quiet socket words)
to_bounded quiet socket [] = tt
to_bounded quiet socket (first ∷ words) =
    by_if (bytes_eq first (codes "-q")) (request_at true socket words) (request_at quiet socket (first ∷ words)) (request_bounded true socket words)
    (request_bounded quiet socket (first ∷ words))

socket_bounded : (quiet : Bool) (words : List (List ℕ)) → IsBounded (behind_socket quiet words)
socket_bounded quiet [] = tt
socket_bounded quiet (socket ∷ words) = to_bounded quiet socket words

seconds_bounded : (seconds : Option ℤ) → IsBounded (option_map Seconds seconds)
seconds_bounded None = tt
seconds_bounded (Some seconds) = tt

str2sec_bounded : (words : List (List ℕ)) → IsBounded (behind_str2sec words)
str2sec_bounded [] = tt
str2sec_bounded (word ∷ []) = seconds_bounded (time_word word)
str2sec_bounded (word ∷ other ∷ words) = tt

quiet_bounded : (words : List (List ℕ)) → IsBounded (behind_quiet words)
quiet_bounded [] = tt
quiet_bounded (first ∷ rest) =
    by_if (bytes_eq first (codes "-s")) (behind_socket true rest) _ (socket_bounded true rest)
    (by_if (bytes_eq first (codes "--str2sec") || asks_nothing first) None (request_at true usual_socket (first ∷ rest)) tt (request_bounded true usual_socket (first ∷ rest)))

pub asks_bounded : (words : List (List ℕ)) → IsBounded (asks_of words)
unfolding asks_of
asks_bounded [] = tt
asks_bounded (first ∷ rest) =
    by_if (bytes_eq first (codes "-q")) (behind_quiet rest) _ (quiet_bounded rest)
    (by_if (bytes_eq first (codes "-s")) (behind_socket false rest) _ (socket_bounded false rest)
    (by_if (bytes_eq first (codes "--str2sec")) (behind_str2sec rest) _ (str2sec_bounded rest)
    (by_if (asks_nothing first) None (request_at false usual_socket (first ∷ rest)) tt (request_bounded false usual_socket (first ∷ rest)))))
