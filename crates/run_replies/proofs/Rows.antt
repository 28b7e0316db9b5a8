-- Worked events of two clients: what came of one, what it took, whether it was closed, and which read makes a request whole. And what is replied to a
-- reload, by the events that read the configuration.
use Rattle.std.proofs.Common.{ℕ, ◌≡◌, true, false, List, [], ◌∷◌, ◌++◌, Some, None, refl, arith, lit<}
use Rattle.std.specs.Fmt.{digits}
use Rattle.std.specs.Prelude.{codes}
use Rattle.std.proofs.lemmas.List.Elements.{All-cons, All-nil}
use Rattle.std.specs.List.{flat_map}
use Rattle.client_frames.specs.Comes.{said_length}
use Rattle.client_frames.specs.Frames.{four_bytes, framed, most_request, request, spelling, two_bytes, word_spelling}
use Rattle.client_frames.specs.Laws.{IsSent}
use Rattle.client_frames.proofs.FrameLemmas.{part_none, part_some, said_none}
use Rattle.f2b_base.specs.declared.outside.TreeAnswer.TheVariants.{Failed as TreeFailed, TooLarge as TreeTooLarge, NoMemory as TreeNoMemory}
use Rattle.f2b_world.specs.declared.answer.Accept.TheVariants.{Conn}
use Rattle.f2b_world.specs.declared.answer.GateRead.TheVariants as read
use Rattle.f2b_world.specs.declared.answer.GateWrite.TheVariants as write
use Rattle.f2b_world.specs.declared.answer.MakeAnswer.TheVariants.{Built, Syntax as WasSyntax}
use Rattle.f2b_world.specs.declared.event.Event.{Event}
use Rattle.f2b_world.specs.declared.event.Event.TheVariants.{Config, GateAccept, GateClose, GateRead, GateWrite, Make}
use Rattle.filter_regex.specs.declared.error.PatternPlace.TheVariants.{Fail}
use Rattle.run_law.specs.Patterns.{Pattern}
use Rattle.run_law.specs.Refusals.{pattern_refusal}
use Rattle.run_replies.specs.Replied.{MakesWhole, by_makes, by_reading}
use Rattle.run_replies.specs.Talks.{came_in, is_closed, taken_in}

-- the frame of the reply to a ping
abbrev pong : List ℕ
pong = 0 ∷ 0 ∷ 0 ∷ 5 ∷ 0 ∷ codes "pong"

abbrev first : Event
first = GateRead 7 4 (read.Bytes (0 ∷ 0 ∷ 0 ∷ 6 ∷ []))

abbrev second : Event
second = GateRead 7 6 (read.Bytes (0 ∷ 4 ∷ codes "ping"))

abbrev talk : List Event
talk =
    GateAccept (Conn 7) ∷ first ∷ GateRead 8 4 (read.Bytes (0 ∷ [])) ∷ second ∷ GateWrite 7 pong (write.Took 6) ∷ GateRead 8 3 read.End ∷ GateClose 8
    ∷ GateWrite 7 (codes "ong") write.Quiet ∷ GateWrite 7 (codes "ong") (write.Took 1) ∷ []

came_of_it : came_in 7 talk ≡ 0 ∷ 0 ∷ 0 ∷ 6 ∷ 0 ∷ 4 ∷ codes "ping"
came_of_it = refl

taken_by_it : taken_in 7 talk ≡ 0 ∷ 0 ∷ 0 ∷ 5 ∷ 0 ∷ codes "po"
taken_by_it = refl

goes_on : is_closed 7 talk ≡ false
goes_on = refl

is_over : is_closed 8 talk ≡ true
is_over = refl

-- ---- the second read makes the request whole

abbrev asked : List (List ℕ)
asked = codes "ping" ∷ []

says_six : said_length (0 ∷ 0 ∷ 0 ∷ 6 ∷ []) ≡ Some 6
unfolding said_length
says_six = refl

ping_frame : 0 ∷ 0 ∷ 0 ∷ 6 ∷ 0 ∷ 4 ∷ codes "ping" ≡ flat_map request (asked ∷ []) ++ []
unfolding request framed four_bytes spelling word_spelling two_bytes
ping_frame = refl

whole_with_the_second : IsSent asked → MakesWhole 7 (first ∷ []) second 0 asked
whole_with_the_second sent = record {
  others = [];
  so_many = refl;
  before = record {
    rest = 0 ∷ 0 ∷ 0 ∷ 6 ∷ [];
    is = refl;
    sent = All-nil IsSent;
    behind = part_some most_request (0 ∷ 0 ∷ 0 ∷ 6 ∷ []) 6 says_six (omega arith) (omega arith) (omega arith);
  };
  whole = record { rest = []; is = ping_frame; sent = All-cons IsSent asked [] sent (All-nil IsSent); behind = part_none most_request [] (said_none [] (lit< tt)) };
}

-- ---- what is replied to a reload

abbrev root : List ℕ
root = codes "/c"

not_read : by_reading (Config root TreeFailed ∷ talk) ≡ Some (record { accepted = false; text = codes "Configuration not read" })
not_read = refl

read_again_for_want_of_memory : by_reading (Config root TreeNoMemory ∷ Config root TreeTooLarge ∷ []) ≡ Some (record { accepted = false; text = codes "Configuration too large" })
read_again_for_want_of_memory = refl

-- two patterns of a jail
abbrev both : List Pattern
both = record { jail = codes "a"; place = Fail 1; text = codes "x" } ∷ record { jail = codes "a"; place = Fail 2; text = codes "y" } ∷ []

waits_for_the_second : by_makes both (Make (codes "x") Built ∷ []) ≡ None
waits_for_the_second = refl

second_refused : by_makes both (Make (codes "x") Built ∷ Make (codes "y") WasSyntax ∷ talk) ≡ Some (record { accepted = false; text = codes "Pattern refused: a failregex 2 Syntax" })
unfolding pattern_refusal digits
second_refused = refl

taken_behind_both : by_makes both (Make (codes "x") Built ∷ Make (codes "y") Built ∷ talk) ≡ Some (record { accepted = true; text = codes "OK" })
taken_behind_both = refl
