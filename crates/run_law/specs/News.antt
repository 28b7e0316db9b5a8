-- What an event brings, and how a run takes it: the one place where inputs are written and taken, and lines become owed.
use Rattle.std.specs.Prelude.{ℕ, ◌++◌, ◌-◌, ◌^◌, min, List, [], ◌∷◌, Option, Some, None, option_to_list}
use Rattle.f2b_base.specs.declared.input.Input.{Input}
use Rattle.f2b_base.specs.declared.input.What.{What}
use Rattle.run_law.specs.Points.{Point, Over, Run}
use Rattle.run_law.specs.Refusals.{status_lines}
use Rattle.run_law.specs.Server.{Server, entry_in, input_at, taken, told_lines}
use Rattle.run_law.specs.declared.status.Status.{Status}
use Rattle.run_law.specs.declared.status.Status.TheVariants.{JournalFull, NumbersSpent}
use Rattle.slot_writes.specs.Entries.{Entry, Written, Full, Spent}
use Rattle.slot_writes.specs.Writes.{Write}

-- lines that come first, what happened, if that is an input, and lines that come behind those that it tells
pub record News : Type 0 where
  pub before : List (List ℕ)
  pub what : Option What
  pub behind : List (List ℕ)

abbrev pub nothing : News
nothing = record { before = []; what = None; behind = [] }

abbrev pub only : What → News
only what = record { before = []; what = Some what; behind = [] }

-- the server behind what happened, if that is an input
abbrev pub server_after : Option What → Server → Server
server_after None s = s
server_after (Some what) s = taken what s

abbrev pub after_news : News → Server → Server
after_news news s = server_after news.what s

-- the lines of an input
abbrev pub lines_in : News → What → Server → List (List ℕ)
lines_in news what s = news.before ++ told_lines what s ++ news.behind

-- ---- a run goes on

-- to a point
abbrev pub goes_to : Point → Run → Run
goes_to point r = record r { point = point }

abbrev pub owing : List (List ℕ) → Run → Run
owing lines r = record r { owed = r.owed ++ lines }

-- a refusal ends the run, once its line is said
abbrev pub refused : ℕ → Status → Run → Run
refused now status r = owing (status_lines now status) (goes_to (Over status) r)

-- ---- an input

-- all inputs so far, the one that is not closed among them
abbrev pub inputs_of : Run → List Input
inputs_of r = r.closed ++ option_to_list r.unclosed

-- an input comes, and is not closed
abbrev pub entering : Input → Run → Run
entering input r = record r { unclosed = Some input }

-- it is taken, and its lines wait
abbrev pub taking : News → What → (Server → Point) → Server → Run → Run
taking news what next s r = record (entering (input_at s what) r) { point = next (taken what s); held = lines_in news what s }

-- all of it is written: it is closed, and its lines are owed
abbrev pub closing : Run → Run
closing r = owing r.held (record r { closed = inputs_of r; unclosed = None; writes = []; held = [] })

-- these calls are left to write it
abbrev pub writing : List Write → Run → Run
writing [] r = closing r
writing (w ∷ ws) r = record r { writes = w ∷ ws }

-- a status says no number above the greatest of 64 bits
abbrev pub said_number : ℕ → ℕ
said_number n = min n (2 ^ 64 - 1)

-- An input is written before its lines are owed. Where there is no room for it, or numbers are used up, it is not, and the run ends.
abbrev pub entered : Entry → News → What → (Server → Point) → Server → Run → Run
entered (Written position writes) news what next s r = writing writes (taking news what next s r)
entered (Full need) news what next s r = refused s.now (JournalFull (said_number need) s.position.limit) (entering (input_at s what) r)
entered Spent news what next s r = refused s.now NumbersSpent (entering (input_at s what) r)

abbrev pub brings_by : Option What → News → (Server → Point) → Server → Run → Run
brings_by None news next s r = owing (news.before ++ news.behind) (goes_to (next s) r)
brings_by (Some what) news next s r = entered (entry_in s what) news what next s r

-- what an event brings is taken, and the run goes on from the server after that
unfoldable pub brings : News → (Server → Point) → Server → Run → Run
brings news next s r = brings_by news.what news next s r
