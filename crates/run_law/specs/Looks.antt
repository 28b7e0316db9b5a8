-- The looks of a turn: each log of a jail that is not idle, in order.
use Rattle.std.specs.Prelude.{ℕ, ◌+◌, Bool, true, false, List, [], ◌∷◌, Option, Some, None, option_map, slice_get, slice_set}
use Rattle.f2b_base.specs.declared.outside.FileLook.{FileLook}
use Rattle.f2b_world.specs.declared.answer.Look.{Look}
use Rattle.f2b_world.specs.declared.answer.Look.TheVariants.{File, Absent as LookAbsent, Failed as LookFailed, NoMemory as LookNoMemory}
use Rattle.log_follow.specs.Watches.{ask_in}
use Rattle.log_set.specs.Logs.{Watching, after_look, taken_of}
use Rattle.log_set.specs.declared.taken.Taken.{Taken}
use Rattle.run_law.specs.Calls.{Call, AskLook}
use Rattle.run_law.specs.News.{News, brings, goes_to}
use Rattle.run_law.specs.Points.{Run}
use Rattle.run_law.specs.Said.{rotated_line, unread_line}
use Rattle.run_law.specs.Server.{Server, log_jails}
use Rattle.run_law.specs.Turn.{to_looks}

-- a log is looked at as its watch asks: with the bytes of its head, from its reading place on, for as many bytes as one look brings
abbrev pub log_call : Watching → Call
log_call l = AskLook l.path (ask_in l.watch).head (ask_in l.watch).from (ask_in l.watch).max

abbrev pub look_call : ℕ → Server → Option Call
look_call i s = option_map log_call (slice_get s.logs i)

-- the log of that place is as the look left it
abbrev pub now_is : ℕ → Watching → FileLook → Server → Server
now_is i l file s = record s { logs = slice_set s.logs i (after_look file l) }

-- what is taken of the look, by the definitions that the jails have now
unfoldable pub look_taken : Server → Watching → FileLook → Taken
look_taken s l file = taken_of (log_jails s) s.now l file

abbrev pub rotated_lines : ℕ → Watching → Bool → List (List ℕ)
rotated_lines now l true = rotated_line now l.jail l.path ∷ []
rotated_lines now l false = []

-- That the log is another one is said first, also where the look is no input.
abbrev pub look_news : ℕ → Watching → Taken → News
look_news now l t = record { before = rotated_lines now l t.rotated; what = t.read; behind = [] }

abbrev pub unread_news : Server → Watching → News
unread_news s l = record { before = unread_line s.now l.jail l.path ∷ []; what = None; behind = [] }

-- of a log that is not there nothing is said
abbrev pub looked : Look → Watching → ℕ → Server → Run → Run
looked (File file) l i s r = brings (look_news s.now l (look_taken s l file)) (to_looks (i + 1)) (now_is i l file s) r
looked LookAbsent l i s r = goes_to (to_looks (i + 1) s) r
looked LookFailed l i s r = brings (unread_news s l) (to_looks (i + 1)) s r
looked LookNoMemory l i s r = r

abbrev pub looked_at : Option Watching → Look → ℕ → Server → Run → Run
looked_at None answer i s r = r
looked_at (Some l) answer i s r = looked answer l i s r
