-- The pause of a turn, and the turns that are left.
use Rattle.std.specs.Prelude.{ℕ, zero, suc, ◌-◌, Option, Some}
use Rattle.run_law.specs.Calls.{Call, AskPause}
use Rattle.run_law.specs.News.{goes_to}
use Rattle.run_law.specs.Points.{Point, AtTurn, AtClock, Over, Run}
use Rattle.run_law.specs.Server.{Server}
use Rattle.run_law.specs.declared.status.Status.TheVariants.{TurnsSpent}

-- a pause has 250 milliseconds
abbrev pub pause_call : Option Call
pause_call = Some (AskPause 250)

abbrev pub turned : ℕ → Server → Point
turned zero s = Over TurnsSpent
turned (suc n) s = AtTurn AtClock (record s { left = suc n })

abbrev pub next_turn : Server → Point
next_turn s = turned (s.left - 1) s

abbrev pub paused : Server → Run → Run
paused s r = goes_to (next_turn s) r
