-- The clock of a turn.
use Rattle.std.specs.Prelude.{if◌then◌else◌, Option, Some}
use Rattle.f2b_base.specs.declared.input.What.TheVariants.{Tick}
use Rattle.f2b_base.specs.declared.outside.Reading.{Reading}
use Rattle.f2b_model.specs.Steps.{moves, is_ban_due}
use Rattle.run_law.specs.Calls.{Call, AskClock}
use Rattle.run_law.specs.News.{News, nothing, only, brings}
use Rattle.run_law.specs.Points.{Run}
use Rattle.run_law.specs.Server.{Server, read_at}
use Rattle.run_law.specs.Turn.{to_logs}

abbrev pub clock_call : Option Call
clock_call = Some AskClock

-- a tick is taken where a ban is due
abbrev pub tick_news : Server → News
tick_news s = if is_ban_due moves s.now s.state.jails then only Tick else nothing

abbrev pub clocked : Server → Run → Run
clocked s r = brings (tick_news s) to_logs s r

abbrev pub clock_read : Reading → Server → Run → Run
clock_read answer s r = clocked (read_at answer s) r
