-- The starts of a turn: commands, and checks before them, as long as there is room and a job is due.
use Rattle.std.specs.Prelude.{ℕ, List, Option, Some}
use Rattle.f2b_base.specs.declared.job.Outcome.TheVariants.{NotStarted}
use Rattle.f2b_world.specs.declared.answer.StartAnswer.{StartAnswer}
use Rattle.f2b_world.specs.declared.answer.StartAnswer.TheVariants.{Started, Failed as StartFailed, NoMemory as StartNoMemory}
use Rattle.child_table.specs.Children.{not_started, started}
use Rattle.child_table.specs.declared.child.Child.{Child}
use Rattle.run_law.specs.Calls.{Call, AskStart}
use Rattle.run_law.specs.News.{brings, goes_to}
use Rattle.run_law.specs.Points.{Run}
use Rattle.run_law.specs.Polls.{end_news}
use Rattle.run_law.specs.Server.{Server}
use Rattle.run_law.specs.Turn.{to_starts}

abbrev pub start_call : Child → List ℕ → Option Call
start_call c text = Some (AskStart c.job text)

-- the child runs from now on
abbrev pub with_child : Child → Server → Server
with_child c s = record s { children = started c s.children }

-- it could not be started
abbrev pub without_child : Child → Server → Server
without_child c s = record s { children = not_started c s.children }

abbrev pub child_started : StartAnswer → Child → Server → Run → Run
child_started Started c s r = goes_to (to_starts (with_child c s)) r
child_started StartFailed c s r = brings (end_news c NotStarted) to_starts (without_child c s) r
child_started StartNoMemory c s r = r
