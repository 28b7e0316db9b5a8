-- The polls of a turn: each command that runs is asked whether it has ended, and ended where it is late.
use Rattle.std.specs.Prelude.{ℕ, ◌+◌, Bool, true, false, Option, Some, None, option_map, slice_get}
use Rattle.f2b_base.specs.declared.input.What.{What}
use Rattle.f2b_base.specs.declared.input.What.TheVariants.{Ended, CheckFailed}
use Rattle.f2b_base.specs.declared.job.Outcome.{Outcome}
use Rattle.f2b_base.specs.declared.job.Outcome.TheVariants.{Status as EndedWith, TimedOut}
use Rattle.f2b_model.specs.Jobs.{is_success}
use Rattle.f2b_world.specs.declared.answer.PollAnswer.{PollAnswer}
use Rattle.f2b_world.specs.declared.answer.PollAnswer.TheVariants.{Ended as PollEnded}
use Rattle.child_table.specs.Children.{ended, passed_by}
use Rattle.child_table.specs.Late.{is_late}
use Rattle.child_table.specs.declared.child.Child.{Child}
use Rattle.child_table.specs.declared.child.Task.{Task}
use Rattle.child_table.specs.declared.child.Task.TheVariants.{Check, Command}
use Rattle.run_law.specs.Calls.{Call, AskKill, AskPoll}
use Rattle.run_law.specs.News.{News, brings, goes_to, only}
use Rattle.run_law.specs.Points.{Point, AtTurn, AtKill, Run}
use Rattle.run_law.specs.Server.{Server}
use Rattle.run_law.specs.Turn.{to_polls}

abbrev pub poll_call : ℕ → Server → Option Call
poll_call i s = option_map (λ (c : Child). AskPoll c.job) (slice_get s.children.running i)

abbrev pub kill_call : ℕ → Server → Option Call
kill_call i s = option_map (λ (c : Child). AskKill c.job) (slice_get s.children.running i)

-- the child of that place is gone, and the next one stands there
abbrev pub gone : ℕ → Server → Server
gone i s = record s { children = ended i s.children }

-- it was a check, and it has passed
abbrev pub gone_passed : ℕ → ℕ → Server → Server
gone_passed job i s = record s { children = passed_by job (ended i s.children) }

-- a check that succeeds has passed
abbrev pub has_succeeded : Task → Outcome → Bool
has_succeeded Check outcome = is_success outcome
has_succeeded Command outcome = false

-- what else the end of a child is: a try of the job ended, or a check before it failed
abbrev pub end_of : Task → ℕ → Outcome → What
end_of Command job outcome = Ended job outcome
end_of Check job outcome = CheckFailed job outcome

abbrev pub end_news : Child → Outcome → News
end_news c outcome = only (end_of c.task c.job outcome)

-- that a check has passed is no input
abbrev pub ended_as : Bool → Outcome → Child → ℕ → Server → Run → Run
ended_as true outcome c i s r = goes_to (to_polls i (gone_passed c.job i s)) r
ended_as false outcome c i s r = brings (end_news c outcome) (to_polls i) (gone i s) r

abbrev pub child_ended : Outcome → Child → ℕ → Server → Run → Run
child_ended outcome c i s r = ended_as (has_succeeded c.task outcome) outcome c i s r

-- a child that still runs is ended where it is late, and else left alone until the next turn
abbrev pub still_point : Bool → ℕ → Server → Point
still_point true i s = AtTurn (AtKill i) s
still_point false i s = to_polls (i + 1) s

abbrev pub polled : PollAnswer → Child → ℕ → Server → Run → Run
polled (PollEnded status) c i s r = child_ended (EndedWith status) c i s r
polled _ c i s r = goes_to (still_point (is_late s.now c) i s) r

abbrev pub polled_at : Option Child → PollAnswer → ℕ → Server → Run → Run
polled_at None answer i s r = r
polled_at (Some c) answer i s r = polled answer c i s r

abbrev pub killed_at : Option Child → ℕ → Server → Run → Run
killed_at None i s r = r
killed_at (Some c) i s r = child_ended TimedOut c i s r
