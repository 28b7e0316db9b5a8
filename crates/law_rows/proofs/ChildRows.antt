-- Parts of turns, computed: a lane with a check, whose first job is a ban.
use Rattle.std.proofs.Common.{ℕ, ◌≡◌, false, Some, List, [], ◌∷◌, ◌++◌, refl, pos}
use Rattle.std.specs.Fmt.{digits}
use Rattle.std.specs.Prelude.{codes}
use Rattle.f2b_base.specs.declared.addr.Addr.TheVariants.{V4}
use Rattle.f2b_base.specs.declared.addr.Family.TheVariants.{Both}
use Rattle.f2b_base.specs.declared.jail.ActionDef.{ActionDef}
use Rattle.f2b_base.specs.declared.job.Job.{Job}
use Rattle.f2b_base.specs.declared.job.JobKind.TheVariants.{Ban}
use Rattle.f2b_base.specs.declared.job.UpLane.{UpLane}
use Rattle.f2b_base.specs.declared.view.View.{View}
use Rattle.f2b_model.specs.Render.{rendered}
use Rattle.f2b_world.specs.declared.answer.PollAnswer.TheVariants.{Running, Ended, Failed as PollFailed}
use Rattle.f2b_world.specs.declared.answer.Said.TheVariants.{Done}
use Rattle.f2b_world.specs.declared.answer.StartAnswer.TheVariants.{Started, Failed as StartFailed}
use Rattle.f2b_world.specs.declared.event.Event.{Event}
use Rattle.f2b_world.specs.declared.event.Event.TheVariants.{Say, ChildStart, ChildPoll, ChildKill, Pause}
use Rattle.record_codec.specs.Inputs.{input, what}
use Rattle.record_codec.specs.Lanes.{outcome}
use Rattle.record_fields.specs.Numbers.{digits as number_digits}
use Rattle.run_law.specs.Calls.{AskSay, AskStart, AskPoll, AskKill, AskPause}
use Rattle.run_law.specs.Law.{next_call}
use Rattle.run_law.specs.News.{brings}
use Rattle.run_law.specs.Points.{Run}
use Rattle.run_law.specs.Said.{check_line, failed_line, lane_lines, lines_of, restart_line, stamped}
use Rattle.run_law.specs.Turn.{to_accept, to_children, to_end, to_logs, to_starts}
use Rattle.law_rows.proofs.RowJails.{added, after_all, clock, nobody_comes, server, shown, turning, view_of_two}

-- ---- the lane of an action `n` of the jail `a`

abbrev action : List ℕ → ActionDef
action check = record { name = codes "n"; family = Both; start = codes "up"; stop = codes "down"; ban = codes "in"; unban = codes "out"; check = check; timeout = 60 }

abbrev lane : List ℕ → UpLane
lane check = record { jail = codes "a"; action = action check }

-- the ban of an address, due at 900
abbrev ban : ℕ → Job
ban id = record {
  id = id;
  lane = record { jail = codes "a"; action = codes "n"; family = Both };
  kind = Ban;
  addr = Some (V4 3221225991);
  text = codes "in";
  timeout = 60;
  tries = 0;
  due = 900;
}

abbrev view : List ℕ → View
view check = record (view_of_two (shown (codes "a") false [] []) (shown (codes "b") false [] [])) { up = lane check ∷ []; jobs = ban 2 ∷ ban 3 ∷ []; next_job = 9 }

-- a run whose lane is up with this check, before a turn
abbrev run : List ℕ → Run
run check = turning (server (view check) [] 9)

-- ---- the check comes before the command, and one job of a lane after the other

abbrev checking : List Event
checking = clock 1000 ∷ nobody_comes ∷ ChildStart 2 (codes "look") Started ∷ []

starts_the_check_first : next_call (after_all (run (codes "look")) (clock 1000 ∷ nobody_comes ∷ [])) ≡ Some (AskStart 2 (codes "look"))
unfolding brings to_logs to_children to_accept to_starts to_end rendered
starts_the_check_first = refl

starts_nothing_else_of_the_lane : next_call (after_all (run (codes "look")) checking) ≡ Some (AskPause 250)
unfolding brings to_logs to_children to_accept to_starts to_end rendered
starts_nothing_else_of_the_lane = refl

polls_in_the_next_turn : next_call (after_all (run (codes "look")) (checking ++ Pause 250 ∷ clock 1001 ∷ [])) ≡ Some (AskPoll 2)
unfolding brings to_logs to_children to_accept to_starts to_end rendered
polls_in_the_next_turn = refl

-- where no check is set the command is started at once
starts_without_a_check : next_call (after_all (run []) (clock 1000 ∷ nobody_comes ∷ [])) ≡ Some (AskStart 2 (codes "in"))
unfolding brings to_logs to_children to_accept to_starts to_end rendered
starts_without_a_check = refl

-- ---- a check that passes serves one try

abbrev passed : List Event
passed = checking ++ Pause 250 ∷ clock 1001 ∷ ChildPoll 2 (Ended (pos 0)) ∷ nobody_comes ∷ []

starts_the_command_behind_it : next_call (after_all (run (codes "look")) passed) ≡ Some (AskStart 2 (codes "in"))
unfolding brings to_logs to_children to_accept to_starts to_end rendered
starts_the_command_behind_it = refl

-- the command fails: the job is due again 2 seconds later
abbrev failed : List Event
failed = passed ++ ChildStart 2 (codes "in") Started ∷ Pause 250 ∷ clock 1002 ∷ ChildPoll 2 (Ended (pos 1)) ∷ added

says_that_it_failed : next_call (after_all (run (codes "look")) failed) ≡ Some (AskSay (codes "1002 ERROR [a/n] ban failed: status 1\n"))
unfolding brings to_logs to_children to_accept to_starts to_end rendered lines_of lane_lines failed_line stamped digits input what outcome number_digits
says_that_it_failed = refl

checks_again_before_the_next_try : next_call (after_all (run (codes "look")) (failed ++ Say (codes "1002 ERROR [a/n] ban failed: status 1\n") Done ∷ nobody_comes ∷ Pause 250 ∷ clock 1004 ∷ nobody_comes ∷ [])) ≡ Some (AskStart 2 (codes "look"))
unfolding brings to_logs to_children to_accept to_starts to_end rendered lines_of lane_lines failed_line stamped digits input what outcome number_digits
checks_again_before_the_next_try = refl

-- a command that could not be started was a try too
abbrev not_started : List Event
not_started = passed ++ ChildStart 2 (codes "in") StartFailed ∷ added

says_that_it_did_not_start : next_call (after_all (run (codes "look")) not_started) ≡ Some (AskSay (codes "1001 ERROR [a/n] ban failed: not started\n"))
unfolding brings to_logs to_children to_accept to_starts to_end rendered lines_of lane_lines failed_line stamped digits input what outcome number_digits
says_that_it_did_not_start = refl

checks_again_behind_it : next_call (after_all (run (codes "look")) (not_started ++ Say (codes "1001 ERROR [a/n] ban failed: not started\n") Done ∷ Pause 250 ∷ clock 1003 ∷ nobody_comes ∷ [])) ≡ Some (AskStart 2 (codes "look"))
unfolding brings to_logs to_children to_accept to_starts to_end rendered lines_of lane_lines failed_line stamped digits input what outcome number_digits
checks_again_behind_it = refl

-- ---- a check that fails: the bans are voided, and the lane starts anew

abbrev bad : List Event
bad = checking ++ Pause 250 ∷ clock 1001 ∷ ChildPoll 2 (Ended (pos 1)) ∷ added

says_both : next_call (after_all (run (codes "look")) bad) ≡ Some (AskSay (codes "1001 WARNING [a/n] check failed: status 1\n1001 INFO [a/n] restart\n"))
unfolding brings to_logs to_children to_accept to_starts to_end rendered lines_of lane_lines check_line restart_line stamped digits input what outcome number_digits
says_both = refl

stops_the_lane : next_call (after_all (run (codes "look")) (bad ++ Say (codes "1001 WARNING [a/n] check failed: status 1\n1001 INFO [a/n] restart\n") Done ∷ nobody_comes ∷ [])) ≡ Some (AskStart 9 (codes "down"))
unfolding brings to_logs to_children to_accept to_starts to_end rendered lines_of lane_lines check_line restart_line stamped digits input what outcome number_digits
stops_the_lane = refl

-- ---- a child that does not end

-- its minute is not over with its last second, and a poll that fails is as one that finds it running
abbrev waits : List Event
waits = checking ++ Pause 250 ∷ clock 1059 ∷ ChildPoll 2 PollFailed ∷ nobody_comes ∷ []

leaves_it_alone : next_call (after_all (run (codes "look")) waits) ≡ Some (AskPause 250)
unfolding brings to_logs to_children to_accept to_starts to_end rendered
leaves_it_alone = refl

abbrev late : List Event
late = waits ++ Pause 250 ∷ clock 1060 ∷ ChildPoll 2 Running ∷ []

ends_it : next_call (after_all (run (codes "look")) late) ≡ Some (AskKill 2)
unfolding brings to_logs to_children to_accept to_starts to_end rendered
ends_it = refl

says_that_it_took_too_long : next_call (after_all (run (codes "look")) (late ++ ChildKill 2 ∷ added)) ≡ Some (AskSay (codes "1060 WARNING [a/n] check failed: timed out\n1060 INFO [a/n] restart\n"))
unfolding brings to_logs to_children to_accept to_starts to_end rendered lines_of lane_lines check_line restart_line stamped digits input what outcome number_digits
says_that_it_took_too_long = refl
