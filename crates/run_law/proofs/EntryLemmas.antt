-- Lines may be said at each entry of a turn.
use Rattle.std.proofs.Common.{ℕ, Bool, true, false, cond, nat_lt, length, Option, Some, None}
use Rattle.f2b_base.specs.declared.job.Job.{Job}
use Rattle.log_set.specs.Logs.{next_look}
use Rattle.run_law.specs.Children.{startable}
use Rattle.run_law.specs.Points.{AtTurn, AtPoll, Over, Point}
use Rattle.run_law.specs.Server.{Server, is_stopping, jobs, log_jails}
use Rattle.run_law.specs.Serving.{Onward, point_on}
use Rattle.run_law.specs.Stages.{IsSaying}
use Rattle.run_law.specs.Turn.{at_pause, behind_client, is_drained, look_point, start_point, to_accept, to_children, to_clients, to_end, to_logs, to_looks, to_polls, to_starts}
use Rattle.run_law.specs.declared.status.Status.TheVariants.{Stopped}
use Rattle.run_law.proofs.ServingLemmas.{accept_point, behind_point, clients_point, onward_point}

saying_if : (b : Bool) (p q : Point) → IsSaying p → IsSaying q → IsSaying (cond b p q)
saying_if true p q at_true at_false = at_true
saying_if false p q at_true at_false = at_false

saying_end : (s : Server) → IsSaying (to_end s)
unfolding to_end
saying_end s = saying_if (is_drained s) (Over Stopped) (at_pause s) tt tt

saying_start : (o : Option Job) (s : Server) → IsSaying (start_point o s)
saying_start None s = saying_end s
saying_start (Some job) s = tt

pub saying_starts : (s : Server) → IsSaying (to_starts s)
unfolding to_starts
saying_starts s = saying_start (startable s.now s.children (jobs s)) s

pub saying_clients : (i : ℕ) (s : Server) → IsSaying (to_clients i s)
saying_clients i s = clients_point IsSaying s (λ j. tt) (λ j. tt) (saying_starts s) i

pub saying_behind : (i : ℕ) (s : Server) → IsSaying (behind_client i s)
saying_behind i s = behind_point IsSaying s (λ j. tt) (λ j. tt) (saying_starts s) i

pub saying_onward : (o : Onward) (s : Server) → IsSaying (point_on o s)
saying_onward o s = onward_point IsSaying s (λ j. tt) (λ j. tt) (saying_starts s) (λ j. tt) o

pub saying_accept : (s : Server) → IsSaying (to_accept s)
saying_accept s = accept_point IsSaying s (λ j. tt) (λ j. tt) (saying_starts s) tt

pub saying_polls : (i : ℕ) (s : Server) → IsSaying (to_polls i s)
saying_polls i s = saying_if (nat_lt i (length s.children.running)) (AtTurn (AtPoll i) s) (to_accept s) tt (saying_accept s)

saying_children : (s : Server) → IsSaying (to_children s)
unfolding to_children
saying_children s = saying_polls 0 s

saying_look : (o : Option ℕ) (s : Server) → IsSaying (look_point o s)
saying_look None s = saying_children s
saying_look (Some i) s = tt

pub saying_looks : (i : ℕ) (s : Server) → IsSaying (to_looks i s)
saying_looks i s = saying_look (next_look i (log_jails s) s.logs) s

pub saying_logs : (s : Server) → IsSaying (to_logs s)
unfolding to_logs
saying_logs s = saying_if (is_stopping s) (to_children s) (to_looks 0 s) (saying_children s) (saying_looks 0 s)
