-- From the law alone: each start is of the job that comes next, and none that may be started waits at a pause.
use Rattle.std.proofs.Common.{ℕ, zero, suc, ◌≡◌, ◌+◌, ◌-◌, Bool, true, false, cond, nat_lt, List, [], ◌∷◌, length, take, Option, Some, None, Result, Ok, Err, refl, sym, ap, subst}
use Rattle.std.specs.Prelude.{slice_get, option_map}
use Rattle.f2b_base.specs.declared.job.Job.{Job}
use Rattle.f2b_base.specs.declared.job.Outcome.{Outcome}
use Rattle.f2b_base.specs.declared.job.Outcome.TheVariants.{Status as EndedWith, NotStarted, TimedOut}
use Rattle.f2b_base.specs.declared.job.UpLane.{UpLane}
use Rattle.f2b_base.specs.declared.outside.TreeAnswer.{TreeAnswer}
use Rattle.f2b_base.specs.declared.outside.TreeAnswer.TheVariants.{Tree, Failed as TreeFailed, TooLarge as TreeTooLarge, NoMemory as TreeNoMemory}
use Rattle.f2b_world.specs.Told.{History}
use Rattle.f2b_world.specs.Walks.{after, Along}
use Rattle.f2b_world.specs.declared.answer.Listen.{Listen}
use Rattle.f2b_world.specs.declared.answer.Listen.TheVariants.{Listening, Failed as ListenFailed}
use Rattle.f2b_world.specs.declared.answer.Look.{Look}
use Rattle.f2b_world.specs.declared.answer.Look.TheVariants.{File, Absent, Failed as LookFailed, NoMemory as LookNoMemory}
use Rattle.f2b_world.specs.declared.answer.MakeAnswer.{MakeAnswer}
use Rattle.f2b_world.specs.declared.answer.MakeAnswer.TheVariants.{Built, Syntax as WasSyntax, TooBig as WasTooBig}
use Rattle.f2b_world.specs.declared.answer.PollAnswer.{PollAnswer}
use Rattle.f2b_world.specs.declared.answer.PollAnswer.TheVariants.{Running, Ended as PollEnded, Failed as PollFailed}
use Rattle.f2b_world.specs.declared.answer.Said.TheVariants.{Done, Failed as SayFailed}
use Rattle.f2b_world.specs.declared.answer.StartAnswer.{StartAnswer}
use Rattle.f2b_world.specs.declared.answer.StartAnswer.TheVariants.{Started, Failed as StartFailed, NoMemory as StartNoMemory}
use Rattle.f2b_world.specs.declared.event.Event.{Event}
use Rattle.f2b_world.specs.declared.event.Event.TheVariants.{Say, DiskLen, DiskRead, DiskWrite, DiskSync, Make, Clock, Config, StoreAt, Names, Look as LookAt, ChildStart, ChildPoll, ChildKill, GateListen, GateAccept, GateRead, GateWrite, GateClose, Pause}
use Rattle.child_table.specs.Late.{is_late}
use Rattle.child_table.specs.declared.child.Child.{Child}
use Rattle.jail_conf.specs.Conf.{conf}
use Rattle.jail_conf.specs.declared.conf_error.ConfError.{ConfError}
use Rattle.jail_conf.specs.declared.settings.Settings.{Settings}
use Rattle.log_set.specs.Logs.{Watching, next_look}
use Rattle.client_table.specs.Clients.{asks_at, conn_at}
use Rattle.run_law.specs.Calls.{Call, AskKill, AskPoll, IsNext}
use Rattle.run_law.specs.Children.{checked_first, startable}
use Rattle.run_law.specs.Clock.{tick_news}
use Rattle.run_law.specs.Law.{Free, MayCome, begin, begin_with, call_of, feed, moved, point_call, turns}
use Rattle.reconcile.specs.Loads.{Loaded, loaded}
use Rattle.run_law.specs.Looks.{log_call, look_news, look_taken, looked, looked_at, now_is, unread_news}
use Rattle.run_law.specs.News.{News, after_news, brings}
use Rattle.run_law.specs.Paths.{Path, Naming, first_naming, named, with_paths}
use Rattle.run_law.specs.Patterns.{Pattern, patterns_of}
use Rattle.run_law.specs.Pause.{turned}
use Rattle.run_law.specs.Points.{Place, AtClock, AtLook, AtPoll, AtKill, AtAccept, AtClient, AtClose, Rereading, OfTree, OfMakes, OfNames, AtReload, AtStart, AtPause, Point, AtTree, AtMakes, AtStore, AtListen, AtFirst, AtNames, AtTurn, Over, Run}
use Rattle.run_law.specs.Polls.{end_news, ended_as, gone, gone_passed, has_succeeded, killed_at, polled_at, still_point}
use Rattle.run_law.specs.Served.{IsAllStarted, IsStartFor, StartsAt, StartsInTurn, run_after}
use Rattle.run_law.specs.Server.{Server, begun, following, is_stopping, jobs, lanes_up, log_jails, read_at}
use Rattle.run_law.specs.Serving.{Onward, Service, closes, lets_in, point_on, reads, serves, with_clients, writes}
use Rattle.run_law.specs.Reading.{names_call, names_in, names_next, unread_by}
use Rattle.run_law.specs.Reload.{left_for, names_for, reload_news, reloaded, reloads, taken_for, tells_taken, tells_untaken, untaken_for}
use Rattle.run_law.specs.Start.{defined, first_turn, listened, loads, made, makes_on, start_news, to_makes, to_names, tree_read}
use Rattle.run_law.specs.Starts.{child_started, with_child, without_child}
use Rattle.run_law.specs.Turn.{at_pause, behind_client, is_drained, look_point, start_place, start_point, to_accept, to_children, to_end, to_logs, to_looks, to_polls, to_starts}
use Rattle.run_law.specs.Words.{plan_of}
use Rattle.run_law.specs.declared.plan.Plan.{Plan}
use Rattle.run_law.specs.declared.status.Status.TheVariants.{Stopped}
use Rattle.run_law.proofs.DiskLemmas.{next_behind}
use Rattle.run_law.proofs.NewsLemmas.{brings_point, measured_point, piece_point, synced_point, wrote_point}
use Rattle.run_law.proofs.PointLemmas.{paid_call}
use Rattle.run_law.proofs.SaidLemmas.{may_at, pause_next, start_next}
use Rattle.run_law.specs.declared.status.Status.{Status}
use Rattle.run_law.proofs.ReadingLemmas.{makes_by, names_by, reload_none, tree_by}
use Rattle.run_law.proofs.ServingLemmas.{accept_point, asked_none, behind_point, onward_point}

-- ---- points at which a start or a pause is as it should be

abbrev IsDue : Point → Type 0
IsDue (AtTurn (AtStart c text) s) = (job : Job) × IsStartFor s c text job
IsDue (AtTurn AtPause s) = startable s.now s.children (jobs s) ≡ None
IsDue _ = Unit {0}

due_if : (b : Bool) (p q : Point) → IsDue p → IsDue q → IsDue (cond b p q)
due_if true p q at_true at_false = at_true
due_if false p q at_true at_false = at_false

due_place : (lane : Option UpLane) (job : Job) (s : Server) → startable s.now s.children (jobs s) ≡ Some job → checked_first s.children (lanes_up s) (jobs s) job.id ≡ lane
    → IsDue (AtTurn (start_place s.now job lane) s)
due_place None job s next is = (job, record { next = next; child = ap (start_place s.now job) (sym is) })
due_place (Some lane) job s next is = (job, record { next = next; child = ap (start_place s.now job) (sym is) })

due_end : (s : Server) → startable s.now s.children (jobs s) ≡ None → IsDue (to_end s)
unfolding to_end
due_end s none = due_if (is_drained s) (Over Stopped) (at_pause s) tt none

due_start : (o : Option Job) (s : Server) → startable s.now s.children (jobs s) ≡ o → IsDue (start_point o s)
due_start None s is = due_end s is
due_start (Some job) s is = due_place (checked_first s.children (lanes_up s) (jobs s) job.id) job s is refl

due_starts : (s : Server) → IsDue (to_starts s)
unfolding to_starts
due_starts s = due_start (startable s.now s.children (jobs s)) s refl

due_onward : (o : Onward) (s : Server) → IsDue (point_on o s)
due_onward o s = onward_point IsDue s (λ i. tt) (λ i. tt) (due_starts s) (λ i. tt) o

due_behind : (i : ℕ) (s : Server) → IsDue (behind_client i s)
due_behind i s = behind_point IsDue s (λ j. tt) (λ j. tt) (due_starts s) i

due_accept : (s : Server) → IsDue (to_accept s)
due_accept s = accept_point IsDue s (λ i. tt) (λ i. tt) (due_starts s) tt

due_polls : (i : ℕ) (s : Server) → IsDue (to_polls i s)
due_polls i s = due_if (nat_lt i (length s.children.running)) (AtTurn (AtPoll i) s) (to_accept s) tt (due_accept s)

due_children : (s : Server) → IsDue (to_children s)
unfolding to_children
due_children s = due_polls 0 s

due_look : (o : Option ℕ) (s : Server) → IsDue (look_point o s)
due_look None s = due_children s
due_look (Some i) s = tt

due_looks : (i : ℕ) (s : Server) → IsDue (to_looks i s)
due_looks i s = due_look (next_look i (log_jails s) s.logs) s

due_logs : (s : Server) → IsDue (to_logs s)
unfolding to_logs
due_logs s = due_if (is_stopping s) (to_children s) (to_looks 0 s) (due_children s) (due_looks 0 s)

due_still : (late : Bool) (i : ℕ) (s : Server) → IsDue (still_point late i s)
due_still true i s = tt
due_still false i s = due_polls (i + 1) s

due_turned : (n : ℕ) (s : Server) → IsDue (turned n s)
due_turned zero s = tt
due_turned (suc n) s = tt

due_makes : (settings : Settings) (left : List Pattern) → IsDue (to_makes settings left)
due_makes settings [] = tt
due_makes settings (p ∷ ps) = tt

-- ---- what an event brings leads to such a point

due_brings : (news : News) (next : Server → Point) → ((t : Server) → IsDue (next t)) → (s : Server) (r : Run) → IsDue (brings news next s r).point
due_brings news next due s r = brings_point IsDue (λ need limit. tt) tt news next s r (due (after_news news s))

-- ---- the start of a run

due_defined : (o : Result Settings ConfError) (r : Run) → IsDue (defined o r).point
due_defined (Ok settings) r = due_makes settings (patterns_of settings.defs)
due_defined (Err error) r = tt

due_tree : (answer : TreeAnswer) (r : Run) → IsDue r.point → IsDue (tree_read answer r).point
due_tree (Tree tree) r same = due_defined (conf tree) r
due_tree TreeFailed r same = tt
due_tree TreeTooLarge r same = tt
due_tree TreeNoMemory r same = same

due_made : (answer : MakeAnswer) (settings : Settings) (p : Pattern) (ps : List Pattern) (r : Run) → IsDue (made answer settings p ps r).point
due_made Built settings p ps r = due_makes settings ps
due_made WasSyntax settings p ps r = tt
due_made WasTooBig settings p ps r = tt

due_makes_on : (left : List Pattern) (answer : MakeAnswer) (settings : Settings) (r : Run) → IsDue r.point → IsDue (makes_on left answer settings r).point
due_makes_on [] answer settings r same = same
due_makes_on (p ∷ ps) answer settings r same = due_made answer settings p ps r

due_loads : (o : Result Loaded (ℕ × ℕ)) (settings : Settings) (r : Run) → IsDue (loads o settings r).point
due_loads (Ok l) settings r = tt
due_loads (Err place) settings r = tt

due_listened : (answer : Listen) (settings : Settings) (l : Loaded) (r : Run) → IsDue (listened answer settings l r).point
due_listened Listening settings l r = tt
due_listened ListenFailed settings l r = tt

due_names : (before : List (List ℕ)) (settings : Settings) (naming : Naming) (left : List Path) (s : Server) (r : Run) → IsDue (to_names before settings naming left s r).point
due_names before settings naming [] s r = due_brings (start_news before (with_paths settings.defs naming.found) s) first_turn (λ t. tt) s r
due_names before settings naming (p ∷ ps) s r = due_brings (record { before = before; what = None; behind = [] }) (AtNames settings naming) (λ t. tt) s r

-- ---- a turn

due_looked : (answer : Look) (l : Watching) (i : ℕ) (s : Server) (r : Run) → IsDue r.point → IsDue (looked answer l i s r).point
due_looked (File file) l i s r same = due_brings (look_news s.now l (look_taken s l file)) (to_looks (i + 1)) (due_looks (i + 1)) (now_is i l file s) r
due_looked Absent l i s r same = due_looks (i + 1) s
due_looked LookFailed l i s r same = due_brings (unread_news s l) (to_looks (i + 1)) (due_looks (i + 1)) s r
due_looked LookNoMemory l i s r same = same

due_looked_at : (o : Option Watching) (answer : Look) (i : ℕ) (s : Server) (r : Run) → IsDue r.point → IsDue (looked_at o answer i s r).point
due_looked_at None answer i s r same = same
due_looked_at (Some l) answer i s r same = due_looked answer l i s r same

due_ended : (passed : Bool) (outcome : Outcome) (c : Child) (i : ℕ) (s : Server) (r : Run) → IsDue (ended_as passed outcome c i s r).point
due_ended true outcome c i s r = due_polls i (gone_passed c.job i s)
due_ended false outcome c i s r = due_brings (end_news c outcome) (to_polls i) (due_polls i) (gone i s) r

due_polled : (o : Option Child) (answer : PollAnswer) (i : ℕ) (s : Server) (r : Run) → IsDue r.point → IsDue (polled_at o answer i s r).point
due_polled None answer i s r same = same
due_polled (Some c) (PollEnded status) i s r same = due_ended (has_succeeded c.task (EndedWith status)) (EndedWith status) c i s r
due_polled (Some c) Running i s r same = due_still (is_late s.now c) i s
due_polled (Some c) PollFailed i s r same = due_still (is_late s.now c) i s

due_killed : (o : Option Child) (i : ℕ) (s : Server) (r : Run) → IsDue r.point → IsDue (killed_at o i s r).point
due_killed None i s r same = same
due_killed (Some c) i s r same = due_ended (has_succeeded c.task TimedOut) TimedOut c i s r

due_child : (answer : StartAnswer) (c : Child) (s : Server) (r : Run) → IsDue r.point → IsDue (child_started answer c s r).point
due_child Started c s r same = due_starts (with_child c s)
due_child StartFailed c s r same = due_brings (end_news c NotStarted) to_starts due_starts (without_child c s) r
due_child StartNoMemory c s r same = same

due_serves : (x : Service) (s : Server) (r : Run) → IsDue (serves x s r).point
due_serves x s r = due_brings x.news (point_on x.onward) (due_onward x.onward) (with_clients x.clients s) r

-- ---- a reload

due_renames : (before : List (List ℕ)) (settings : Settings) (naming : Naming) (left : List Path) (i : ℕ) (s : Server) (r : Run)
    → IsDue (names_next (names_for i) (taken_for i) before settings naming left s r).point
due_renames before settings naming left i s r = names_by (λ (x : Run). IsDue x.point) (names_for i) (taken_for i) s r
    (λ lines defined at. due_brings (record { before = lines; what = None; behind = [] }) (names_for i defined at) (λ t. tt) s r)
    (λ lines defs. due_brings (reload_news lines defs s) (reloaded i) (λ t. due_behind i (following t)) (tells_taken i s) r) before settings naming left

due_left : (i : ℕ) (s : Server) (r : Run) (settings : Settings) (ps : List Pattern) → IsDue (left_for i s settings ps r).point
due_left i s r settings [] = due_renames [] settings (first_naming settings.defs) (first_naming settings.defs).left i s r
due_left i s r settings (p ∷ ps) = tt

due_untaken : (i : ℕ) (s : Server) (r : Run) (status : Status) → IsDue (untaken_for i s status r).point
due_untaken i s r status = due_serves (tells_untaken status i s) s r

due_reloads : (reading : Rereading) (event : Event) (i : ℕ) (s : Server) (r : Run) → IsDue r.point → IsDue (reloads reading event i s r).point
due_reloads OfTree (Config root answer) i s r same =
    tree_by (λ (x : Run). IsDue x.point) (left_for i s) (untaken_for i s) r (due_left i s r) (λ status is. due_untaken i s r status) same answer
due_reloads (OfMakes settings left) (Make text answer) i s r same =
    makes_by (λ (x : Run). IsDue x.point) (left_for i s) (untaken_for i s) r (due_left i s r) (λ status is. due_untaken i s r status) same left answer settings
due_reloads (OfNames settings naming) (Names dir answer) i s r same =
    let next = named (names_in answer) naming in due_renames (unread_by answer s.now naming.left) settings next next.left i s r
due_reloads _ _ i s r same = same

due_turns : (place : Place) (event : Event) (s : Server) (r : Run) → IsDue r.point → IsDue (turns place event s r).point
due_turns AtClock (Clock answer) s r same = due_brings (tick_news (read_at answer s)) to_logs due_logs (read_at answer s) r
due_turns (AtLook i) (LookAt path head from max answer) s r same = due_looked_at (slice_get s.logs i) answer i s r same
due_turns (AtPoll i) (ChildPoll job answer) s r same = due_polled (slice_get s.children.running i) answer i s r same
due_turns (AtKill i) (ChildKill job) s r same = due_killed (slice_get s.children.running i) i s r same
due_turns AtAccept (GateAccept answer) s r same = due_serves (lets_in answer s) s r
due_turns (AtClient i) (GateRead conn max answer) s r same = due_serves (reads answer i s) s r
due_turns (AtClient i) (GateWrite conn bytes answer) s r same = due_serves (writes answer i s) s r
due_turns (AtClose i) (GateClose conn) s r same = due_serves (closes i s) s r
due_turns (AtReload reading i) event s r same = due_reloads reading event i s r same
due_turns (AtStart c text) (ChildStart job command answer) s r same = due_child answer c s r same
due_turns AtPause (Pause ms) s r same = due_turned (s.left - 1) s
due_turns _ _ s r same = same

due_moved : (point : Point) (event : Event) (r : Run) → IsDue r.point → IsDue (moved point event r).point
due_moved AtTree (Config root answer) r same = due_tree answer r same
due_moved (AtMakes settings left) (Make text answer) r same = due_makes_on left answer settings r same
due_moved (AtStore settings) (StoreAt socket answer) r same = due_loads (loaded r.plan.limit r.slots) settings r
due_moved (AtListen settings l) (GateListen socket answer) r same = due_listened answer settings l r
due_moved (AtFirst settings l) (Clock answer) r same = due_names [] settings (first_naming settings.defs) (first_naming settings.defs).left (begun r.plan.turns l answer) r
due_moved (AtNames settings naming s) (Names dir answer) r same =
    let next = named (names_in answer) naming in due_names (unread_by answer s.now naming.left) settings next next.left s r
due_moved (AtTurn place s) event r same = due_turns place event s r same
due_moved _ _ r same = same

due_feed : (r : Run) (event : Event) → IsDue r.point → IsDue (feed r event).point
due_feed r (Say bytes Done) same = same
due_feed r (Say bytes SayFailed) same = tt
due_feed r (DiskLen slot answer) same = measured_point IsDue tt r same answer
due_feed r (DiskRead slot at len answer) same = piece_point IsDue tt r same answer
due_feed r (DiskWrite slot at bytes answer) same = wrote_point IsDue tt r same answer
due_feed r (DiskSync slot answer) same = synced_point IsDue tt r same answer
due_feed r event same = due_moved r.point event r same

-- ---- whole runs

due_after : (r : Run) (es : List Event) → IsDue r.point → (k : ℕ) → IsDue (after feed MayCome Free r (take k es)).point
due_after r es same zero = same
due_after r [] same (suc k) = same
due_after r (event ∷ es) same (suc k) = due_after (feed r event) es (due_feed r event same) k

due_begin : (o : Option Plan) (slots : ℕ → List ℕ) → IsDue (begin_with o slots).point
due_begin None slots = tt
due_begin (Some plan) slots = tt

due_at : (words : List (List ℕ)) (slots : ℕ → List ℕ) (es : List Event) (k : ℕ) → IsDue (run_after words slots (take k es)).point
due_at words slots es k = due_after (begin words slots) es (due_begin (plan_of words) slots) k

-- ---- what comes next

starts_at : (plan : Plan) (point : Point) (id : ℕ) (command : List ℕ) (answer : StartAnswer) → IsDue point → IsNext (point_call plan point) (ChildStart id command answer) → StartsAt point id command
starts_at plan AtTree id command answer due next = next
starts_at plan (AtMakes settings []) id command answer due next = next
starts_at plan (AtMakes settings (p ∷ ps)) id command answer due next = next
starts_at plan (AtStore settings) id command answer due next = next
starts_at plan (AtListen settings l) id command answer due next = next
starts_at plan (AtFirst settings l) id command answer due next = next
starts_at plan (AtNames settings naming s) id command answer due next = by_paths naming.left next
  where
    by_paths : (left : List Path) → IsNext (names_call left) (ChildStart id command answer) → ⊥
    by_paths [] next = next
    by_paths (p ∷ ps) next = next
starts_at plan (AtTurn AtClock s) id command answer due next = next
starts_at plan (AtTurn (AtLook i) s) id command answer due next = by_log (slice_get s.logs i) next
  where
    by_log : (o : Option Watching) → IsNext (option_map log_call o) (ChildStart id command answer) → ⊥
    by_log None next = next
    by_log (Some l) next = next
starts_at plan (AtTurn (AtPoll i) s) id command answer due next = by_child (slice_get s.children.running i) next
  where
    by_child : (o : Option Child) → IsNext (option_map (λ (c : Child). AskPoll c.job) o) (ChildStart id command answer) → ⊥
    by_child None next = next
    by_child (Some c) next = next
starts_at plan (AtTurn (AtKill i) s) id command answer due next = by_child (slice_get s.children.running i) next
  where
    by_child : (o : Option Child) → IsNext (option_map (λ (c : Child). AskKill c.job) o) (ChildStart id command answer) → ⊥
    by_child None next = next
    by_child (Some c) next = next
starts_at plan (AtTurn AtAccept s) id command answer due next = next
starts_at plan (AtTurn (AtClient i) s) id command answer due next = asked_none (ChildStart id command answer) (conn_at i s.clients) (asks_at i s.clients) (λ bytes is. is) (λ most is. is) next
starts_at plan (AtTurn (AtClose i) s) id command answer due next = next
starts_at plan (AtTurn (AtReload reading i) s) id command answer due next = reload_none (ChildStart id command answer) (λ root is. is) (λ text is. is) (λ dir is. is) plan reading next
starts_at plan (AtTurn (AtStart c text) s) id command answer due next = (due.0, due.1, next.0, next.1)
starts_at plan (AtTurn AtPause s) id command answer due next = next
starts_at plan (Over status) id command answer due next = next

all_started : (plan : Plan) (point : Point) (ms : ℕ) → IsDue point → IsNext (point_call plan point) (Pause ms) → IsAllStarted point
all_started plan AtTree ms due next = next
all_started plan (AtMakes settings []) ms due next = next
all_started plan (AtMakes settings (p ∷ ps)) ms due next = next
all_started plan (AtStore settings) ms due next = next
all_started plan (AtListen settings l) ms due next = next
all_started plan (AtFirst settings l) ms due next = next
all_started plan (AtNames settings naming s) ms due next = by_paths naming.left next
  where
    by_paths : (left : List Path) → IsNext (names_call left) (Pause ms) → ⊥
    by_paths [] next = next
    by_paths (p ∷ ps) next = next
all_started plan (AtTurn AtClock s) ms due next = next
all_started plan (AtTurn (AtLook i) s) ms due next = by_log (slice_get s.logs i) next
  where
    by_log : (o : Option Watching) → IsNext (option_map log_call o) (Pause ms) → ⊥
    by_log None next = next
    by_log (Some l) next = next
all_started plan (AtTurn (AtPoll i) s) ms due next = by_child (slice_get s.children.running i) next
  where
    by_child : (o : Option Child) → IsNext (option_map (λ (c : Child). AskPoll c.job) o) (Pause ms) → ⊥
    by_child None next = next
    by_child (Some c) next = next
all_started plan (AtTurn (AtKill i) s) ms due next = by_child (slice_get s.children.running i) next
  where
    by_child : (o : Option Child) → IsNext (option_map (λ (c : Child). AskKill c.job) o) (Pause ms) → ⊥
    by_child None next = next
    by_child (Some c) next = next
all_started plan (AtTurn AtAccept s) ms due next = next
all_started plan (AtTurn (AtClient i) s) ms due next = asked_none (Pause ms) (conn_at i s.clients) (asks_at i s.clients) (λ bytes is. is) (λ most is. is) next
all_started plan (AtTurn (AtClose i) s) ms due next = next
all_started plan (AtTurn (AtReload reading i) s) ms due next = reload_none (Pause ms) (λ root is. is) (λ text is. is) (λ dir is. is) plan reading next
all_started plan (AtTurn (AtStart c text) s) ms due next = next
all_started plan (AtTurn AtPause s) ms due next = due
all_started plan (Over status) ms due next = next

-- a run that obeys the law starts its commands in their turn
pub starts_in_turn : (words : List (List ℕ)) (slots : ℕ → List ℕ) (g : History) (es : List Event) → Along feed MayCome Free (begin words slots) g es → StartsInTurn words slots es
starts_in_turn words slots g es along = record {
  starts = λ k id command answer is.
      let at = run_after words slots (take k es) in
      let may = next_behind at.writes (call_of at.plan at.point at.owed) (ChildStart id command answer) tt (may_at (begin words slots) g es k (ChildStart id command answer) along is) in
      let paid = start_next at.plan at.point at.owed id command answer may in
      let P : List (List ℕ) → Type 0 = λ ls. IsNext (call_of at.plan at.point ls) (ChildStart id command answer) in
      let Q : Option Call → Type 0 = λ c. IsNext c (ChildStart id command answer) in
      starts_at at.plan at.point id command answer (due_at words slots es k) (subst Q (paid_call at.plan at.point) (subst P paid may));
  paused = λ k ms is.
      let at = run_after words slots (take k es) in
      let may = next_behind at.writes (call_of at.plan at.point at.owed) (Pause ms) tt (may_at (begin words slots) g es k (Pause ms) along is) in
      let paid = pause_next at.plan at.point at.owed ms may in
      let P : List (List ℕ) → Type 0 = λ ls. IsNext (call_of at.plan at.point ls) (Pause ms) in
      let Q : Option Call → Type 0 = λ c. IsNext c (Pause ms) in
      all_started at.plan at.point ms (due_at words slots es k) (subst Q (paid_call at.plan at.point) (subst P paid may));
}
