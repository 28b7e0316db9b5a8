-- From the law alone: in each turn each command that runs as it begins is polled once, in order.
use Rattle.std.proofs.Common.{ℕ, zero, suc, ◌≡◌, ◌≤◌, ◌+◌, ◌++◌, Bool, true, false, cond, nat_lt, List, [], ◌∷◌, drop, length, Option, Some, None, refl, sym, ap, ◌∙◌, append-nil, append_assoc, subst, arith}
use Rattle.std.specs.Prelude.{option_map, remove, slice_get}
use Rattle.std.proofs.lemmas.Bool.{ltb-false}
use Rattle.std.proofs.lemmas.List.{drop_all, length-map}
use Rattle.f2b_base.specs.declared.input.What.{What}
use Rattle.f2b_base.specs.declared.job.Job.{Job}
use Rattle.f2b_base.specs.declared.job.Outcome.{Outcome}
use Rattle.f2b_base.specs.declared.job.Outcome.TheVariants.{Status as EndedWith, NotStarted, TimedOut}
use Rattle.f2b_base.specs.declared.job.UpLane.{UpLane}
use Rattle.f2b_world.specs.Told.{History, grown}
use Rattle.f2b_world.specs.Walks.{after, Along}
use Rattle.f2b_world.specs.declared.answer.Look.{Look}
use Rattle.f2b_world.specs.declared.answer.Look.TheVariants.{File, Absent, Failed as LookFailed, NoMemory as LookNoMemory}
use Rattle.f2b_world.specs.declared.answer.PollAnswer.{PollAnswer}
use Rattle.f2b_world.specs.declared.answer.PollAnswer.TheVariants.{Running, Ended as PollEnded, Failed as PollFailed}
use Rattle.f2b_world.specs.declared.answer.Said.TheVariants.{Done, Failed as SayFailed}
use Rattle.f2b_world.specs.declared.answer.StartAnswer.{StartAnswer}
use Rattle.f2b_world.specs.declared.answer.StartAnswer.TheVariants.{Started, Failed as StartFailed, NoMemory as StartNoMemory}
use Rattle.f2b_world.specs.declared.event.Event.{Event}
use Rattle.f2b_world.specs.declared.event.Event.TheVariants.{Say, DiskLen, DiskRead, DiskWrite, DiskSync, Make, Clock, Config, StoreAt, Names, Look as LookAt, ChildStart, ChildPoll, ChildKill, GateListen, GateAccept, GateRead, GateWrite, GateClose, Pause}
use Rattle.child_table.specs.Children.{Children, jobs_of}
use Rattle.child_table.specs.Late.{is_late}
use Rattle.child_table.specs.declared.child.Child.{Child}
use Rattle.jail_conf.specs.declared.settings.Settings.{Settings}
use Rattle.log_set.specs.Logs.{Watching, next_look}
use Rattle.client_table.specs.Clients.{asks_at, conn_at}
use Rattle.run_law.specs.Calls.{Call, AskKill, AskPoll, IsNext}
use Rattle.run_law.specs.Children.{checked_first, startable}
use Rattle.run_law.specs.Clock.{tick_news}
use Rattle.run_law.specs.Law.{Free, MayCome, begin, call_of, feed, moved, point_call, turns}
use Rattle.run_law.specs.Looks.{log_call, look_news, look_taken, looked, looked_at, now_is, unread_news}
use Rattle.run_law.specs.News.{News, after_news, brings, server_after}
use Rattle.run_law.specs.Points.{Place, AtClock, AtLook, AtPoll, AtKill, AtAccept, AtClient, AtClose, Rereading, OfTree, OfMakes, OfNames, AtReload, AtStart, AtPause, Point, AtTree, AtMakes, AtStore, AtListen, AtFirst, AtNames, AtTurn, Over, Run}
use Rattle.run_law.specs.Paths.{Path, Naming, first_naming, named}
use Rattle.run_law.specs.Patterns.{Pattern}
use Rattle.run_law.specs.Polls.{end_news, ended_as, gone, gone_passed, has_succeeded, killed_at, polled_at, still_point}
use Rattle.run_law.specs.Reading.{names_in, names_next, unread_by}
use Rattle.run_law.specs.Reload.{left_for, names_for, reload_news, reloaded, reloads, taken_for, tells_taken, tells_untaken, untaken_for}
use Rattle.run_law.specs.Served.{PollsEachOnce, pauses_in, polls_in, run_after}
use Rattle.run_law.specs.Server.{Server, following, is_stopping, jobs, lanes_up, log_jails, read_at}
use Rattle.run_law.specs.Serving.{Onward, Service, closes, lets_in, point_on, reads, serves, with_clients, writes}
use Rattle.run_law.specs.Starts.{child_started, with_child, without_child}
use Rattle.run_law.specs.Turn.{at_pause, behind_client, is_drained, look_point, start_place, start_point, to_accept, to_children, to_end, to_logs, to_looks, to_polls, to_starts}
use Rattle.run_law.specs.declared.plan.Plan.{Plan}
use Rattle.run_law.specs.declared.status.Status.{Status}
use Rattle.run_law.specs.declared.status.Status.TheVariants.{Stopped}
use Rattle.run_law.proofs.DiskLemmas.{next_behind}
use Rattle.run_law.proofs.NewsLemmas.{brings_point, measured_point, piece_point, synced_point, wrote_point}
use Rattle.run_law.proofs.PointLemmas.{paid_call}
use Rattle.run_law.proofs.SaidLemmas.{pause_next, poll_next}
use Rattle.run_law.proofs.ReadingLemmas.{makes_by, names_by, reload_none, tree_by}
use Rattle.run_law.proofs.ServingLemmas.{accept_point, asked_none, behind_point, onward_point}

-- ---- the children from a place on

-- where one is gone the next ones stand in its place
drop_gone : (cs : List Child) (i : ℕ) → drop i (jobs_of (remove cs i)) ≡ drop (suc i) (jobs_of cs)
drop_gone [] zero = refl
drop_gone [] (suc i) = refl
drop_gone (c ∷ cs) zero = refl
drop_gone (c ∷ cs) (suc i) = drop_gone cs i

drop_here : (cs : List Child) (i : ℕ) (c : Child) → slice_get cs i ≡ Some c → drop i (jobs_of cs) ≡ c.job ∷ drop (suc i) (jobs_of cs)
drop_here [] i c is = absurd (cc)
drop_here (d ∷ cs) zero c is = let same : d ≡ c = cc in ap (λ (x : Child). x.job ∷ jobs_of cs) same
drop_here (d ∷ cs) (suc i) c is = drop_here cs i c is

drop_end : (cs : List Child) (i : ℕ) → nat_lt i (length cs) ≡ false → drop i (jobs_of cs) ≡ []
drop_end cs i none =
    let past : length cs ≤ i = ltb-false i (length cs) none in
    let many : length (jobs_of cs) ≡ length cs = length-map cs (λ (c : Child). c.job) in
    drop_all i (jobs_of cs) (omega (arith, past, many))

-- ---- what was polled of a turn, at each of its points

-- the jobs of all that run
abbrev ran_at : Server → List ℕ
ran_at s = jobs_of s.children.running

module _ (ran : List ℕ) where
  -- these were polled so far, of those that ran as the turn began
  abbrev IsPolled : List ℕ → Point → Type 0
  IsPolled polled (AtTurn AtClock s) = (polled ≡ []) × (ran_at s ≡ ran)
  IsPolled polled (AtTurn (AtLook i) s) = (polled ≡ []) × (ran_at s ≡ ran)
  IsPolled polled (AtTurn (AtPoll i) s) = polled ++ drop i (ran_at s) ≡ ran
  IsPolled polled (AtTurn (AtKill i) s) = polled ++ drop (suc i) (ran_at s) ≡ ran
  IsPolled polled (AtTurn AtAccept s) = polled ≡ ran
  IsPolled polled (AtTurn (AtClient i) s) = polled ≡ ran
  IsPolled polled (AtTurn (AtClose i) s) = polled ≡ ran
  IsPolled polled (AtTurn (AtReload reading i) s) = polled ≡ ran
  IsPolled polled (AtTurn (AtStart c text) s) = polled ≡ ran
  IsPolled polled (AtTurn AtPause s) = polled ≡ ran
  IsPolled polled (Over status) = Unit {0}
  IsPolled polled _ = ⊥

  module _ (polled : List ℕ) where
    polled_if : (b : Bool) (p q : Point) → IsPolled polled p → IsPolled polled q → IsPolled polled (cond b p q)
    polled_if true p q at_true at_false = at_true
    polled_if false p q at_true at_false = at_false

    -- ---- behind the polls

    polled_place : (lane : Option UpLane) (job : Job) (s : Server) → polled ≡ ran → IsPolled polled (AtTurn (start_place s.now job lane) s)
    polled_place None job s all = all
    polled_place (Some lane) job s all = all

    polled_end : (s : Server) → polled ≡ ran → IsPolled polled (to_end s)
    unfolding to_end
    polled_end s all = polled_if (is_drained s) (Over Stopped) (at_pause s) tt all

    polled_start : (o : Option Job) (s : Server) → polled ≡ ran → IsPolled polled (start_point o s)
    polled_start None s all = polled_end s all
    polled_start (Some job) s all = polled_place (checked_first s.children (lanes_up s) (jobs s) job.id) job s all

    polled_starts : (s : Server) → polled ≡ ran → IsPolled polled (to_starts s)
    unfolding to_starts
    polled_starts s all = polled_start (startable s.now s.children (jobs s)) s all

    polled_onward : (o : Onward) (s : Server) → polled ≡ ran → IsPolled polled (point_on o s)
    polled_onward o s all = onward_point (IsPolled polled) s (λ i. all) (λ i. all) (polled_starts s all) (λ i. all) o

    polled_behind : (i : ℕ) (s : Server) → polled ≡ ran → IsPolled polled (behind_client i s)
    polled_behind i s all = behind_point (IsPolled polled) s (λ j. all) (λ j. all) (polled_starts s all) i

    polled_accept : (s : Server) → polled ≡ ran → IsPolled polled (to_accept s)
    polled_accept s all = accept_point (IsPolled polled) s (λ i. all) (λ i. all) (polled_starts s all) all

    -- ---- the polls

    polled_more : (more : Bool) (i : ℕ) (s : Server) → nat_lt i (length s.children.running) ≡ more → polled ++ drop i (ran_at s) ≡ ran
        → IsPolled polled (cond more (AtTurn (AtPoll i) s) (to_accept s))
    polled_more true i s is all = all
    polled_more false i s is all =
        polled_accept s (sym (append-nil polled) ∙ ap (λ (js : List ℕ). polled ++ js) (sym (drop_end s.children.running i is)) ∙ all)

    polled_polls : (i : ℕ) (s : Server) → polled ++ drop i (ran_at s) ≡ ran → IsPolled polled (to_polls i s)
    polled_polls i s all = polled_more (nat_lt i (length s.children.running)) i s refl all

    polled_still : (late : Bool) (i : ℕ) (s : Server) → polled ++ drop (suc i) (ran_at s) ≡ ran → IsPolled polled (still_point late i s)
    polled_still true i s all = all
    polled_still false i s all =
        let next : i + 1 ≡ suc i = omega arith in
        polled_polls (i + 1) s (ap (λ (n : ℕ). polled ++ drop n (ran_at s)) next ∙ all)

    -- ---- before the polls

    polled_children : (s : Server) → polled ≡ [] → ran_at s ≡ ran → IsPolled polled (to_children s)
    unfolding to_children
    polled_children s none same = polled_polls 0 s (ap (λ (js : List ℕ). js ++ ran_at s) none ∙ same)

    polled_look : (o : Option ℕ) (s : Server) → polled ≡ [] → ran_at s ≡ ran → IsPolled polled (look_point o s)
    polled_look None s none same = polled_children s none same
    polled_look (Some i) s none same = (none, same)

    polled_looks : (i : ℕ) (s : Server) → polled ≡ [] → ran_at s ≡ ran → IsPolled polled (to_looks i s)
    polled_looks i s none same = polled_look (next_look i (log_jails s) s.logs) s none same

    polled_logs : (s : Server) → polled ≡ [] → ran_at s ≡ ran → IsPolled polled (to_logs s)
    unfolding to_logs
    polled_logs s none same = polled_if (is_stopping s) (to_children s) (to_looks 0 s) (polled_children s none same) (polled_looks 0 s none same)

    -- ---- what an event brings leaves the children

    same_children : (o : Option What) (s : Server) → (server_after o s).children ≡ s.children
    same_children None s = refl
    same_children (Some what) s = refl

    polled_brings : (news : News) (next : Server → Point) (s : Server) (r : Run) → ((t : Server) → t.children ≡ s.children → IsPolled polled (next t)) → IsPolled polled (brings news next s r).point
    polled_brings news next s r leads = brings_point (IsPolled polled) (λ need limit. tt) tt news next s r (leads (after_news news s) (same_children news.what s))

    same_ran : (s t : Server) → t.children ≡ s.children → ran_at s ≡ ran → ran_at t ≡ ran
    same_ran s t is same = ap (λ (k : Children). jobs_of k.running) is ∙ same

    polled_looked : (answer : Look) (l : Watching) (i : ℕ) (s : Server) (r : Run) → polled ≡ [] → ran_at s ≡ ran → IsPolled polled r.point → IsPolled polled (looked answer l i s r).point
    polled_looked (File file) l i s r none same there =
        polled_brings (look_news s.now l (look_taken s l file)) (to_looks (i + 1)) (now_is i l file s) r (λ t is. polled_looks (i + 1) t none (same_ran s t is same))
    polled_looked Absent l i s r none same there = polled_looks (i + 1) s none same
    polled_looked LookFailed l i s r none same there = polled_brings (unread_news s l) (to_looks (i + 1)) s r (λ t is. polled_looks (i + 1) t none (same_ran s t is same))
    polled_looked LookNoMemory l i s r none same there = there

    polled_looked_at : (o : Option Watching) (answer : Look) (i : ℕ) (s : Server) (r : Run) → polled ≡ [] → ran_at s ≡ ran → IsPolled polled r.point → IsPolled polled (looked_at o answer i s r).point
    polled_looked_at None answer i s r none same there = there
    polled_looked_at (Some l) answer i s r none same there = polled_looked answer l i s r none same there

    -- the child of that place is gone
    polled_gone : (i : ℕ) (s t : Server) → t.children ≡ (gone i s).children → polled ++ drop (suc i) (ran_at s) ≡ ran → IsPolled polled (to_polls i t)
    polled_gone i s t is all =
        polled_polls i t (ap (λ (k : Children). polled ++ drop i (jobs_of k.running)) is ∙ ap (λ (js : List ℕ). polled ++ js) (drop_gone s.children.running i) ∙ all)

    polled_ended : (passed : Bool) (outcome : Outcome) (c : Child) (i : ℕ) (s : Server) (r : Run) → polled ++ drop (suc i) (ran_at s) ≡ ran → IsPolled polled (ended_as passed outcome c i s r).point
    polled_ended true outcome c i s r all = polled_polls i (gone_passed c.job i s) (ap (λ (js : List ℕ). polled ++ js) (drop_gone s.children.running i) ∙ all)
    polled_ended false outcome c i s r all = polled_brings (end_news c outcome) (to_polls i) (gone i s) r (λ t is. polled_gone i s t is all)

    polled_killed : (o : Option Child) (i : ℕ) (s : Server) (r : Run) → polled ++ drop (suc i) (ran_at s) ≡ ran → IsPolled polled r.point → IsPolled polled (killed_at o i s r).point
    polled_killed None i s r all there = there
    polled_killed (Some c) i s r all there = polled_ended (has_succeeded c.task TimedOut) TimedOut c i s r all

    polled_child : (answer : StartAnswer) (c : Child) (s : Server) (r : Run) → polled ≡ ran → IsPolled polled r.point → IsPolled polled (child_started answer c s r).point
    polled_child Started c s r all there = polled_starts (with_child c s) all
    polled_child StartFailed c s r all there = polled_brings (end_news c NotStarted) to_starts (without_child c s) r (λ t is. polled_starts t all)
    polled_child StartNoMemory c s r all there = there

    polled_serves : (x : Service) (s : Server) (r : Run) → polled ≡ ran → IsPolled polled (serves x s r).point
    polled_serves x s r all = polled_brings x.news (point_on x.onward) (with_clients x.clients s) r (λ t is. polled_onward x.onward t all)

    -- ---- a reload

    polled_renames : (before : List (List ℕ)) (settings : Settings) (naming : Naming) (left : List Path) (i : ℕ) (s : Server) (r : Run) → polled ≡ ran
        → IsPolled polled (names_next (names_for i) (taken_for i) before settings naming left s r).point
    polled_renames before settings naming left i s r all = names_by (λ (x : Run). IsPolled polled x.point) (names_for i) (taken_for i) s r
        (λ lines defined at. polled_brings (record { before = lines; what = None; behind = [] }) (names_for i defined at) s r (λ t is. all))
        (λ lines defs. polled_brings (reload_news lines defs s) (reloaded i) (tells_taken i s) r (λ t is. polled_behind i (following t) all)) before settings naming left

    polled_left : (i : ℕ) (s : Server) (r : Run) → polled ≡ ran → (settings : Settings) (ps : List Pattern) → IsPolled polled (left_for i s settings ps r).point
    polled_left i s r all settings [] = polled_renames [] settings (first_naming settings.defs) (first_naming settings.defs).left i s r all
    polled_left i s r all settings (p ∷ ps) = all

    polled_untaken : (i : ℕ) (s : Server) (r : Run) → polled ≡ ran → (status : Status) → IsPolled polled (untaken_for i s status r).point
    polled_untaken i s r all status = polled_serves (tells_untaken status i s) s r all

    polled_reloads : (reading : Rereading) (event : Event) (i : ℕ) (s : Server) (r : Run) → polled ≡ ran → IsPolled polled r.point → IsPolled polled (reloads reading event i s r).point
    polled_reloads OfTree (Config root answer) i s r all there =
        tree_by (λ (x : Run). IsPolled polled x.point) (left_for i s) (untaken_for i s) r (polled_left i s r all) (λ status is. polled_untaken i s r all status) there answer
    polled_reloads (OfMakes settings left) (Make text answer) i s r all there =
        makes_by (λ (x : Run). IsPolled polled x.point) (left_for i s) (untaken_for i s) r (polled_left i s r all) (λ status is. polled_untaken i s r all status) there left answer settings
    polled_reloads (OfNames settings naming) (Names dir answer) i s r all there =
        let next = named (names_in answer) naming in polled_renames (unread_by answer s.now naming.left) settings next next.left i s r all
    polled_reloads _ _ i s r all there = there

    -- ---- an event that is no poll, and no pause

    abbrev IsOther : Event → Type 0
    IsOther (ChildPoll job answer) = ⊥
    IsOther (Pause ms) = ⊥
    IsOther _ = Unit {0}

    polled_turns : (place : Place) (event : Event) (s : Server) (r : Run) → IsOther event → IsPolled polled (AtTurn place s) → IsPolled polled r.point → IsPolled polled (turns place event s r).point
    polled_turns AtClock (Clock answer) s r other here there =
        polled_brings (tick_news (read_at answer s)) to_logs (read_at answer s) r (λ t is. polled_logs t here.0 (same_ran s t is here.1))
    polled_turns (AtLook i) (LookAt path head from max answer) s r other here there = polled_looked_at (slice_get s.logs i) answer i s r here.0 here.1 there
    polled_turns (AtPoll i) (ChildPoll job answer) s r other here there = absurd other
    polled_turns (AtKill i) (ChildKill job) s r other here there = polled_killed (slice_get s.children.running i) i s r here there
    polled_turns AtAccept (GateAccept answer) s r other here there = polled_serves (lets_in answer s) s r here
    polled_turns (AtClient i) (GateRead conn max answer) s r other here there = polled_serves (reads answer i s) s r here
    polled_turns (AtClient i) (GateWrite conn bytes answer) s r other here there = polled_serves (writes answer i s) s r here
    polled_turns (AtClose i) (GateClose conn) s r other here there = polled_serves (closes i s) s r here
    polled_turns (AtReload reading i) event s r other here there = polled_reloads reading event i s r here there
    polled_turns (AtStart c text) (ChildStart job command answer) s r other here there = polled_child answer c s r here there
    polled_turns AtPause (Pause ms) s r other here there = absurd other
    polled_turns _ _ s r other here there = there

    polled_moved : (point : Point) (event : Event) (r : Run) → IsOther event → IsPolled polled point → IsPolled polled r.point → IsPolled polled (moved point event r).point
    polled_moved AtTree (Config root answer) r other here there = absurd here
    polled_moved (AtMakes settings left) (Make text answer) r other here there = absurd here
    polled_moved (AtStore settings) (StoreAt socket answer) r other here there = absurd here
    polled_moved (AtListen settings l) (GateListen socket answer) r other here there = absurd here
    polled_moved (AtFirst settings l) (Clock answer) r other here there = absurd here
    polled_moved (AtNames settings naming s) (Names dir answer) r other here there = absurd here
    polled_moved (AtTurn place s) event r other here there = polled_turns place event s r other here there
    polled_moved _ _ r other here there = there

    polled_feed : (r : Run) (event : Event) → IsOther event → IsPolled polled r.point → IsPolled polled (feed r event).point
    polled_feed r (Say bytes Done) other there = there
    polled_feed r (Say bytes SayFailed) other there = tt
    polled_feed r (DiskLen slot answer) other there = measured_point (IsPolled polled) tt r there answer
    polled_feed r (DiskRead slot at len answer) other there = piece_point (IsPolled polled) tt r there answer
    polled_feed r (DiskWrite slot at bytes answer) other there = wrote_point (IsPolled polled) tt r there answer
    polled_feed r (DiskSync slot answer) other there = synced_point (IsPolled polled) tt r there answer
    polled_feed r event other there = polled_moved r.point event r other there there

    -- at a pause all were polled
    all_polled : (plan : Plan) (point : Point) (ms : ℕ) → IsPolled polled point → IsNext (point_call plan point) (Pause ms) → polled ≡ ran
    all_polled plan AtTree ms here next = absurd here
    all_polled plan (AtMakes settings left) ms here next = absurd here
    all_polled plan (AtStore settings) ms here next = absurd here
    all_polled plan (AtListen settings l) ms here next = absurd here
    all_polled plan (AtFirst settings l) ms here next = absurd here
    all_polled plan (AtNames settings naming s) ms here next = absurd here
    all_polled plan (AtTurn AtClock s) ms here next = absurd next
    all_polled plan (AtTurn (AtLook i) s) ms here next = by_log (slice_get s.logs i) next
      where
        by_log : (o : Option Watching) → IsNext (option_map log_call o) (Pause ms) → polled ≡ ran
        by_log None next = absurd next
        by_log (Some l) next = absurd next
    all_polled plan (AtTurn (AtPoll i) s) ms here next = by_child (slice_get s.children.running i) next
      where
        by_child : (o : Option Child) → IsNext (option_map (λ (c : Child). AskPoll c.job) o) (Pause ms) → polled ≡ ran
        by_child None next = absurd next
        by_child (Some c) next = absurd next
    all_polled plan (AtTurn (AtKill i) s) ms here next = by_child (slice_get s.children.running i) next
      where
        by_child : (o : Option Child) → IsNext (option_map (λ (c : Child). AskKill c.job) o) (Pause ms) → polled ≡ ran
        by_child None next = absurd next
        by_child (Some c) next = absurd next
    all_polled plan (AtTurn AtAccept s) ms here next = absurd next
    all_polled plan (AtTurn (AtClient i) s) ms here next = absurd (asked_none (Pause ms) (conn_at i s.clients) (asks_at i s.clients) (λ bytes is. is) (λ most is. is) next)
    all_polled plan (AtTurn (AtClose i) s) ms here next = absurd next
    all_polled plan (AtTurn (AtReload reading i) s) ms here next = absurd (reload_none (Pause ms) (λ root is. is) (λ text is. is) (λ dir is. is) plan reading next)
    all_polled plan (AtTurn (AtStart c text) s) ms here next = absurd next
    all_polled plan (AtTurn AtPause s) ms here next = here
    all_polled plan (Over status) ms here next = absurd next

  -- ---- a poll

  module _ (polled : List ℕ) (job : ℕ) (answer : PollAnswer) (r : Run) where
    one_more : (i : ℕ) (s : Server) (c : Child) → slice_get s.children.running i ≡ Some c → job ≡ c.job → polled ++ drop i (ran_at s) ≡ ran → (polled ++ job ∷ []) ++ drop (suc i) (ran_at s) ≡ ran
    one_more i s c is same all =
        let rest : List ℕ = drop (suc i) (ran_at s) in
        let here : job ∷ rest ≡ drop i (ran_at s) = ap (λ (j : ℕ). j ∷ rest) same ∙ sym (drop_here s.children.running i c is) in
        append_assoc polled (job ∷ []) rest ∙ ap (λ (js : List ℕ). polled ++ js) here ∙ all

    polled_answer : (given : PollAnswer) (c : Child) (i : ℕ) (s : Server) → (polled ++ job ∷ []) ++ drop (suc i) (ran_at s) ≡ ran → IsPolled (polled ++ job ∷ []) (polled_at (Some c) given i s r).point
    polled_answer (PollEnded status) c i s all = polled_ended (polled ++ job ∷ []) (has_succeeded c.task (EndedWith status)) (EndedWith status) c i s r all
    polled_answer Running c i s all = polled_still (polled ++ job ∷ []) (is_late s.now c) i s all
    polled_answer PollFailed c i s all = polled_still (polled ++ job ∷ []) (is_late s.now c) i s all

    polled_one : (o : Option Child) (i : ℕ) (s : Server) → slice_get s.children.running i ≡ o → IsNext (option_map (λ (c : Child). AskPoll c.job) o) (ChildPoll job answer) → polled ++ drop i (ran_at s) ≡ ran
        → IsPolled (polled ++ job ∷ []) (polled_at o answer i s r).point
    polled_one None i s is next all = absurd next
    polled_one (Some c) i s is next all = polled_answer answer c i s (one_more i s c is next all)

    polled_poll : (plan : Plan) (point : Point) → IsNext (point_call plan point) (ChildPoll job answer) → IsPolled polled point → IsPolled (polled ++ job ∷ []) (moved point (ChildPoll job answer) r).point
    polled_poll plan AtTree next here = absurd here
    polled_poll plan (AtMakes settings left) next here = absurd here
    polled_poll plan (AtStore settings) next here = absurd here
    polled_poll plan (AtListen settings l) next here = absurd here
    polled_poll plan (AtFirst settings l) next here = absurd here
    polled_poll plan (AtNames settings naming s) next here = absurd here
    polled_poll plan (AtTurn AtClock s) next here = absurd next
    polled_poll plan (AtTurn (AtLook i) s) next here = absurd (by_log (slice_get s.logs i) next)
      where
        by_log : (o : Option Watching) → IsNext (option_map log_call o) (ChildPoll job answer) → ⊥
        by_log None next = next
        by_log (Some l) next = next
    polled_poll plan (AtTurn (AtPoll i) s) next here = polled_one (slice_get s.children.running i) i s refl next here
    polled_poll plan (AtTurn (AtKill i) s) next here = absurd (by_child (slice_get s.children.running i) next)
      where
        by_child : (o : Option Child) → IsNext (option_map (λ (c : Child). AskKill c.job) o) (ChildPoll job answer) → ⊥
        by_child None next = next
        by_child (Some c) next = next
    polled_poll plan (AtTurn AtAccept s) next here = absurd next
    polled_poll plan (AtTurn (AtClient i) s) next here = absurd (asked_none (ChildPoll job answer) (conn_at i s.clients) (asks_at i s.clients) (λ bytes is. is) (λ most is. is) next)
    polled_poll plan (AtTurn (AtClose i) s) next here = absurd next
    polled_poll plan (AtTurn (AtReload reading i) s) next here = absurd (reload_none (ChildPoll job answer) (λ root is. is) (λ text is. is) (λ dir is. is) plan reading next)
    polled_poll plan (AtTurn (AtStart c text) s) next here = absurd next
    polled_poll plan (AtTurn AtPause s) next here = absurd next
    polled_poll plan (Over status) next here = absurd next

    polled_may : MayCome r (ChildPoll job answer) → IsPolled polled r.point → IsPolled (polled ++ job ∷ []) (feed r (ChildPoll job answer)).point
    polled_may may here =
        let next = next_behind r.writes (call_of r.plan r.point r.owed) (ChildPoll job answer) tt may in
        let P : List (List ℕ) → Type 0 = λ ls. IsNext (call_of r.plan r.point ls) (ChildPoll job answer) in
        let Q : Option Call → Type 0 = λ c. IsNext c (ChildPoll job answer) in
        polled_poll r.plan r.point (subst Q (paid_call r.plan r.point) (subst P (poll_next r.plan r.point r.owed job answer next) next)) here

  -- ---- a turn

  polled_on : (polled : List ℕ) (r : Run) (g : History) (es : List Event) → Along feed MayCome Free r g es → pauses_in es ≡ 0 → IsPolled polled r.point → IsPolled (polled ++ polls_in es) (after feed MayCome Free r es).point
  polled_on polled r g [] along none here = let P : List ℕ → Type 0 = λ js. IsPolled js r.point in subst P (sym (append-nil polled)) here
  polled_on polled r g (Pause ms ∷ es) along none here = absurd (omega (arith, none))
  polled_on polled r g (ChildPoll job answer ∷ es) along none here =
      let next : Run = feed r (ChildPoll job answer) in
      let P : List ℕ → Type 0 = λ js. IsPolled js (after feed MayCome Free next es).point in
      subst P (append_assoc polled (job ∷ []) (polls_in es))
      (polled_on (polled ++ job ∷ []) next (grown g (ChildPoll job answer ∷ [])) es along.1 none (polled_may polled job answer r along.0.allowed here))
  polled_on polled r g (event ∷ es) along none here = polled_on polled (feed r event) (grown g (event ∷ [])) es along.1 none (polled_feed polled r event tt here)

-- ---- whole runs

-- the first events of a run, and those behind them
along_front : (r : Run) (g : History) (xs ys : List Event) → Along feed MayCome Free r g (xs ++ ys) → Along feed MayCome Free r g xs
along_front r g [] ys along = tt
along_front r g (x ∷ xs) ys along = (along.0, along_front (feed r x) (grown g (x ∷ [])) xs ys along.1)

along_behind : (r : Run) (g : History) (xs ys : List Event) → Along feed MayCome Free r g (xs ++ ys) → (h : History) × Along feed MayCome Free (after feed MayCome Free r xs) h ys
along_behind r g [] ys along = (g, along)
along_behind r g (x ∷ xs) ys along = along_behind (feed r x) (grown g (x ∷ [])) xs ys along.1

turn_polls : (r : Run) (g : History) (turn later : List Event) (ms : ℕ) (s : Server) → Along feed MayCome Free r g (turn ++ Pause ms ∷ later) → r.point ≡ AtTurn AtClock s → pauses_in turn ≡ 0
    → polls_in turn ≡ jobs_of s.children.running
turn_polls r g turn later ms s along at none =
    let ran : List ℕ = ran_at s in
    let last : Run = after feed MayCome Free r turn in
    let P : Point → Type 0 = λ p. IsPolled ran [] p in
    let here : IsPolled ran [] r.point = subst P (sym at) (refl, refl) in
    let there : IsPolled ran (polls_in turn) last.point = polled_on ran [] r g turn (along_front r g turn (Pause ms ∷ later) along) none here in
    let may = next_behind last.writes (call_of last.plan last.point last.owed) (Pause ms) tt (along_behind r g turn (Pause ms ∷ later) along).1.0.allowed in
    let paid : last.owed ≡ [] = pause_next last.plan last.point last.owed ms may in
    let Q : List (List ℕ) → Type 0 = λ ls. IsNext (call_of last.plan last.point ls) (Pause ms) in
    let C : Option Call → Type 0 = λ c. IsNext c (Pause ms) in
    all_polled ran (polls_in turn) last.plan last.point ms there (subst C (paid_call last.plan last.point) (subst Q paid may))

-- a run that obeys the law polls each of its commands once a turn
pub polls_each_once : (words : List (List ℕ)) (slots : ℕ → List ℕ) (g : History) (es : List Event) → Along feed MayCome Free (begin words slots) g es → PollsEachOnce words slots es
polls_each_once words slots g es along = record {
  polls = λ before turn later ms s is at none.
      let P : List Event → Type 0 = λ xs. Along feed MayCome Free (begin words slots) g xs in
      let on = along_behind (begin words slots) g before (turn ++ Pause ms ∷ later) (subst P is along) in
      turn_polls (run_after words slots before) on.0 turn later ms s on.1 at none;
}
