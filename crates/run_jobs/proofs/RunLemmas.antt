-- From the law alone: whatever comes, what a run starts is the first job of its lane, and what ends was started.
use Rattle.std.proofs.Common.{ℕ, zero, suc, ◌≡◌, ◌+◌, ◌-◌, Bool, true, false, cond, nat_lt, ◌&&◌, List, [], ◌∷◌, ◌++◌, length, take, Option, Some, None, Result, Ok, Err, refl, sym, ap, ◌∙◌, append-nil, subst}
use Rattle.std.specs.Prelude.{slice_get, ◌==◌, nat_le, not}
use Rattle.std.specs.List.{list_any}
use Rattle.std.proofs.lemmas.Bool.{and_parts, or_left}
use Rattle.std.proofs.lemmas.List.{flat_map_more}
use Rattle.f2b_base.specs.declared.ban.Failure.{Failure}
use Rattle.f2b_base.specs.declared.input.What.TheVariants.{Tick}
use Rattle.f2b_base.specs.declared.jail.Defs.{Defs}
use Rattle.f2b_base.specs.declared.jail.Place.{Place as LogPlace}
use Rattle.f2b_base.specs.declared.job.Job.{Job}
use Rattle.f2b_base.specs.declared.job.Outcome.{Outcome}
use Rattle.f2b_base.specs.declared.job.Outcome.TheVariants.{Status as EndedWith, NotStarted, TimedOut}
use Rattle.f2b_base.specs.declared.job.UpLane.{UpLane}
use Rattle.f2b_base.specs.declared.outside.FileLook.{FileLook}
use Rattle.f2b_base.specs.declared.outside.TreeAnswer.{TreeAnswer}
use Rattle.f2b_base.specs.declared.outside.TreeAnswer.TheVariants.{Tree, Failed as TreeFailed, TooLarge as TreeTooLarge, NoMemory as TreeNoMemory}
use Rattle.f2b_model.specs.Jobs.{has_id, head, is_head, next_due}
use Rattle.f2b_model.specs.Steps.{is_ban_due, moves}
use Rattle.f2b_model.specs.Whole.{step}
use Rattle.f2b_world.specs.Told.{History}
use Rattle.f2b_world.specs.Walks.{after}
use Rattle.f2b_world.specs.declared.answer.Listen.{Listen}
use Rattle.f2b_world.specs.declared.answer.Listen.TheVariants.{Listening, Failed as ListenFailed}
use Rattle.f2b_world.specs.declared.answer.Look.{Look}
use Rattle.f2b_world.specs.declared.answer.Look.TheVariants.{File, Absent, Failed as LookFailed, NoMemory as LookNoMemory}
use Rattle.f2b_world.specs.declared.answer.MakeAnswer.{MakeAnswer}
use Rattle.f2b_world.specs.declared.answer.MakeAnswer.TheVariants.{Built, Syntax as WasSyntax, TooBig as WasTooBig}
use Rattle.f2b_world.specs.declared.answer.PollAnswer.{PollAnswer}
use Rattle.f2b_world.specs.declared.answer.PollAnswer.TheVariants.{Running, Ended as PollEnded, Failed as PollFailed}
use Rattle.f2b_world.specs.declared.answer.Said.TheVariants.{Done, Failed as SayFailed}
use Rattle.f2b_world.specs.declared.answer.StartAnswer.{StartAnswer}
use Rattle.f2b_world.specs.declared.answer.StartAnswer.TheVariants.{Started, Failed as StartFailed, NoMemory as StartNoMemory}
use Rattle.f2b_world.specs.declared.event.Event.{Event}
use Rattle.f2b_world.specs.declared.event.Event.TheVariants.{Say, DiskLen, DiskRead, DiskWrite, DiskSync, Make, Clock, Config, StoreAt, Names, Look as LookAt, ChildStart, ChildPoll, ChildKill, GateListen, GateAccept, GateRead, GateWrite, GateClose, Pause}
use Rattle.child_table.specs.Children.{has, jobs_of, most_children}
use Rattle.child_table.specs.Late.{is_late}
use Rattle.child_table.specs.declared.child.Child.{Child}
use Rattle.child_table.specs.declared.child.Task.{Task}
use Rattle.child_table.specs.declared.child.Task.TheVariants.{Check, Command}
use Rattle.jail_conf.specs.Conf.{conf}
use Rattle.jail_conf.specs.declared.conf_error.ConfError.{ConfError}
use Rattle.jail_conf.specs.declared.settings.Settings.{Settings}
use Rattle.log_follow.specs.declared.line.Line.{Line}
use Rattle.log_follow.specs.declared.step.Step.{Step}
use Rattle.log_set.specs.Logs.{Watching, finds_of, next_look, read_of, read_to}
use Rattle.log_set.specs.Places.{looked_of}
use Rattle.log_set.specs.declared.log.Looked.{Looked}
use Rattle.run_law.specs.Changes.{config_changes}
use Rattle.run_law.specs.Children.{checked_first, startable}
use Rattle.run_law.specs.Clock.{tick_news}
use Rattle.run_law.specs.Law.{Free, MayCome, begin, begin_with, feed, moved, turns}
use Rattle.run_law.specs.Looks.{look_news, look_taken, looked, looked_at, now_is, unread_news}
use Rattle.reconcile.specs.Loads.{Loaded, loaded}
use Rattle.run_law.specs.News.{News, after_news, brings, nothing, only}
use Rattle.run_law.specs.Paths.{Path, Naming, first_naming, named, with_paths}
use Rattle.run_law.specs.Patterns.{Pattern, patterns_of}
use Rattle.run_law.specs.Pause.{turned}
use Rattle.run_law.specs.Points.{Place, AtClock, AtLook, AtPoll, AtKill, AtAccept, AtClient, AtClose, Rereading, OfTree, OfMakes, OfNames, AtReload, AtStart, AtPause, Point, AtTree, AtMakes, AtStore, AtListen, AtFirst, AtNames, AtTurn, Over, Run}
use Rattle.run_law.specs.Polls.{end_news, end_of, ended_as, gone, gone_passed, has_succeeded, killed_at, polled_at, still_point}
use Rattle.run_law.specs.Served.{IsStartFor, Obeys, StartsAt, StartsInTurn, run_after}
use Rattle.run_law.specs.Server.{Server, begun, following, is_stopping, jobs, lanes_up, log_jails, read_at}
use Rattle.run_law.specs.Said.{ready_line, reloaded_line}
use Rattle.run_law.specs.Serving.{Onward, Service, closes, lets_in, point_on, reads as reads_client, serves, with_clients, writes}
use Rattle.run_law.specs.Reading.{config_news, names_in, names_next, unread_by}
use Rattle.run_law.specs.Reload.{left_for, names_for, reload_news, reloaded, reloads, taken_for, tells_taken, tells_untaken, untaken_for}
use Rattle.run_law.specs.Start.{defined, first_turn, listened, loads, made, makes_on, start_news, to_makes, to_names, tree_read}
use Rattle.run_law.specs.Starts.{child_started, with_child, without_child}
use Rattle.run_law.specs.Turn.{at_pause, behind_client, is_drained, look_point, start_place, start_point, to_accept, to_children, to_end, to_logs, to_looks, to_polls, to_starts}
use Rattle.run_law.specs.Words.{plan_of}
use Rattle.run_law.specs.declared.plan.Plan.{Plan}
use Rattle.run_law.specs.declared.status.Status.{Status}
use Rattle.run_law.specs.declared.status.Status.TheVariants.{Stopped}
use Rattle.run_law.proofs.FieldLemmas.{feed_slots}
use Rattle.run_law.proofs.NewsLemmas.{brings_point, measured_point, piece_point, synced_point, wrote_point}
use Rattle.run_law.proofs.ReadingLemmas.{makes_by, names_by, tree_by}
use Rattle.run_law.proofs.ServingLemmas.{accept_point, behind_point, onward_point}
use Rattle.run_law.proofs.StartedLemmas.{starts_in_turn}
use Rattle.run_jobs.specs.Runs.{HoldBytes, TriesJobsInOrder, start_of, starts_in}
use Rattle.run_jobs.proofs.OnceLemmas.{has_append, has_last}
use Rattle.run_jobs.proofs.LoadedLemmas.{loaded_fine}
use Rattle.run_jobs.proofs.ServedLemmas.{lets_in_fine, reads_fine}
use Rattle.run_jobs.proofs.HeadLemmas.{Heads, found_passes, heads_lead}
use Rattle.run_jobs.proofs.StepLemmas.{IsStarted, StandsInOrder}
use Rattle.run_jobs.proofs.LedgerLemmas.{fine_in_order, started_fine}
use Rattle.run_jobs.proofs.ServerLemmas.{BringsStarted, HeadsSome, IsNew, IsServerInOrder, after_right, begun_right, gone_absent, gone_right, has_at, passed_right, with_right, without_right}

-- ---- points

module _ (started : List ℕ) where
  abbrev pub IsPointInOrder : Point → Type 0
  IsPointInOrder (AtTurn place s) = IsServerInOrder started s
  IsPointInOrder (AtNames settings naming s) = IsServerInOrder started s
  IsPointInOrder (Over status) = Unit {0}
  IsPointInOrder (AtListen settings l) = (started ≡ []) × StandsInOrder [] l.state.lanes
  IsPointInOrder (AtFirst settings l) = (started ≡ []) × StandsInOrder [] l.state.lanes
  IsPointInOrder _ = started ≡ []

  right_if : (b : Bool) (p q : Point) → IsPointInOrder p → IsPointInOrder q → IsPointInOrder (cond b p q)
  right_if true p q at_true at_false = at_true
  right_if false p q at_true at_false = at_false

  right_end : (s : Server) → IsServerInOrder started s → IsPointInOrder (to_end s)
  unfolding to_end
  right_end s right = right_if (is_drained s) (Over Stopped) (at_pause s) tt right

  right_start : (o : Option Job) (s : Server) → IsServerInOrder started s → IsPointInOrder (start_point o s)
  right_start None s right = right_end s right
  right_start (Some job) s right = right

  right_starts : (s : Server) → IsServerInOrder started s → IsPointInOrder (to_starts s)
  unfolding to_starts
  right_starts s right = right_start (startable s.now s.children (jobs s)) s right

  right_onward : (o : Onward) (s : Server) → IsServerInOrder started s → IsPointInOrder (point_on o s)
  right_onward o s right = onward_point IsPointInOrder s (λ i. right) (λ i. right) (right_starts s right) (λ i. right) o

  right_behind : (i : ℕ) (s : Server) → IsServerInOrder started s → IsPointInOrder (behind_client i s)
  right_behind i s right = behind_point IsPointInOrder s (λ j. right) (λ j. right) (right_starts s right) i

  right_accept : (s : Server) → IsServerInOrder started s → IsPointInOrder (to_accept s)
  right_accept s right = accept_point IsPointInOrder s (λ i. right) (λ i. right) (right_starts s right) right

  right_polls : (i : ℕ) (s : Server) → IsServerInOrder started s → IsPointInOrder (to_polls i s)
  right_polls i s right = right_if (nat_lt i (length s.children.running)) (AtTurn (AtPoll i) s) (to_accept s) right (right_accept s right)

  right_children : (s : Server) → IsServerInOrder started s → IsPointInOrder (to_children s)
  unfolding to_children
  right_children s right = right_polls 0 s right

  right_look : (o : Option ℕ) (s : Server) → IsServerInOrder started s → IsPointInOrder (look_point o s)
  right_look None s right = right_children s right
  right_look (Some i) s right = right

  right_looks : (i : ℕ) (s : Server) → IsServerInOrder started s → IsPointInOrder (to_looks i s)
  right_looks i s right = right_look (next_look i (log_jails s) s.logs) s right

  right_logs : (s : Server) → IsServerInOrder started s → IsPointInOrder (to_logs s)
  unfolding to_logs
  right_logs s right = right_if (is_stopping s) (to_children s) (to_looks 0 s) (right_children s right) (right_looks 0 s right)

  right_still : (late : Bool) (i : ℕ) (s : Server) → IsServerInOrder started s → IsPointInOrder (still_point late i s)
  right_still true i s right = right
  right_still false i s right = right_polls (i + 1) s right

  right_turned : (n : ℕ) (s : Server) → IsServerInOrder started s → IsPointInOrder (turned n s)
  right_turned zero s right = tt
  right_turned (suc n) s right = record { lanes = right.lanes; children = right.children; once = right.once; heads = right.heads }

  right_makes : (settings : Settings) (left : List Pattern) → started ≡ [] → IsPointInOrder (to_makes settings left)
  right_makes settings [] none = none
  right_makes settings (p ∷ ps) none = none

  right_first : (s : Server) → IsServerInOrder started s → IsPointInOrder (first_turn s)
  right_first s right = record { lanes = right.lanes; children = right.children; once = right.once; heads = right.heads }

  -- ---- what an event brings

  module _ (news : News) (next : Server → Point) (leads : (t : Server) → IsServerInOrder started t → IsPointInOrder (next t)) (s : Server) (r : Run) (right : IsServerInOrder started s) where
    right_brings : BringsStarted started (jobs_of s.children.running) news.what → IsPointInOrder (brings news next s r).point
    right_brings is = brings_point IsPointInOrder (λ need limit. tt) tt news next s r (leads (after_news news s) (after_right started news.what s is right))

  module _ (running : List ℕ) where
    ticks : (b : Bool) → BringsStarted started running (cond b (only Tick) nothing).what
    ticks true = tt
    ticks false = tt

    configures : (b : Bool) (before : List (List ℕ)) (defs : Defs) (behind : List (List ℕ)) → BringsStarted started running (config_news b before defs behind).what
    configures true before defs behind = tt
    configures false before defs behind = tt

    reads_to : (search : List Line → List Failure) (jail path : List ℕ) (step : Step) (o : Option LogPlace) → BringsStarted started running (read_to search jail path step o)
    reads_to search jail path step None = tt
    reads_to search jail path step (Some place) = tt

    reads : (o : Option (List Line → List Failure)) (jail path : List ℕ) (l : Looked) → BringsStarted started running (read_of o jail path l)
    reads None jail path l = tt
    reads (Some search) jail path l = reads_to search jail path l.step l.moved

    ends : (task : Task) (job : ℕ) (outcome : Outcome) → has job started ≡ true → has job running ≡ false → IsStarted started running (end_of task job outcome)
    ends Command job outcome is absent = (is, absent)
    ends Check job outcome is absent = absent

  -- ---- the start of a run

  right_defined : (o : Result Settings ConfError) (r : Run) → started ≡ [] → IsPointInOrder (defined o r).point
  right_defined (Ok settings) r none = right_makes settings (patterns_of settings.defs) none
  right_defined (Err error) r none = tt

  right_tree : (answer : TreeAnswer) (r : Run) → started ≡ [] → IsPointInOrder r.point → IsPointInOrder (tree_read answer r).point
  right_tree (Tree tree) r none same = right_defined (conf tree) r none
  right_tree TreeFailed r none same = tt
  right_tree TreeTooLarge r none same = tt
  right_tree TreeNoMemory r none same = same

  right_made : (answer : MakeAnswer) (settings : Settings) (p : Pattern) (ps : List Pattern) (r : Run) → started ≡ [] → IsPointInOrder (made answer settings p ps r).point
  right_made Built settings p ps r none = right_makes settings ps none
  right_made WasSyntax settings p ps r none = tt
  right_made WasTooBig settings p ps r none = tt

  right_makes_on : (left : List Pattern) (answer : MakeAnswer) (settings : Settings) (r : Run) → started ≡ [] → IsPointInOrder r.point → IsPointInOrder (makes_on left answer settings r).point
  right_makes_on [] answer settings r none same = same
  right_makes_on (p ∷ ps) answer settings r none same = right_made answer settings p ps r none

  right_loads : (o : Result Loaded (ℕ × ℕ)) (settings : Settings) (r : Run) → ((l : Loaded) → o ≡ Ok l → StandsInOrder [] l.state.lanes) → started ≡ [] → IsPointInOrder (loads o settings r).point
  right_loads (Ok l) settings r fine none = (none, fine l refl)
  right_loads (Err place) settings r fine none = tt

  right_listened : (answer : Listen) (settings : Settings) (l : Loaded) (r : Run) → (started ≡ []) × StandsInOrder [] l.state.lanes → IsPointInOrder (listened answer settings l r).point
  right_listened Listening settings l r right = right
  right_listened ListenFailed settings l r right = tt

  right_names : (before : List (List ℕ)) (settings : Settings) (naming : Naming) (left : List Path) (s : Server) (r : Run) → IsServerInOrder started s → IsPointInOrder (to_names before settings naming left s r).point
  right_names before settings naming [] s r right =
      let defs : Defs = with_paths settings.defs naming.found in
      right_brings (start_news before defs s) first_turn right_first s r right (configures (jobs_of s.children.running) (config_changes s.state defs) before defs (ready_line s.now ∷ []))
  right_names before settings naming (p ∷ ps) s r right =
      right_brings (record { before = before; what = None; behind = [] }) (AtNames settings naming) (λ t is. is) s r right tt

  -- ---- a turn

  look_reads : (s : Server) (l : Watching) (file : FileLook) → BringsStarted started (jobs_of s.children.running) (look_taken s l file).read
  unfolding look_taken
  look_reads s l file = reads (jobs_of s.children.running) (finds_of l.jail s.now (log_jails s)) l.jail l.path (looked_of l.watch file)

  right_looked : (answer : Look) (l : Watching) (i : ℕ) (s : Server) (r : Run) → IsServerInOrder started s → IsPointInOrder r.point → IsPointInOrder (looked answer l i s r).point
  right_looked (File file) l i s r right same =
      right_brings (look_news s.now l (look_taken s l file)) (to_looks (i + 1)) (right_looks (i + 1)) (now_is i l file s) r (record { lanes = right.lanes; children = right.children; once = right.once; heads = right.heads }) (look_reads s l file)
  right_looked Absent l i s r right same = right_looks (i + 1) s right
  right_looked LookFailed l i s r right same = right_brings (unread_news s l) (to_looks (i + 1)) (right_looks (i + 1)) s r right tt
  right_looked LookNoMemory l i s r right same = same

  right_looked_at : (o : Option Watching) (answer : Look) (i : ℕ) (s : Server) (r : Run) → IsServerInOrder started s → IsPointInOrder r.point → IsPointInOrder (looked_at o answer i s r).point
  right_looked_at None answer i s r right same = same
  right_looked_at (Some l) answer i s r right same = right_looked answer l i s r right same

  right_ended : (passed : Bool) (outcome : Outcome) (c : Child) (i : ℕ) (s : Server) (r : Run) → slice_get s.children.running i ≡ Some c → IsServerInOrder started s → IsPointInOrder (ended_as passed outcome c i s r).point
  right_ended true outcome c i s r at right = right_polls i (gone_passed c.job i s) (passed_right started c.job i s right)
  right_ended false outcome c i s r at right =
      right_brings (end_news c outcome) (to_polls i) (right_polls i) (gone i s) r (gone_right started i s right)
      (ends (jobs_of (gone i s).children.running) c.task c.job outcome (right.children c.job (has_at s.children.running i c at)) (gone_absent s.children.running i c at right.once))

  right_polled : (o : Option Child) (answer : PollAnswer) (i : ℕ) (s : Server) (r : Run) → slice_get s.children.running i ≡ o → IsServerInOrder started s → IsPointInOrder r.point → IsPointInOrder (polled_at o answer i s r).point
  right_polled None answer i s r at right same = same
  right_polled (Some c) (PollEnded status) i s r at right same = right_ended (has_succeeded c.task (EndedWith status)) (EndedWith status) c i s r at right
  right_polled (Some c) Running i s r at right same = right_still (is_late s.now c) i s right
  right_polled (Some c) PollFailed i s r at right same = right_still (is_late s.now c) i s right

  right_killed : (o : Option Child) (i : ℕ) (s : Server) (r : Run) → slice_get s.children.running i ≡ o → IsServerInOrder started s → IsPointInOrder r.point → IsPointInOrder (killed_at o i s r).point
  right_killed None i s r at right same = same
  right_killed (Some c) i s r at right same = right_ended (has_succeeded c.task TimedOut) TimedOut c i s r at right

  right_child : (answer : StartAnswer) (c : Child) (s : Server) (r : Run) → IsNew started c s → IsServerInOrder started s → IsPointInOrder r.point → IsPointInOrder (child_started answer c s r).point
  right_child Started c s r new right same = right_starts (with_child c s) (with_right started c s new right)
  right_child StartFailed c s r new right same =
      right_brings (end_news c NotStarted) to_starts right_starts (without_child c s) r (without_right started c s right) (ends (jobs_of s.children.running) c.task c.job NotStarted new.counts new.absent)
  right_child StartNoMemory c s r new right same = same

  -- a call on a client
  right_serves : (x : Service) (s : Server) (r : Run) → BringsStarted started (jobs_of s.children.running) x.news.what → IsServerInOrder started s → IsPointInOrder (serves x s r).point
  right_serves x s r is right =
      right_brings x.news (point_on x.onward) (right_onward x.onward) (with_clients x.clients s) r (record { lanes = right.lanes; children = right.children; once = right.once; heads = right.heads }) is

  -- ---- a reload

  right_followed : (i : ℕ) (s : Server) → IsServerInOrder started s → IsPointInOrder (reloaded i s)
  right_followed i s right = right_behind i (following s) (record { lanes = right.lanes; children = right.children; once = right.once; heads = right.heads })

  right_renames : (before : List (List ℕ)) (settings : Settings) (naming : Naming) (left : List Path) (i : ℕ) (s : Server) (r : Run) → IsServerInOrder started s
      → IsPointInOrder (names_next (names_for i) (taken_for i) before settings naming left s r).point
  right_renames before settings naming left i s r right = names_by (λ (x : Run). IsPointInOrder x.point) (names_for i) (taken_for i) s r
      (λ lines defined at. right_brings (record { before = lines; what = None; behind = [] }) (names_for i defined at) (λ t is. is) s r right tt)
      (λ lines defs. right_brings (reload_news lines defs s) (reloaded i) (right_followed i) (tells_taken i s) r (record { lanes = right.lanes; children = right.children; once = right.once; heads = right.heads })
      (configures (jobs_of s.children.running) (config_changes s.state defs) lines defs (reloaded_line s.now ∷ []))) before settings naming left

  right_left : (i : ℕ) (s : Server) (r : Run) → IsServerInOrder started s → (settings : Settings) (ps : List Pattern) → IsPointInOrder (left_for i s settings ps r).point
  right_left i s r right settings [] = right_renames [] settings (first_naming settings.defs) (first_naming settings.defs).left i s r right
  right_left i s r right settings (p ∷ ps) = right

  right_untaken : (i : ℕ) (s : Server) (r : Run) → IsServerInOrder started s → (status : Status) → IsPointInOrder (untaken_for i s status r).point
  right_untaken i s r right status = right_serves (tells_untaken status i s) s r tt right

  right_reloads : (reading : Rereading) (event : Event) (i : ℕ) (s : Server) (r : Run) → IsServerInOrder started s → IsPointInOrder r.point → IsPointInOrder (reloads reading event i s r).point
  right_reloads OfTree (Config root answer) i s r right same =
      tree_by (λ (x : Run). IsPointInOrder x.point) (left_for i s) (untaken_for i s) r (right_left i s r right) (λ status is. right_untaken i s r right status) same answer
  right_reloads (OfMakes settings left) (Make text answer) i s r right same =
      makes_by (λ (x : Run). IsPointInOrder x.point) (left_for i s) (untaken_for i s) r (right_left i s r right) (λ status is. right_untaken i s r right status) same left answer settings
  right_reloads (OfNames settings naming) (Names dir answer) i s r right same =
      let next = named (names_in answer) naming in right_renames (unread_by answer s.now naming.left) settings next next.left i s r right
  right_reloads _ _ i s r right same = same

  -- ---- an event that starts nothing

  abbrev IsNoStart : Event → Type 0
  IsNoStart (ChildStart job command answer) = ⊥
  IsNoStart _ = Unit {0}

  right_turns : (place : Place) (event : Event) (s : Server) (r : Run) → IsNoStart event → IsServerInOrder started s → IsPointInOrder r.point → IsPointInOrder (turns place event s r).point
  right_turns AtClock (Clock answer) s r none right same =
      right_brings (tick_news (read_at answer s)) to_logs right_logs (read_at answer s) r (record { lanes = right.lanes; children = right.children; once = right.once; heads = right.heads }) (ticks (jobs_of s.children.running) (is_ban_due moves (read_at answer s).now s.state.jails))
  right_turns (AtLook i) (LookAt path head from max answer) s r none right same = right_looked_at (slice_get s.logs i) answer i s r right same
  right_turns (AtPoll i) (ChildPoll job answer) s r none right same = right_polled (slice_get s.children.running i) answer i s r refl right same
  right_turns (AtKill i) (ChildKill job) s r none right same = right_killed (slice_get s.children.running i) i s r refl right same
  right_turns AtAccept (GateAccept answer) s r none right same = right_serves (lets_in answer s) s r (lets_in_fine started (jobs_of s.children.running) answer s) right
  right_turns (AtClient i) (GateRead conn max answer) s r none right same = right_serves (reads_client answer i s) s r (reads_fine started (jobs_of s.children.running) answer i s) right
  right_turns (AtClient i) (GateWrite conn bytes answer) s r none right same = right_serves (writes answer i s) s r tt right
  right_turns (AtClose i) (GateClose conn) s r none right same = right_serves (closes i s) s r tt right
  right_turns (AtReload reading i) event s r none right same = right_reloads reading event i s r right same
  right_turns (AtStart c text) (ChildStart job command answer) s r none right same = absurd none
  right_turns AtPause (Pause ms) s r none right same = right_turned (s.left - 1) s right
  right_turns _ _ s r none right same = same

  right_moved : (point : Point) (event : Event) (r : Run) → HoldBytes r.slots → IsNoStart event → IsPointInOrder point → IsPointInOrder r.point → IsPointInOrder (moved point event r).point
  right_moved AtTree (Config root answer) r bytes none right same = right_tree answer r right same
  right_moved (AtMakes settings left) (Make text answer) r bytes none right same = right_makes_on left answer settings r right same
  right_moved (AtStore settings) (StoreAt socket answer) r bytes none right same =
      right_loads (loaded r.plan.limit r.slots) settings r (λ l is. loaded_fine r.plan.limit r.slots l bytes is) right
  right_moved (AtListen settings l) (GateListen socket answer) r bytes none right same = right_listened answer settings l r right
  right_moved (AtFirst settings l) (Clock answer) r bytes none right same =
      let P : List ℕ → Type 0 = λ js. IsServerInOrder js (begun r.plan.turns l answer) in
      right_names [] settings (first_naming settings.defs) (first_naming settings.defs).left (begun r.plan.turns l answer) r (subst P (sym right.0) (begun_right r.plan.turns l answer right.1))
  right_moved (AtNames settings naming s) (Names dir answer) r bytes none right same =
      let next = named (names_in answer) naming in right_names (unread_by answer s.now naming.left) settings next next.left s r right
  right_moved (AtTurn place s) event r bytes none right same = right_turns place event s r none right same
  right_moved _ _ r bytes none right same = same

  right_feed : (r : Run) (event : Event) → HoldBytes r.slots → IsNoStart event → IsPointInOrder r.point → IsPointInOrder (feed r event).point
  right_feed r (Say bytes Done) held none same = same
  right_feed r (Say bytes SayFailed) held none same = tt
  right_feed r (DiskLen slot answer) held none same = measured_point IsPointInOrder tt r same answer
  right_feed r (DiskRead slot at len answer) held none same = piece_point IsPointInOrder tt r same answer
  right_feed r (DiskWrite slot at bytes answer) held none same = wrote_point IsPointInOrder tt r same answer
  right_feed r (DiskSync slot answer) held none same = synced_point IsPointInOrder tt r same answer
  right_feed r event held none same = right_moved r.point event r held none same same

-- ---- a start is of the first job of its lane

due_leads : (now : ℕ) (running : List ℕ) (all : List Job) (job : Job) → next_due now running all ≡ Some job → (has_id job.id (head job.lane all) ≡ true) × (has job.id running ≡ false)
due_leads now running all job is =
    let p : Job → Bool = λ (j : Job). is_head all j && (nat_le j.due now && not (list_any (λ id. id == j.id) running)) in
    let parts = and_parts (is_head all job) (nat_le job.due now && not (has job.id running)) (found_passes p all job is) in
    (parts.0, absent_of (has job.id running) (and_parts (nat_le job.due now) (not (has job.id running)) parts.1).1)
  where
    absent_of : (b : Bool) → not b ≡ true → b ≡ false
    absent_of true un = absurd (let e : false ≡ true = un in cc)
    absent_of false un = refl

startable_leads : (room : Bool) (now : ℕ) (running : List ℕ) (all : List Job) (job : Job) → cond room (next_due now running all) None ≡ Some job
    → (has_id job.id (head job.lane all) ≡ true) × (has job.id running ≡ false)
startable_leads true now running all job is = due_leads now running all job is
startable_leads false now running all job is = absurd (let e : None ≡ Some job = is in cc)

abbrev job_at : Place → ℕ
job_at (AtStart c text) = c.job
job_at _ = 0

start_job : (now : ℕ) (job : Job) (o : Option UpLane) → job_at (start_place now job o) ≡ job.id
start_job now job None = refl
start_job now job (Some lane) = refl

-- which job is started, of a lane that it leads, while nothing runs for it
record IsOfHead (c : Child) (s : Server) : Type 0 where
  pub job : Job
  pub same : c.job ≡ job.id
  pub leads : Heads job.id job.lane s.state.lanes
  pub absent : has job.id (jobs_of s.children.running) ≡ false

start_of_head : (c : Child) (text : List ℕ) (s : Server) (job : Job) → IsStartFor s c text job → IsOfHead c s
start_of_head c text s job is =
    let facts = startable_leads (nat_lt (length s.children.running) most_children) s.now (jobs_of s.children.running) (jobs s) job is.next in
    record {
      job = job;
      same = ap job_at is.child ∙ start_job s.now job (checked_first s.children (lanes_up s) (jobs s) job.id);
      leads = facts.0;
      absent = facts.1;
    }

right_start_of : (started : List ℕ) (c : Child) (s : Server) → IsOfHead c s → IsServerInOrder started s → IsServerInOrder (started ++ c.job ∷ []) s
right_start_of started c s of right =
    let P : ℕ → Type 0 = λ id. IsServerInOrder (started ++ id ∷ []) s in
    subst P (sym of.same) record {
      lanes = started_fine started s.state.lanes.jobs s.state.lanes.next_job of.job.id of.job.lane right.lanes of.leads;
      children = λ other there. has_append other started (of.job.id ∷ []) ∙ or_left (has other started) _ (right.children other there);
      once = right.once;
      heads = right.heads;
    }

new_of : (started : List ℕ) (c : Child) (s : Server) → IsOfHead c s → has c.job started ≡ true → IsNew started c s
new_of started c s of counts =
    let P : ℕ → Type 0 = λ id. (has id (jobs_of s.children.running) ≡ false) × HeadsSome id s.state.lanes in
    let there : P c.job = subst P (sym of.same) (of.absent, (of.job.lane, of.leads)) in
    record { counts = counts; absent = there.0; heads = there.1 }

right_before : (started : List ℕ) (id : ℕ) (command : List ℕ) (point : Point) → StartsAt point id command → IsPointInOrder started point → IsPointInOrder (started ++ id ∷ []) point
right_before started id command (AtTurn (AtStart c text) s) starts right =
    let P : ℕ → Type 0 = λ j. IsServerInOrder (started ++ j ∷ []) s in
    subst P (sym starts.2) (right_start_of started c s (start_of_head c text s starts.0 starts.1) right)
right_before started id command _ starts right = absurd starts

-- ---- a start, once it counts

right_begins : (started : List ℕ) (id : ℕ) (command : List ℕ) (answer : StartAnswer) (point : Point) (r : Run) → StartsAt point id command → has id started ≡ true → IsPointInOrder started point
    → IsPointInOrder started r.point → IsPointInOrder started (moved point (ChildStart id command answer) r).point
right_begins started id command answer (AtTurn (AtStart c text) s) r starts is right same =
    right_child started answer c s r (new_of started c s (start_of_head c text s starts.0 starts.1) (subst (λ (j : ℕ). has j started ≡ true) starts.2 is)) right same
right_begins started id command answer _ r starts is right same = absurd starts

-- ---- one event

-- a start is as the law has it
abbrev IsAllowedAt : Point → Event → Type 0
IsAllowedAt point (ChildStart id command answer) = StartsAt point id command
IsAllowedAt point _ = Unit {0}

-- with the start that comes, before it and after it
step_right : (started : List ℕ) (r : Run) (event : Event) → HoldBytes r.slots → IsAllowedAt r.point event → IsPointInOrder started r.point
    → IsPointInOrder (started ++ start_of event) r.point × IsPointInOrder (started ++ start_of event) (feed r event).point
step_right started r (ChildStart id command answer) bytes starts right =
    let more : IsPointInOrder (started ++ id ∷ []) r.point = right_before started id command r.point starts right in
    (more, right_begins (started ++ id ∷ []) id command answer r.point r starts (has_last id started) more more)
step_right started r event bytes allowed right =
    let P : List ℕ → Type 0 = λ js. IsPointInOrder js r.point × IsPointInOrder js (feed r event).point in
    subst P (sym (append-nil started)) (right, right_feed started r event bytes tt right)

-- ---- whole runs

take_more : (es : List Event) (k : ℕ) (e : Event) → slice_get es k ≡ Some e → take (suc k) es ≡ take k es ++ e ∷ []
take_more [] k e is = absurd (let f : None ≡ Some e = is in cc)
take_more (x ∷ xs) zero e is = let same : x ≡ e = cc in ap (λ (y : Event). y ∷ []) same
take_more (x ∷ xs) (suc k) e is = ap (λ ys. x ∷ ys) (take_more xs k e is)

take_past : (es : List Event) (k : ℕ) → slice_get es k ≡ None → take (suc k) es ≡ take k es
take_past [] zero is = refl
take_past [] (suc k) is = refl
take_past (x ∷ xs) zero is = absurd (let f : Some x ≡ None = is in cc)
take_past (x ∷ xs) (suc k) is = ap (λ ys. x ∷ ys) (take_past xs k is)

after_more : (r : Run) (xs : List Event) (e : Event) → after feed MayCome Free r (xs ++ e ∷ []) ≡ feed (after feed MayCome Free r xs) e
after_more r [] e = refl
after_more r (x ∷ xs) e = after_more (feed r x) xs e

starts_more : (xs : List Event) (e : Event) → starts_in (xs ++ e ∷ []) ≡ starts_in xs ++ start_of e
starts_more xs e = sym (flat_map_more start_of [] xs e)

slots_after : (r : Run) (es : List Event) → (after feed MayCome Free r es).slots ≡ r.slots
slots_after r [] = refl
slots_after r (event ∷ es) = slots_after (feed r event) es ∙ feed_slots r event

begin_slots : (o : Option Plan) (slots : ℕ → List ℕ) → (begin_with o slots).slots ≡ slots
begin_slots None slots = refl
begin_slots (Some plan) slots = refl

module _ (words : List (List ℕ)) (slots : ℕ → List ℕ) (bytes : HoldBytes slots) (es : List Event) (starts : StartsInTurn words slots es) where
  bytes_at : (xs : List Event) → HoldBytes (run_after words slots xs).slots
  bytes_at xs = subst HoldBytes (sym (slots_after (begin words slots) xs ∙ begin_slots (plan_of words) slots)) bytes

  allowed : (k : ℕ) (e : Event) → slice_get es k ≡ Some e → IsAllowedAt (run_after words slots (take k es)).point e
  allowed k (ChildStart id command answer) is = starts.starts k id command answer is
  allowed k _ is = tt

  begins_right : (o : Option Plan) → IsPointInOrder [] (begin_with o slots).point
  begins_right None = tt
  begins_right (Some plan) = refl

  -- with an event, before it and after it
  right_next : (k : ℕ) (o : Option Event) → slice_get es k ≡ o → IsPointInOrder (starts_in (take k es)) (run_after words slots (take k es)).point
      → IsPointInOrder (starts_in (take (suc k) es)) (run_after words slots (take k es)).point × IsPointInOrder (starts_in (take (suc k) es)) (run_after words slots (take (suc k) es)).point
  right_next k None is right =
      let P : List Event → Type 0 = λ xs. IsPointInOrder (starts_in xs) (run_after words slots (take k es)).point × IsPointInOrder (starts_in xs) (run_after words slots xs).point in
      subst P (sym (take_past es k is)) (right, right)
  right_next k (Some e) is right =
      let at : Run = run_after words slots (take k es) in
      let P : List Event → Type 0 = λ xs. IsPointInOrder (starts_in xs) at.point × IsPointInOrder (starts_in xs) (run_after words slots xs).point in
      let Q : List ℕ → Type 0 = λ js. IsPointInOrder js at.point × IsPointInOrder js (feed at e).point in
      let R : Run → Type 0 = λ r. IsPointInOrder (starts_in (take k es ++ e ∷ [])) at.point × IsPointInOrder (starts_in (take k es ++ e ∷ [])) r.point in
      subst P (sym (take_more es k e is)) (subst R (sym (after_more (begin words slots) (take k es) e))
      (subst Q (sym (starts_more (take k es) e)) (step_right (starts_in (take k es)) at e (bytes_at (take k es)) (allowed k e is) right)))

  right_at : (k : ℕ) → IsPointInOrder (starts_in (take k es)) (run_after words slots (take k es)).point
  right_at zero = begins_right (plan_of words)
  right_at (suc k) = (right_next k (slice_get es k) refl (right_at k)).1

  jobs_in_order : TriesJobsInOrder words slots es
  jobs_in_order = record {
    each = λ k place s is.
        let P : Point → Type 0 = λ p. IsPointInOrder (starts_in (take (suc k) es)) p in
        let right : IsServerInOrder (starts_in (take (suc k) es)) s = subst P is (right_next k (slice_get es k) refl (right_at k)).0 in
        fine_in_order (starts_in (take (suc k) es)) s.state.lanes.jobs s.state.lanes.next_job right.lanes;
    alone = λ k place s is.
        let started : List ℕ = starts_in (take k es) in
        let right : IsServerInOrder started s = subst (IsPointInOrder started) is (right_at k) in
        record {
          first = λ job there. let of = right.heads job there in heads_lead started job of.0 s.state.lanes right.lanes of.1;
          once = right.once;
        };
  }

-- a run that obeys the law tries the jobs of each lane in their order
pub tries_in_order : (words : List (List ℕ)) (slots : ℕ → List ℕ) (g : History) (es : List Event) → HoldBytes slots → Obeys (begin words slots) g es → TriesJobsInOrder words slots es
tries_in_order words slots g es bytes along = jobs_in_order words slots bytes es (starts_in_turn words slots g es along)
