-- Whatever comes but a call on a client, the clients of a run are the same, but for one for which a configuration was read again: it may be answered.
-- And behind a call on one they are those that its service gives.
use Rattle.std.proofs.Common.{ℕ, zero, suc, ◌≡◌, ◌+◌, ◌-◌, Bool, true, false, cond, nat_lt, List, [], ◌∷◌, length, get_or, Option, Some, None, Result, Ok, Err, refl}
use Rattle.std.specs.Prelude.{slice_get}
use Rattle.std.specs.Option.{option_map_or}
use Rattle.std.proofs.lemmas.Bool.{ltb-true}
use Rattle.std.proofs.lemmas.Option.{slice_get-get_or}
use Rattle.child_table.specs.Late.{is_late}
use Rattle.child_table.specs.declared.child.Child.{Child}
use Rattle.client_frames.specs.declared.answer.Answer.{Answer}
use Rattle.client_table.specs.Clients.{Asks, Client, Nothing, Reads, Writes, accepted, answered, asks_at, changed_at, is_over, is_over_at, most_clients}
use Rattle.f2b_base.specs.declared.jail.Defs.{Defs}
use Rattle.f2b_base.specs.declared.input.What.{What}
use Rattle.f2b_base.specs.declared.job.Job.{Job}
use Rattle.f2b_base.specs.declared.job.Outcome.{Outcome}
use Rattle.f2b_base.specs.declared.job.Outcome.TheVariants.{Status as EndedWith, NotStarted, TimedOut}
use Rattle.f2b_base.specs.declared.job.UpLane.{UpLane}
use Rattle.f2b_base.specs.declared.outside.TreeAnswer.{TreeAnswer}
use Rattle.f2b_world.specs.declared.answer.Listen.{Listen}
use Rattle.f2b_world.specs.declared.answer.Listen.TheVariants.{Listening, Failed as ListenFailed}
use Rattle.f2b_world.specs.declared.answer.Look.{Look}
use Rattle.f2b_world.specs.declared.answer.Look.TheVariants.{File, Absent, Failed as LookFailed, NoMemory as LookNoMemory}
use Rattle.f2b_world.specs.declared.answer.MakeAnswer.{MakeAnswer}
use Rattle.f2b_world.specs.declared.answer.PollAnswer.{PollAnswer}
use Rattle.f2b_world.specs.declared.answer.PollAnswer.TheVariants.{Running, Ended as PollEnded, Failed as PollFailed}
use Rattle.f2b_world.specs.declared.answer.Said.TheVariants.{Done, Failed as SayFailed}
use Rattle.f2b_world.specs.declared.answer.StartAnswer.{StartAnswer}
use Rattle.f2b_world.specs.declared.answer.StartAnswer.TheVariants.{Started, Failed as StartFailed, NoMemory as StartNoMemory}
use Rattle.f2b_world.specs.declared.event.Event.{Event}
use Rattle.f2b_world.specs.declared.event.Event.TheVariants.{Say, DiskLen, DiskRead, DiskWrite, DiskSync, Make, Clock, Config, StoreAt, Names, Look as LookAt, ChildStart, ChildPoll, ChildKill, GateListen, GateAccept, GateRead, GateWrite, GateClose, Pause}
use Rattle.jail_conf.specs.declared.settings.Settings.{Settings}
use Rattle.log_set.specs.Logs.{Watching, next_look}
use Rattle.reconcile.specs.Loads.{Loaded, loaded}
use Rattle.run_law.specs.Children.{checked_first, startable}
use Rattle.run_law.specs.Clock.{tick_news}
use Rattle.run_law.specs.Law.{feed, moved, turns}
use Rattle.run_law.specs.Looks.{look_news, look_taken, looked, looked_at, now_is, unread_news}
use Rattle.run_law.specs.News.{News, after_news, brings, refused, server_after}
use Rattle.run_law.specs.Paths.{Path, Naming, first_naming, named}
use Rattle.run_law.specs.Patterns.{Pattern}
use Rattle.run_law.specs.Pause.{turned}
use Rattle.run_law.specs.Points.{Place, AtClock, AtLook, AtPoll, AtKill, AtAccept, AtClient, AtClose, Rereading, OfTree, OfMakes, OfNames, AtReload, AtStart, AtPause, Point, AtTree, AtMakes, AtStore, AtListen, AtFirst, AtNames, AtTurn, Over, Run}
use Rattle.run_law.specs.Polls.{end_news, ended_as, gone, gone_passed, has_succeeded, killed_at, polled_at, still_point}
use Rattle.run_law.specs.Reading.{names_in, names_next, unread_by}
use Rattle.run_law.specs.Reload.{left_for, names_for, reload_news, reloaded, reloads, taken_for, tells_taken, tells_untaken, untaken_for}
use Rattle.run_law.specs.Server.{Server, begun, following, is_stopping, jobs, lanes_up, log_jails, read_at}
use Rattle.run_law.specs.Serving.{Onward, From, Behind, Rereads, Service, point_on, serves, with_clients}
use Rattle.run_law.specs.Start.{first_turn, left_to_make, listened, loads, makes_on, start_news, starts_with, to_makes, to_names, tree_read}
use Rattle.run_law.specs.Starts.{child_started, with_child, without_child}
use Rattle.run_law.specs.Turn.{at_pause, behind_client, client_place, is_drained, look_point, start_place, start_point, to_accept, to_children, to_clients, to_end, to_logs, to_looks, to_polls, to_starts}
use Rattle.run_law.specs.declared.status.Status.{Status}
use Rattle.run_law.specs.declared.status.Status.TheVariants.{Stopped}
use Rattle.run_law.proofs.ReadingLemmas.{makes_by, names_by, tree_by}
use Rattle.run_replies.specs.Replied.{taken, untaken}
use Rattle.run_law.proofs.NewsLemmas.{brings_point, measured_point, piece_point, synced_point, wrote_point}

-- a client stands at a place
abbrev pub Stands : ℕ → List Client → Type 0
Stands i cs = (c : Client) × (slice_get cs i ≡ Some c)

stands_within : (i : ℕ) (cs : List Client) → nat_lt i (length cs) ≡ true → Stands i cs
stands_within i cs is = (get_or cs i (accepted 0 0), slice_get-get_or cs i (accepted 0 0) (ltb-true i (length cs) is))

over_stands : (now i : ℕ) (cs : List Client) → is_over_at now i cs ≡ true → Stands i cs
over_stands now i cs is = by_client (slice_get cs i) refl is
  where
    by_client : (o : Option Client) → slice_get cs i ≡ o → option_map_or (is_over now) o false ≡ true → Stands i cs
    by_client None at is = absurd (let e : false ≡ true = is in cc)
    by_client (Some c) at is = (c, at)

-- no call on a client
abbrev pub IsNoTalk : Event → Type 0
IsNoTalk (GateAccept answer) = ⊥
IsNoTalk (GateRead conn max answer) = ⊥
IsNoTalk (GateWrite conn bytes answer) = ⊥
IsNoTalk (GateClose conn) = ⊥
IsNoTalk _ = Unit {0}

-- what happened, if that is an input, leaves the clients as they are
kept_after : (P : List Client → Type 0) (o : Option What) (s : Server) → P s.clients → P (server_after o s).clients
kept_after P None s has = has
kept_after P (Some what) s has = has

-- ---- something that holds of the clients

-- something holds of the place of a client for which the turn goes on to read a configuration again
abbrev pub IsThere : (ℕ → List Client → Type 0) → Onward → List Client → Type 0
IsThere R (Rereads i) cs = R i cs
IsThere R _ cs = Unit {0}

-- something stays where the client is answered for which a configuration is read again
abbrev pub IsStable : (List Client → Type 0) → Point → Type 0
IsStable Q (AtTurn (AtReload reading i) s) = (given : Answer) → Q (changed_at i (answered given) s.clients)
IsStable Q _ = Unit {0}

-- Q is what holds of the clients, and R of the place of one for which a configuration is read again
module _ (Q : List Client → Type 0) (R : ℕ → List Client → Type 0) where
  -- It holds at a point: before a first reading there are none, and when a run is over they are gone. One that is to be closed stands at its place.
  abbrev pub HasClients : Point → Type 0
  HasClients (AtTurn (AtClose i) s) = Q s.clients × Stands i s.clients
  HasClients (AtTurn (AtReload reading i) s) = Q s.clients × R i s.clients
  HasClients (AtTurn place s) = Q s.clients
  HasClients (AtNames settings naming s) = Q s.clients
  HasClients (Over status) = Unit {0}
  HasClients _ = Q []

  has_if : (b : Bool) (p q : Point) → HasClients p → HasClients q → HasClients (cond b p q)
  has_if true p q at_true at_false = at_true
  has_if false p q at_true at_false = at_false

  has_end : (s : Server) → Q s.clients → HasClients (to_end s)
  unfolding to_end
  has_end s has = has_if (is_drained s) (Over Stopped) (at_pause s) tt has

  has_start_place : (o : Option UpLane) (job : Job) (s : Server) → Q s.clients → HasClients (AtTurn (start_place s.now job o) s)
  has_start_place None job s has = has
  has_start_place (Some lane) job s has = has

  has_start : (o : Option Job) (s : Server) → Q s.clients → HasClients (start_point o s)
  has_start None s has = has_end s has
  has_start (Some job) s has = has_start_place (checked_first s.children (lanes_up s) (jobs s) job.id) job s has

  has_starts : (s : Server) → Q s.clients → HasClients (to_starts s)
  unfolding to_starts
  has_starts s has = has_start (startable s.now s.children (jobs s)) s has

  has_place : (a : Asks) (i : ℕ) (s : Server) → Q s.clients → Stands i s.clients → HasClients (AtTurn (client_place a i) s)
  has_place (Writes bytes) i s has stands = has
  has_place (Reads most) i s has stands = has
  has_place Nothing i s has stands = (has, stands)

  has_clients : (i : ℕ) (s : Server) → Q s.clients → HasClients (to_clients i s)
  has_clients i s has = by_count (nat_lt i (length s.clients)) refl
    where
      by_count : (b : Bool) → nat_lt i (length s.clients) ≡ b → HasClients (cond b (AtTurn (client_place (asks_at i s.clients) i) s) (to_starts s))
      by_count true is = has_place (asks_at i s.clients) i s has (stands_within i s.clients is)
      by_count false is = has_starts s has

  has_behind : (i : ℕ) (s : Server) → Q s.clients → HasClients (behind_client i s)
  has_behind i s has = by_over (is_over_at s.now i s.clients) refl
    where
      by_over : (b : Bool) → is_over_at s.now i s.clients ≡ b → HasClients (cond b (AtTurn (AtClose i) s) (to_clients (i + 1) s))
      by_over true is = (has, over_stands s.now i s.clients is)
      by_over false is = has_clients (i + 1) s has

  has_onward : (o : Onward) (s : Server) → Q s.clients → IsThere R o s.clients → HasClients (point_on o s)
  has_onward (From i) s has there = has_clients i s has
  has_onward (Behind i) s has there = has_behind i s has
  has_onward (Rereads i) s has there = (has, there)

  has_accept : (s : Server) → Q s.clients → HasClients (to_accept s)
  unfolding to_accept
  has_accept s has = has_if (nat_lt (length s.clients) most_clients) (AtTurn AtAccept s) (to_clients 0 s) has (has_clients 0 s has)

  has_polls : (i : ℕ) (s : Server) → Q s.clients → HasClients (to_polls i s)
  has_polls i s has = has_if (nat_lt i (length s.children.running)) (AtTurn (AtPoll i) s) (to_accept s) has (has_accept s has)

  has_children : (s : Server) → Q s.clients → HasClients (to_children s)
  unfolding to_children
  has_children s has = has_polls 0 s has

  has_look : (o : Option ℕ) (s : Server) → Q s.clients → HasClients (look_point o s)
  has_look None s has = has_children s has
  has_look (Some i) s has = has

  has_looks : (i : ℕ) (s : Server) → Q s.clients → HasClients (to_looks i s)
  has_looks i s has = has_look (next_look i (log_jails s) s.logs) s has

  has_logs : (s : Server) → Q s.clients → HasClients (to_logs s)
  unfolding to_logs
  has_logs s has = has_if (is_stopping s) (to_children s) (to_looks 0 s) (has_children s has) (has_looks 0 s has)

  has_still : (late : Bool) (i : ℕ) (s : Server) → Q s.clients → HasClients (still_point late i s)
  has_still true i s has = has
  has_still false i s has = has_polls (i + 1) s has

  has_turned : (n : ℕ) (s : Server) → Q s.clients → HasClients (turned n s)
  has_turned zero s has = tt
  has_turned (suc n) s has = has

  has_makes : (settings : Settings) (left : List Pattern) → Q [] → HasClients (to_makes settings left)
  has_makes settings [] has = has
  has_makes settings (p ∷ ps) has = has

  -- ---- what an event brings

  has_brings : (news : News) (next : Server → Point) → ((t : Server) → Q t.clients → HasClients (next t)) → (s : Server) (r : Run) → Q s.clients → HasClients (brings news next s r).point
  has_brings news next leads s r has = brings_point HasClients (λ need limit. tt) tt news next s r (leads (after_news news s) (kept_after Q news.what s has))

  -- behind a call on a client
  pub has_served : (x : Service) (s : Server) (r : Run) → Q x.clients → IsThere R x.onward x.clients → HasClients (serves x s r).point
  has_served x s r has there =
      let t : Server = with_clients x.clients s in
      brings_point HasClients (λ need limit. tt) tt x.news (point_on x.onward) t r
      (has_onward x.onward (after_news x.news t) (kept_after Q x.news.what t has) (kept_after (IsThere R x.onward) x.news.what t there))

  -- ---- the start of a run

  has_tree : (answer : TreeAnswer) (r : Run) → Q [] → HasClients r.point → HasClients (tree_read answer r).point
  has_tree answer r has same =
      tree_by (λ (x : Run). HasClients x.point) left_to_make (refused 0) r (λ settings ps. has_makes settings ps has) (λ status is. tt) same answer

  has_makes_on : (left : List Pattern) (answer : MakeAnswer) (settings : Settings) (r : Run) → Q [] → HasClients r.point → HasClients (makes_on left answer settings r).point
  has_makes_on left answer settings r has same =
      makes_by (λ (x : Run). HasClients x.point) left_to_make (refused 0) r (λ defined ps. has_makes defined ps has) (λ status is. tt) same left answer settings

  has_loads : (o : Result Loaded (ℕ × ℕ)) (settings : Settings) (r : Run) → Q [] → HasClients (loads o settings r).point
  has_loads (Ok l) settings r has = has
  has_loads (Err place) settings r has = tt

  has_listened : (answer : Listen) (settings : Settings) (l : Loaded) (r : Run) → Q [] → HasClients (listened answer settings l r).point
  has_listened Listening settings l r has = has
  has_listened ListenFailed settings l r has = tt

  has_names : (before : List (List ℕ)) (settings : Settings) (naming : Naming) (left : List Path) (s : Server) (r : Run) → Q s.clients → HasClients (to_names before settings naming left s r).point
  has_names before settings naming left s r has = names_by (λ (x : Run). HasClients x.point) AtNames starts_with s r
      (λ lines defined at. has_brings (record { before = lines; what = None; behind = [] }) (AtNames defined at) (λ t is. is) s r has)
      (λ lines defs. has_brings (start_news lines defs s) first_turn (λ t is. is) s r has) before settings naming left

  -- ---- a reload

  pub has_untaken : (status : Status) (i : ℕ) (s : Server) (r : Run) → Q (changed_at i (answered (untaken status)) s.clients) → HasClients (untaken_for i s status r).point
  has_untaken status i s r has = has_served (tells_untaken status i s) s r has tt

  pub has_taken : (before : List (List ℕ)) (defs : Defs) (i : ℕ) (s : Server) (r : Run) → Q (changed_at i (answered taken) s.clients) → HasClients (taken_for i before defs s r).point
  has_taken before defs i s r has = has_brings (reload_news before defs s) (reloaded i) (λ t is. has_behind i (following t) is) (tells_taken i s) r has

  -- that holds of the clients, also once the one at the place is answered
  module _ (i : ℕ) (s : Server) (r : Run) (has : Q s.clients) (there : R i s.clients) (stable : (given : Answer) → Q (changed_at i (answered given) s.clients)) where
    has_renames : (before : List (List ℕ)) (settings : Settings) (naming : Naming) (left : List Path) → HasClients (names_next (names_for i) (taken_for i) before settings naming left s r).point
    has_renames before settings naming left = names_by (λ (x : Run). HasClients x.point) (names_for i) (taken_for i) s r
        (λ lines defined at. brings_point HasClients (λ need limit. tt) tt (record { before = lines; what = None; behind = [] }) (names_for i defined at) s r (has, there))
        (λ lines defs. has_taken lines defs i s r (stable taken)) before settings naming left

    has_left : (settings : Settings) (ps : List Pattern) → HasClients (left_for i s settings ps r).point
    has_left settings [] = has_renames [] settings (first_naming settings.defs) (first_naming settings.defs).left
    has_left settings (p ∷ ps) = (has, there)

    has_reloads : (reading : Rereading) (event : Event) → HasClients r.point → HasClients (reloads reading event i s r).point
    has_reloads OfTree (Config root answer) same =
        tree_by (λ (x : Run). HasClients x.point) (left_for i s) (untaken_for i s) r has_left (λ status is. has_untaken status i s r (stable (untaken status))) same answer
    has_reloads (OfMakes settings left) (Make text answer) same =
        makes_by (λ (x : Run). HasClients x.point) (left_for i s) (untaken_for i s) r has_left (λ status is. has_untaken status i s r (stable (untaken status))) same left answer settings
    has_reloads (OfNames settings naming) (Names dir answer) same =
        let next = named (names_in answer) naming in has_renames (unread_by answer s.now naming.left) settings next next.left
    has_reloads _ _ same = same

  -- ---- a turn

  has_looked : (answer : Look) (l : Watching) (i : ℕ) (s : Server) (r : Run) → Q s.clients → HasClients r.point → HasClients (looked answer l i s r).point
  has_looked (File file) l i s r has same = has_brings (look_news s.now l (look_taken s l file)) (to_looks (i + 1)) (has_looks (i + 1)) (now_is i l file s) r has
  has_looked Absent l i s r has same = has_looks (i + 1) s has
  has_looked LookFailed l i s r has same = has_brings (unread_news s l) (to_looks (i + 1)) (has_looks (i + 1)) s r has
  has_looked LookNoMemory l i s r has same = same

  has_looked_at : (o : Option Watching) (answer : Look) (i : ℕ) (s : Server) (r : Run) → Q s.clients → HasClients r.point → HasClients (looked_at o answer i s r).point
  has_looked_at None answer i s r has same = same
  has_looked_at (Some l) answer i s r has same = has_looked answer l i s r has same

  has_ended : (passed : Bool) (outcome : Outcome) (c : Child) (i : ℕ) (s : Server) (r : Run) → Q s.clients → HasClients (ended_as passed outcome c i s r).point
  has_ended true outcome c i s r has = has_polls i (gone_passed c.job i s) has
  has_ended false outcome c i s r has = has_brings (end_news c outcome) (to_polls i) (has_polls i) (gone i s) r has

  has_polled : (o : Option Child) (answer : PollAnswer) (i : ℕ) (s : Server) (r : Run) → Q s.clients → HasClients r.point → HasClients (polled_at o answer i s r).point
  has_polled None answer i s r has same = same
  has_polled (Some c) (PollEnded status) i s r has same = has_ended (has_succeeded c.task (EndedWith status)) (EndedWith status) c i s r has
  has_polled (Some c) Running i s r has same = has_still (is_late s.now c) i s has
  has_polled (Some c) PollFailed i s r has same = has_still (is_late s.now c) i s has

  has_killed : (o : Option Child) (i : ℕ) (s : Server) (r : Run) → Q s.clients → HasClients r.point → HasClients (killed_at o i s r).point
  has_killed None i s r has same = same
  has_killed (Some c) i s r has same = has_ended (has_succeeded c.task TimedOut) TimedOut c i s r has

  has_child : (answer : StartAnswer) (c : Child) (s : Server) (r : Run) → Q s.clients → HasClients r.point → HasClients (child_started answer c s r).point
  has_child Started c s r has same = has_starts (with_child c s) has
  has_child StartFailed c s r has same = has_brings (end_news c NotStarted) to_starts has_starts (without_child c s) r has
  has_child StartNoMemory c s r has same = same

  has_turns : (place : Place) (event : Event) (s : Server) (r : Run) → IsNoTalk event → HasClients (AtTurn place s) → IsStable Q (AtTurn place s) → HasClients r.point → HasClients (turns place event s r).point
  has_turns AtClock (Clock answer) s r none has stable same = has_brings (tick_news (read_at answer s)) to_logs has_logs (read_at answer s) r has
  has_turns (AtLook i) (LookAt path head from max answer) s r none has stable same = has_looked_at (slice_get s.logs i) answer i s r has same
  has_turns (AtPoll i) (ChildPoll job answer) s r none has stable same = has_polled (slice_get s.children.running i) answer i s r has same
  has_turns (AtKill i) (ChildKill job) s r none has stable same = has_killed (slice_get s.children.running i) i s r has same
  has_turns AtAccept (GateAccept answer) s r none has stable same = absurd none
  has_turns (AtClient i) (GateRead conn max answer) s r none has stable same = absurd none
  has_turns (AtClient i) (GateWrite conn bytes answer) s r none has stable same = absurd none
  has_turns (AtClose i) (GateClose conn) s r none has stable same = absurd none
  has_turns (AtReload reading i) event s r none has stable same = has_reloads i s r has.0 has.1 stable reading event same
  has_turns (AtStart c text) (ChildStart job command answer) s r none has stable same = has_child answer c s r has same
  has_turns AtPause (Pause ms) s r none has stable same = has_turned (s.left - 1) s has
  has_turns _ _ s r none has stable same = same

  has_moved : (point : Point) (event : Event) (r : Run) → IsNoTalk event → HasClients point → IsStable Q point → HasClients r.point → HasClients (moved point event r).point
  has_moved AtTree (Config root answer) r none has stable same = has_tree answer r has same
  has_moved (AtMakes settings left) (Make text answer) r none has stable same = has_makes_on left answer settings r has same
  has_moved (AtStore settings) (StoreAt socket answer) r none has stable same = has_loads (loaded r.plan.limit r.slots) settings r has
  has_moved (AtListen settings l) (GateListen socket answer) r none has stable same = has_listened answer settings l r has
  has_moved (AtFirst settings l) (Clock answer) r none has stable same =
      has_names [] settings (first_naming settings.defs) (first_naming settings.defs).left (begun r.plan.turns l answer) r has
  has_moved (AtNames settings naming s) (Names dir answer) r none has stable same =
      let next = named (names_in answer) naming in has_names (unread_by answer s.now naming.left) settings next next.left s r has
  has_moved (AtTurn place s) event r none has stable same = has_turns place event s r none has stable same
  has_moved _ _ r none has stable same = same

  -- whatever comes but a call on a client
  pub has_fed : (r : Run) (event : Event) → IsNoTalk event → IsStable Q r.point → HasClients r.point → HasClients (feed r event).point
  has_fed r (Say bytes Done) none stable same = same
  has_fed r (Say bytes SayFailed) none stable same = tt
  has_fed r (DiskLen slot answer) none stable same = measured_point HasClients tt r same answer
  has_fed r (DiskRead slot at len answer) none stable same = piece_point HasClients tt r same answer
  has_fed r (DiskWrite slot at bytes answer) none stable same = wrote_point HasClients tt r same answer
  has_fed r (DiskSync slot answer) none stable same = synced_point HasClients tt r same answer
  has_fed r event none stable same = has_moved r.point event r none same stable same

-- what holds of the clients says that something weaker does
module _ (Q S : List Client → Type 0) (R T : ℕ → List Client → Type 0) (weaker : (cs : List Client) → Q cs → S cs) (other : (i : ℕ) (cs : List Client) → R i cs → T i cs) where
  pub has_weaker : (point : Point) → HasClients Q R point → HasClients S T point
  has_weaker (AtTurn (AtClose i) s) has = (weaker s.clients has.0, has.1)
  has_weaker (AtTurn (AtReload reading i) s) has = (weaker s.clients has.0, other i s.clients has.1)
  has_weaker (AtTurn place s) has = weaker s.clients has
  has_weaker (AtNames settings naming s) has = weaker s.clients has
  has_weaker (Over status) has = tt
  has_weaker point has = weaker [] has
