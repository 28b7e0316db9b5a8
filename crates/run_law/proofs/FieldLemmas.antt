-- Whatever comes, a field of a run stays that no part of a run changes: what was said, but for the calls that say, what the slots held,
-- and what the run was asked for.
use Rattle.std.proofs.Common.{ℕ, Bool, true, false, ◌≡◌, ◌+◌, ◌++◌, List, [], ◌∷◌, Option, Some, None, Result, Ok, Err, refl, sym, ap, ◌∙◌}
use Rattle.std.specs.Prelude.{drop, slice_get}
use Rattle.f2b_base.specs.declared.input.Input.{Input}
use Rattle.f2b_base.specs.declared.input.What.{What}
use Rattle.f2b_base.specs.declared.job.Outcome.{Outcome}
use Rattle.f2b_base.specs.declared.job.Outcome.TheVariants.{Status as EndedWith, NotStarted, TimedOut}
use Rattle.f2b_base.specs.declared.outside.TreeAnswer.{TreeAnswer}
use Rattle.f2b_base.specs.declared.outside.TreeAnswer.TheVariants.{Tree, Failed as TreeFailed, TooLarge as TreeTooLarge, NoMemory as TreeNoMemory}
use Rattle.f2b_world.specs.Told.{History}
use Rattle.f2b_world.specs.Walks.{after}
use Rattle.f2b_world.specs.declared.answer.Len.{Len}
use Rattle.f2b_world.specs.declared.answer.Len.TheVariants.{Bytes as LenIs, Failed as LenFailed}
use Rattle.f2b_world.specs.declared.answer.Listen.{Listen}
use Rattle.f2b_world.specs.declared.answer.Listen.TheVariants.{Listening, Failed as ListenFailed}
use Rattle.f2b_world.specs.declared.answer.Look.{Look}
use Rattle.f2b_world.specs.declared.answer.Look.TheVariants.{File, Absent, Failed as LookFailed, NoMemory as LookNoMemory}
use Rattle.f2b_world.specs.declared.answer.MakeAnswer.{MakeAnswer}
use Rattle.f2b_world.specs.declared.answer.MakeAnswer.TheVariants.{Built, Syntax as WasSyntax, TooBig as WasTooBig}
use Rattle.f2b_world.specs.declared.answer.Piece.{Piece}
use Rattle.f2b_world.specs.declared.answer.Piece.TheVariants.{Bytes as PieceIs, Failed as PieceFailed, NoMemory as PieceNoMemory}
use Rattle.f2b_world.specs.declared.answer.PollAnswer.{PollAnswer}
use Rattle.f2b_world.specs.declared.answer.PollAnswer.TheVariants.{Running, Ended as PollEnded, Failed as PollFailed}
use Rattle.f2b_world.specs.declared.answer.Said.TheVariants.{Done, Failed as SayFailed}
use Rattle.f2b_world.specs.declared.answer.Synced.{Synced}
use Rattle.f2b_world.specs.declared.answer.Synced.TheVariants.{Done as SyncDone, Failed as SyncFailed}
use Rattle.f2b_world.specs.declared.answer.Wrote.{Wrote}
use Rattle.f2b_world.specs.declared.answer.Wrote.TheVariants.{Done as WroteDone, Failed as WroteFailed, NoMemory as WroteNoMemory}
use Rattle.f2b_world.specs.declared.answer.StartAnswer.{StartAnswer}
use Rattle.f2b_world.specs.declared.answer.StartAnswer.TheVariants.{Started, Failed as StartFailed, NoMemory as StartNoMemory}
use Rattle.f2b_world.specs.declared.event.Event.{Event}
use Rattle.f2b_world.specs.declared.event.Event.TheVariants.{Say, DiskLen, DiskRead, DiskWrite, DiskSync, Make, Clock, Config, StoreAt, Names, Look as LookAt, ChildStart, ChildPoll, ChildKill, GateListen, GateAccept, GateRead, GateWrite, GateClose, Pause}
use Rattle.jail_conf.specs.Conf.{conf}
use Rattle.jail_conf.specs.declared.conf_error.ConfError.{ConfError}
use Rattle.jail_conf.specs.declared.settings.Settings.{Settings}
use Rattle.child_table.specs.declared.child.Child.{Child}
use Rattle.log_set.specs.Logs.{Watching}
use Rattle.run_law.specs.Clock.{tick_news}
use Rattle.run_law.specs.Disk.{broken, measured, piece_read, synced, wrote}
use Rattle.run_law.specs.Law.{Free, Goes, MayCome, feed, moved, turns}
use Rattle.reconcile.specs.Loads.{Loaded, loaded}
use Rattle.run_law.specs.Looks.{look_news, look_taken, looked, looked_at, now_is, unread_news}
use Rattle.run_law.specs.News.{News, brings, brings_by, entered, entering, goes_to, owing, refused, taking, writing}
use Rattle.run_law.specs.Paths.{Path, Naming, first_naming, named, with_paths}
use Rattle.run_law.specs.Patterns.{Pattern}
use Rattle.run_law.specs.Points.{Place, AtClock, AtLook, AtPoll, AtKill, AtAccept, AtClient, AtClose, Rereading, OfTree, OfMakes, OfNames, AtReload, AtStart, AtPause, Point, AtTree, AtMakes, AtStore, AtListen, AtFirst, AtNames, AtTurn, Over, Run}
use Rattle.run_law.specs.Polls.{end_news, ended_as, gone, has_succeeded, killed_at, polled_at}
use Rattle.run_law.specs.Refusals.{status_lines}
use Rattle.run_law.specs.Server.{Server, begun, entry_in, input_at, read_at}
use Rattle.run_law.specs.Serving.{Service, closes, lets_in, point_on, reads, serves, with_clients, writes as writes_to}
use Rattle.run_law.specs.Reading.{names_in, names_next, unread_by}
use Rattle.run_law.specs.Reload.{left_for, names_for, reload_news, reloaded, reloads, taken_for, tells_taken, tells_untaken, untaken_for}
use Rattle.run_law.specs.Start.{defined, first_turn, listened, loads, made, makes_on, start_news, to_names, tree_read}
use Rattle.run_law.specs.Starts.{child_started, without_child}
use Rattle.run_law.specs.Turn.{to_logs, to_looks, to_polls, to_starts}
use Rattle.run_law.proofs.DiskLemmas.{writing_plan, writing_says}
use Rattle.run_law.proofs.ReadingLemmas.{makes_by, names_by, tree_by}
use Rattle.slot_writes.specs.Entries.{Entry, Written, Full, Spent}
use Rattle.slot_writes.specs.Writes.{Write}
use Rattle.run_law.specs.declared.status.Status.{Status}
use Rattle.run_law.specs.declared.status.Status.TheVariants.{ConfFault, ConfRefused, ConfTooLarge, GateFault}

-- an event that says nothing
abbrev pub IsNoSay : Event → Type 0
IsNoSay (Say bytes answer) = ⊥
IsNoSay _ = Unit {0}

-- ---- a field that stays as the run goes on

module _ {A : Type 0} (field : Run → A) (goes : (point : Point) (r : Run) → field (goes_to point r) ≡ field r) (owes : (lines : List (List ℕ)) (r : Run) → field (owing lines r) ≡ field r)
    (enters : (input : Input) (r : Run) → field (entering input r) ≡ field r)
    (takes : (news : News) (what : What) (next : Server → Point) (s : Server) (r : Run) → field (taking news what next s r) ≡ field r)
    (writes : (ws : List Write) (r : Run) → field (writing ws r) ≡ field r) (breaks : (r : Run) → field (broken r) ≡ field r) where
  refused_stays : (now : ℕ) (status : Status) (r : Run) → field (refused now status r) ≡ field r
  refused_stays now status r = owes (status_lines now status) (goes_to (Over status) r) ∙ goes (Over status) r

  entered_stays : (e : Entry) (news : News) (what : What) (next : Server → Point) (s : Server) (r : Run) → field (entered e news what next s r) ≡ field r
  entered_stays (Written at ws) news what next s r = writes ws (taking news what next s r) ∙ takes news what next s r
  entered_stays (Full need) news what next s r = refused_stays s.now _ (entering (input_at s what) r) ∙ enters (input_at s what) r
  entered_stays Spent news what next s r = refused_stays s.now _ (entering (input_at s what) r) ∙ enters (input_at s what) r

  by_stays : (o : Option What) (news : News) (next : Server → Point) (s : Server) (r : Run) → field (brings_by o news next s r) ≡ field r
  by_stays None news next s r = owes (news.before ++ news.behind) (goes_to (next s) r) ∙ goes (next s) r
  by_stays (Some what) news next s r = entered_stays (entry_in s what) news what next s r

  brings_stays : (news : News) (next : Server → Point) (s : Server) (r : Run) → field (brings news next s r) ≡ field r
  unfolding brings
  brings_stays news next s r = by_stays news.what news next s r

  defined_stays : (o : Result Settings ConfError) (r : Run) → field (defined o r) ≡ field r
  defined_stays (Ok settings) r = goes _ r
  defined_stays (Err error) r = refused_stays 0 (ConfRefused error) r

  tree_stays : (answer : TreeAnswer) (r : Run) → field (tree_read answer r) ≡ field r
  tree_stays (Tree tree) r = defined_stays (conf tree) r
  tree_stays TreeFailed r = refused_stays 0 ConfFault r
  tree_stays TreeTooLarge r = refused_stays 0 ConfTooLarge r
  tree_stays TreeNoMemory r = refl

  made_stays : (answer : MakeAnswer) (settings : Settings) (p : Pattern) (ps : List Pattern) (r : Run) → field (made answer settings p ps r) ≡ field r
  made_stays Built settings p ps r = goes _ r
  made_stays WasSyntax settings p ps r = refused_stays 0 _ r
  made_stays WasTooBig settings p ps r = refused_stays 0 _ r

  makes_stay : (left : List Pattern) (answer : MakeAnswer) (settings : Settings) (r : Run) → field (makes_on left answer settings r) ≡ field r
  makes_stay [] answer settings r = refl
  makes_stay (p ∷ ps) answer settings r = made_stays answer settings p ps r

  loads_stay : (o : Result Loaded (ℕ × ℕ)) (settings : Settings) (r : Run) → field (loads o settings r) ≡ field r
  loads_stay (Ok l) settings r = goes _ r
  loads_stay (Err place) settings r = refused_stays 0 _ r

  listened_stays : (answer : Listen) (settings : Settings) (l : Loaded) (r : Run) → field (listened answer settings l r) ≡ field r
  listened_stays Listening settings l r = goes _ r
  listened_stays ListenFailed settings l r = refused_stays 0 GateFault r

  names_stay : (before : List (List ℕ)) (settings : Settings) (naming : Naming) (left : List Path) (s : Server) (r : Run) → field (to_names before settings naming left s r) ≡ field r
  names_stay before settings naming [] s r = brings_stays (start_news before (with_paths settings.defs naming.found) s) first_turn s r
  names_stay before settings naming (p ∷ ps) s r = brings_stays (record { before = before; what = None; behind = [] }) (AtNames settings naming) s r

  looked_stays : (answer : Look) (l : Watching) (i : ℕ) (s : Server) (r : Run) → field (looked answer l i s r) ≡ field r
  looked_stays (File file) l i s r = brings_stays (look_news s.now l (look_taken s l file)) (to_looks (i + 1)) (now_is i l file s) r
  looked_stays Absent l i s r = goes _ r
  looked_stays LookFailed l i s r = brings_stays (unread_news s l) (to_looks (i + 1)) s r
  looked_stays LookNoMemory l i s r = refl

  looked_at_stays : (o : Option Watching) (answer : Look) (i : ℕ) (s : Server) (r : Run) → field (looked_at o answer i s r) ≡ field r
  looked_at_stays None answer i s r = refl
  looked_at_stays (Some l) answer i s r = looked_stays answer l i s r

  ended_stays : (passed : Bool) (outcome : Outcome) (c : Child) (i : ℕ) (s : Server) (r : Run) → field (ended_as passed outcome c i s r) ≡ field r
  ended_stays true outcome c i s r = goes _ r
  ended_stays false outcome c i s r = brings_stays (end_news c outcome) (to_polls i) (gone i s) r

  polled_stays : (o : Option Child) (answer : PollAnswer) (i : ℕ) (s : Server) (r : Run) → field (polled_at o answer i s r) ≡ field r
  polled_stays None answer i s r = refl
  polled_stays (Some c) (PollEnded status) i s r = ended_stays (has_succeeded c.task (EndedWith status)) (EndedWith status) c i s r
  polled_stays (Some c) Running i s r = goes _ r
  polled_stays (Some c) PollFailed i s r = goes _ r

  killed_stays : (o : Option Child) (i : ℕ) (s : Server) (r : Run) → field (killed_at o i s r) ≡ field r
  killed_stays None i s r = refl
  killed_stays (Some c) i s r = ended_stays (has_succeeded c.task TimedOut) TimedOut c i s r

  started_stays : (answer : StartAnswer) (c : Child) (s : Server) (r : Run) → field (child_started answer c s r) ≡ field r
  started_stays Started c s r = goes _ r
  started_stays StartFailed c s r = brings_stays (end_news c NotStarted) to_starts (without_child c s) r
  started_stays StartNoMemory c s r = refl

  serves_stay : (x : Service) (s : Server) (r : Run) → field (serves x s r) ≡ field r
  serves_stay x s r = brings_stays x.news (point_on x.onward) (with_clients x.clients s) r

  -- ---- a reload

  renames_stay : (before : List (List ℕ)) (settings : Settings) (naming : Naming) (left : List Path) (i : ℕ) (s : Server) (r : Run)
      → field (names_next (names_for i) (taken_for i) before settings naming left s r) ≡ field r
  renames_stay before settings naming left i s r = names_by (λ (x : Run). field x ≡ field r) (names_for i) (taken_for i) s r
      (λ lines defined at. brings_stays (record { before = lines; what = None; behind = [] }) (names_for i defined at) s r)
      (λ lines defs. brings_stays (reload_news lines defs s) (reloaded i) (tells_taken i s) r) before settings naming left

  left_stays : (i : ℕ) (s : Server) (r : Run) (settings : Settings) (ps : List Pattern) → field (left_for i s settings ps r) ≡ field r
  left_stays i s r settings [] = renames_stay [] settings (first_naming settings.defs) (first_naming settings.defs).left i s r
  left_stays i s r settings (p ∷ ps) = goes _ r

  untaken_stays : (i : ℕ) (s : Server) (r : Run) (status : Status) → field (untaken_for i s status r) ≡ field r
  untaken_stays i s r status = serves_stay (tells_untaken status i s) s r

  reloads_stay : (reading : Rereading) (event : Event) (i : ℕ) (s : Server) (r : Run) → field (reloads reading event i s r) ≡ field r
  reloads_stay OfTree (Config root answer) i s r =
      tree_by (λ (x : Run). field x ≡ field r) (left_for i s) (untaken_for i s) r (left_stays i s r) (λ status is. untaken_stays i s r status) refl answer
  reloads_stay (OfMakes settings left) (Make text answer) i s r =
      makes_by (λ (x : Run). field x ≡ field r) (left_for i s) (untaken_for i s) r (left_stays i s r) (λ status is. untaken_stays i s r status) refl left answer settings
  reloads_stay (OfNames settings naming) (Names dir answer) i s r =
      let next = named (names_in answer) naming in renames_stay (unread_by answer s.now naming.left) settings next next.left i s r
  reloads_stay _ _ i s r = refl

  turns_stay : (place : Place) (event : Event) (s : Server) (r : Run) → field (turns place event s r) ≡ field r
  turns_stay AtClock (Clock answer) s r = brings_stays (tick_news (read_at answer s)) to_logs (read_at answer s) r
  turns_stay (AtLook i) (LookAt path head from max answer) s r = looked_at_stays (slice_get s.logs i) answer i s r
  turns_stay (AtPoll i) (ChildPoll job answer) s r = polled_stays (slice_get s.children.running i) answer i s r
  turns_stay (AtKill i) (ChildKill job) s r = killed_stays (slice_get s.children.running i) i s r
  turns_stay AtAccept (GateAccept answer) s r = serves_stay (lets_in answer s) s r
  turns_stay (AtClient i) (GateRead conn max answer) s r = serves_stay (reads answer i s) s r
  turns_stay (AtClient i) (GateWrite conn bytes answer) s r = serves_stay (writes_to answer i s) s r
  turns_stay (AtClose i) (GateClose conn) s r = serves_stay (closes i s) s r
  turns_stay (AtReload reading i) event s r = reloads_stay reading event i s r
  turns_stay (AtStart c text) (ChildStart job command answer) s r = started_stays answer c s r
  turns_stay AtPause (Pause ms) s r = goes _ r
  turns_stay _ _ s r = refl

  moved_stays : (point : Point) (event : Event) (r : Run) → field (moved point event r) ≡ field r
  moved_stays AtTree (Config root answer) r = tree_stays answer r
  moved_stays (AtMakes settings left) (Make text answer) r = makes_stay left answer settings r
  moved_stays (AtStore settings) (StoreAt socket answer) r = loads_stay (loaded r.plan.limit r.slots) settings r
  moved_stays (AtListen settings l) (GateListen socket answer) r = listened_stays answer settings l r
  moved_stays (AtFirst settings l) (Clock answer) r = names_stay [] settings (first_naming settings.defs) (first_naming settings.defs).left (begun r.plan.turns l answer) r
  moved_stays (AtNames settings naming s) (Names dir answer) r = let next = named (names_in answer) naming in names_stay (unread_by answer s.now naming.left) settings next next.left s r
  moved_stays (AtTurn place s) event r = turns_stay place event s r
  moved_stays _ _ r = refl

  measured_stays : (answer : Len) (r : Run) → field (measured answer r) ≡ field r
  measured_stays (LenIs n) r = refl
  measured_stays LenFailed r = breaks r

  piece_stays : (answer : Piece) (r : Run) → field (piece_read answer r) ≡ field r
  piece_stays (PieceIs bytes) r = refl
  piece_stays PieceFailed r = breaks r
  piece_stays PieceNoMemory r = refl

  wrote_stays : (answer : Wrote) (r : Run) → field (wrote answer r) ≡ field r
  wrote_stays WroteDone r = writes (drop 1 r.writes) r
  wrote_stays WroteFailed r = breaks r
  wrote_stays WroteNoMemory r = refl

  synced_stays : (answer : Synced) (r : Run) → field (synced answer r) ≡ field r
  synced_stays SyncDone r = writes (drop 1 r.writes) r
  synced_stays SyncFailed r = breaks r

  pub feed_stays : (r : Run) (event : Event) → IsNoSay event → field (feed r event) ≡ field r
  feed_stays r (Say bytes answer) other = absurd other
  feed_stays r (DiskLen slot answer) other = measured_stays answer r
  feed_stays r (DiskRead slot at len answer) other = piece_stays answer r
  feed_stays r (DiskWrite slot at bytes answer) other = wrote_stays answer r
  feed_stays r (DiskSync slot answer) other = synced_stays answer r
  feed_stays r event other = moved_stays r.point event r

-- ---- two fields

-- only a call that says changes what was said
pub feed_says : (r : Run) (event : Event) → IsNoSay event → (feed r event).said ≡ r.said
feed_says r event other =
    feed_stays (λ (x : Run). x.said) (λ p x. refl) (λ lines x. refl) (λ input x. refl) (λ news what next s x. refl) writing_says (λ x. refl) r event other

writing_slots : (ws : List Write) (r : Run) → (writing ws r).slots ≡ r.slots
writing_slots [] r = refl
writing_slots (w ∷ ws) r = refl

others_slots : (r : Run) (event : Event) → IsNoSay event → (feed r event).slots ≡ r.slots
others_slots r event other =
    feed_stays (λ (x : Run). x.slots) (λ p x. refl) (λ lines x. refl) (λ input x. refl) (λ news what next s x. refl) writing_slots (λ x. refl) r event other

-- what the slots held as the run began is always the same
pub feed_slots : (r : Run) (event : Event) → (feed r event).slots ≡ r.slots
feed_slots r (Say bytes Done) = refl
feed_slots r (Say bytes SayFailed) = refl
feed_slots r event = others_slots r event tt

others_plan : (r : Run) (event : Event) → IsNoSay event → (feed r event).plan ≡ r.plan
others_plan r event other =
    feed_stays (λ (x : Run). x.plan) (λ p x. refl) (λ lines x. refl) (λ input x. refl) (λ news what next s x. refl) writing_plan (λ x. refl) r event other

-- what a run was asked for is always the same
pub feed_plan : (r : Run) (event : Event) → (feed r event).plan ≡ r.plan
feed_plan r (Say bytes Done) = refl
feed_plan r (Say bytes SayFailed) = refl
feed_plan r event = others_plan r event tt

after_plan : (r : Run) (es : List Event) → (after feed MayCome Free r es).plan ≡ r.plan
after_plan r [] = refl
after_plan r (event ∷ es) = after_plan (feed r event) es ∙ feed_plan r event

pub goes_plan : (old new : Option History) (r s : Run) → Goes old new r s → (h : History) → new ≡ Some h → s.plan ≡ r.plan
goes_plan old None r s goes h told = absurd (let e : None ≡ Some h = told in cc)
goes_plan old (Some k) r s goes h told = let on = goes.events in ap (λ (x : Run). x.plan) (sym on.4.1) ∙ after_plan r on.1
