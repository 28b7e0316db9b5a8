-- From where an event leads: each end of a run comes from an event that brings it, or from words outside the table.
use Rattle.std.proofs.Common.{ℕ, zero, suc, ◌≡◌, ◌+◌, ◌-◌, ◌++◌, ◌⊎◌, inl, inr, Bool, true, false, List, [], ◌∷◌, Option, Some, None, Result, Ok, Err, refl, sym, ◌∙◌, append-nil, subst, arith}
use Rattle.std.specs.Prelude.{drop, slice_get}
use Rattle.f2b_base.specs.declared.jail.Defs.{Defs}
use Rattle.f2b_base.specs.declared.input.What.{What}
use Rattle.f2b_base.specs.declared.job.Outcome.{Outcome}
use Rattle.f2b_base.specs.declared.job.Outcome.TheVariants.{Status as EndedWith, NotStarted, TimedOut}
use Rattle.f2b_base.specs.declared.outside.Reading.{Reading}
use Rattle.f2b_base.specs.declared.outside.Tree.{Tree}
use Rattle.f2b_base.specs.declared.outside.TreeAnswer.{TreeAnswer}
use Rattle.f2b_base.specs.declared.outside.TreeAnswer.TheVariants.{Tree as TreeGiven, Failed as TreeFailed, TooLarge as TreeTooLarge, NoMemory as TreeNoMemory}
use Rattle.f2b_world.specs.Walks.{after}
use Rattle.f2b_world.specs.declared.answer.Len.{Len}
use Rattle.f2b_world.specs.declared.answer.Len.TheVariants.{Bytes as LenIs, Failed as LenFailed}
use Rattle.f2b_world.specs.declared.answer.Listen.{Listen}
use Rattle.f2b_world.specs.declared.answer.Listen.TheVariants.{Listening, Failed as ListenFailed}
use Rattle.f2b_world.specs.declared.answer.Look.{Look}
use Rattle.f2b_world.specs.declared.answer.Look.TheVariants.{File, Absent, Failed as LookFailed, NoMemory as LookNoMemory}
use Rattle.f2b_world.specs.declared.answer.MakeAnswer.{MakeAnswer}
use Rattle.f2b_world.specs.declared.answer.MakeAnswer.TheVariants.{Built, Syntax as WasSyntax, TooBig as WasTooBig}
use Rattle.f2b_world.specs.declared.answer.Piece.{Piece}
use Rattle.f2b_world.specs.declared.answer.Piece.TheVariants.{Bytes as PieceIs, Failed as PieceFailed, NoMemory as PieceNoMemory}
use Rattle.f2b_world.specs.declared.answer.PollAnswer.{PollAnswer}
use Rattle.f2b_world.specs.declared.answer.PollAnswer.TheVariants.{Running, Ended as PollEnded, Failed as PollFailed}
use Rattle.f2b_world.specs.declared.answer.Said.TheVariants.{Done as SayDone, Failed as SayFailed}
use Rattle.f2b_world.specs.declared.answer.StartAnswer.{StartAnswer}
use Rattle.f2b_world.specs.declared.answer.StartAnswer.TheVariants.{Started, Failed as StartFailed, NoMemory as StartNoMemory}
use Rattle.f2b_world.specs.declared.answer.StoreAnswer.{StoreAnswer}
use Rattle.f2b_world.specs.declared.answer.Synced.{Synced}
use Rattle.f2b_world.specs.declared.answer.Synced.TheVariants.{Done as SyncDone, Failed as SyncFailed}
use Rattle.f2b_world.specs.declared.answer.Wrote.{Wrote}
use Rattle.f2b_world.specs.declared.answer.Wrote.TheVariants.{Done as WroteDone, Failed as WroteFailed, NoMemory as WroteNoMemory}
use Rattle.f2b_world.specs.declared.event.Event.{Event}
use Rattle.f2b_world.specs.declared.event.Event.TheVariants.{Say, DiskLen, DiskRead, DiskWrite, DiskSync, Make, Clock, Config, StoreAt, Names, Look as LookAt, ChildStart, ChildPoll, ChildKill, GateListen, GateAccept, GateRead, GateWrite, GateClose, Pause}
use Rattle.filter_regex.specs.declared.error.BuildKind.{BuildKind}
use Rattle.filter_regex.specs.declared.error.BuildKind.TheVariants.{Syntax, TooBig}
use Rattle.jail_conf.specs.Conf.{conf}
use Rattle.jail_conf.specs.declared.conf_error.ConfError.{ConfError}
use Rattle.jail_conf.specs.declared.settings.Settings.{Settings}
use Rattle.child_table.specs.Late.{is_late}
use Rattle.child_table.specs.declared.child.Child.{Child}
use Rattle.log_set.specs.Logs.{Watching}
use Rattle.reconcile.specs.Loads.{Loaded, loaded}
use Rattle.run_law.specs.Clock.{clock_read, tick_news}
use Rattle.run_law.specs.Disk.{broken, measured, piece_read, synced, wrote}
use Rattle.run_law.specs.Ended.{AreClients, Came, EndsBy, IsEarly, IsEndedBy, IsLastInput, IsServerAt, unbuilt_as}
use Rattle.run_law.specs.Law.{Ends, Free, MayCome, begin, begin_with, feed, moved, turns}
use Rattle.run_law.specs.Looks.{look_news, look_taken, looked, looked_at, now_is, unread_news}
use Rattle.run_law.specs.News.{News, after_news, brings, brings_by, entered, entering, goes_to, owing, refused, said_number, server_after, taking, writing}
use Rattle.run_law.specs.Paths.{Path, Naming, first_naming, named, with_paths}
use Rattle.run_law.specs.Patterns.{Pattern, patterns_of}
use Rattle.run_law.specs.Pause.{turned}
use Rattle.run_law.specs.Points.{Place, AtClock, AtLook, AtPoll, AtKill, AtAccept, AtClient, AtClose, Rereading, OfTree, OfMakes, OfNames, AtReload, AtStart, AtPause, Point, AtTree, AtMakes, AtStore, AtListen, AtFirst, AtNames, AtTurn, Over, Run}
use Rattle.run_law.specs.Polls.{end_news, ended_as, gone, gone_passed, has_succeeded, killed_at, polled_at, still_point}
use Rattle.run_law.specs.Reading.{names_in, names_next, unread_by}
use Rattle.run_law.specs.Reload.{left_for, names_for, reload_news, reloaded, reloads, taken_for, tells_taken, tells_untaken, untaken_for}
use Rattle.run_law.specs.Server.{Server, begun, entry_in, following, input_at, read_at, taken}
use Rattle.run_law.specs.Serving.{Service, closes, lets_in, point_on, reads, serves, with_clients, writes}
use Rattle.run_law.specs.Start.{defined, first_turn, listened, loads, makes_on, start_news, to_makes, to_names, tree_read}
use Rattle.run_law.specs.Starts.{child_started, with_child, without_child}
use Rattle.run_law.specs.Stops.{IsRegular}
use Rattle.run_law.specs.Turn.{is_drained, to_logs, to_looks, to_polls, to_starts}
use Rattle.run_law.specs.Words.{plan_of}
use Rattle.run_law.specs.declared.plan.Plan.{Plan}
use Rattle.run_law.specs.declared.status.Status.{Status}
use Rattle.run_law.specs.declared.status.Status.TheVariants.{Stopped, TurnsSpent, Usage, ConfFault, ConfRefused, DiskFault, NotAJournal, JournalFull, GateFault, SinkFault, ConfTooLarge, PatternRefused, NumbersSpent, NoMemory}
use Rattle.run_law.proofs.DiskLemmas.{writing_point}
use Rattle.run_law.proofs.ReadingLemmas.{makes_by, names_by, tree_by}
use Rattle.run_law.proofs.TurnLemmas.{IsOfTurn, behind_of_turn, logs_of_turn, looks_of_turn, onward_of_turn, polls_of_turn, starts_of_turn, still_of_turn}
use Rattle.slot_writes.specs.Entries.{Entry, Written, Full, Spent}
use Rattle.slot_writes.specs.Writes.{Write}

-- ---- one event

-- a run that is over behind the event was over with that status before, or the event ended it
abbrev Leads : Run → Point → Event → Run → Type 0
Leads r point event to = (status : Status) → to.point ≡ Over status → (r.point ≡ Over status) ⊎ EndsBy status point event to

abbrev GoesOn : Point → Type 0
GoesOn (Over status) = ⊥
GoesOn _ = Unit {0}

module _ (r : Run) (point : Point) (event : Event) where
  same_leads : (to : Run) → to.point ≡ r.point → Leads r point event to
  same_leads to same status over = inl (sym same ∙ over)

  on_leads : (to : Run) (p : Point) → to.point ≡ p → GoesOn p → Leads r point event to
  on_leads to p is on status over = absurd (subst GoesOn (sym is ∙ over) on)

  over_leads : (known : Status) (to : Run) → to.point ≡ Over known → EndsBy known point event to → Leads r point event to
  over_leads known to is by status over =
      let P : Status → Type 0 = λ s. EndsBy s point event to in
      let same : known ≡ status = (let e : Over known ≡ Over status = sym is ∙ over in cc) in
      inr (subst P same by)

  -- what an event brings to a server of the point: an input is not written, or the run goes to its point
  module _ (s : Server) (stands : IsServerAt point s) (news : News) (next : Server → Point) where
    written_last : (ws : List Write) (what : What) → IsLastInput (Some what) s (writing ws (taking news what next s r))
    written_last [] what = (r.closed, append-nil (r.closed ++ input_at s what ∷ []))
    written_last (w ∷ ws) what = (r.closed, refl)

    entered_leads : (e : Entry) (what : What) → entry_in s what ≡ e → ((to : Run) → to.point ≡ next (taken what s) → IsLastInput (Some what) s to → Leads r point event to) → Leads r point event (entered e news what next s r)
    entered_leads (Written at ws) what comes goes = goes (writing ws (taking news what next s r)) (writing_point ws (taking news what next s r)) (written_last ws what)
    entered_leads (Full room) what comes goes =
        let status : Status = JournalFull (said_number room) s.position.limit in
        over_leads status (refused s.now status (entering (input_at s what) r)) refl (record {
          room = room;
          full = record { server = s; stands = stands; what = what; last = refl; comes = comes };
          need_is = refl;
          limit_is = refl;
        })
    entered_leads Spent what comes goes =
        over_leads NumbersSpent (refused s.now NumbersSpent (entering (input_at s what) r)) refl (record { server = s; stands = stands; what = what; last = refl; comes = comes })

    by_leads : (o : Option What) → ((to : Run) → to.point ≡ next (server_after o s) → IsLastInput o s to → Leads r point event to) → Leads r point event (brings_by o news next s r)
    by_leads None goes = goes (owing _ (goes_to (next s) r)) refl tt
    by_leads (Some what) goes = entered_leads (entry_in s what) what refl goes

    brings_leads : ((to : Run) → to.point ≡ next (after_news news s) → IsLastInput news.what s to → Leads r point event to) → Leads r point event (brings news next s r)
    unfolding brings
    brings_leads goes = by_leads news.what goes

-- ---- the start

module _ (r : Run) (event : Event) where
  makes_leads : (point : Point) (settings : Settings) (left : List Pattern) → Leads r point event (goes_to (to_makes settings left) r)
  makes_leads point settings [] = on_leads r point event (goes_to (AtStore settings) r) (AtStore settings) refl tt
  makes_leads point settings (p ∷ ps) = on_leads r point event (goes_to (AtMakes settings (p ∷ ps)) r) (AtMakes settings (p ∷ ps)) refl tt

module _ (r : Run) (root : List ℕ) where
  defined_leads : (tree : Tree) (o : Result Settings ConfError) → conf tree ≡ o → Leads r AtTree (Config root (TreeGiven tree)) (defined o r)
  defined_leads tree (Ok settings) is = makes_leads r (Config root (TreeGiven tree)) AtTree settings (patterns_of settings.defs)
  defined_leads tree (Err error) is = over_leads r AtTree (Config root (TreeGiven tree)) (ConfRefused error) (refused 0 (ConfRefused error) r) refl (root, tree, refl, refl, is)

  tree_leads : (answer : TreeAnswer) → Leads r AtTree (Config root answer) (tree_read answer r)
  tree_leads (TreeGiven tree) = defined_leads tree (conf tree) refl
  tree_leads TreeFailed = over_leads r AtTree (Config root TreeFailed) ConfFault (refused 0 ConfFault r) refl (refl, refl)
  tree_leads TreeTooLarge = over_leads r AtTree (Config root TreeTooLarge) ConfTooLarge (refused 0 ConfTooLarge r) refl (root, refl, refl)
  tree_leads TreeNoMemory = same_leads r AtTree (Config root TreeNoMemory) r refl

module _ (r : Run) (settings : Settings) where
  unbuilt_leads : (p : Pattern) (ps : List Pattern) (text : List ℕ) (kind : BuildKind) → Leads r (AtMakes settings (p ∷ ps)) (Make text (unbuilt_as kind)) (refused 0 (PatternRefused p.jail p.place kind) r)
  unbuilt_leads p ps text kind =
      let status : Status = PatternRefused p.jail p.place kind in
      over_leads r (AtMakes settings (p ∷ ps)) (Make text (unbuilt_as kind)) status (refused 0 status r) refl (record {
        settings = settings;
        pattern = p;
        later = ps;
        next = refl;
        jail_is = refl;
        place_is = refl;
        text = text;
        refused = refl;
      })

  built_leads : (left : List Pattern) (text : List ℕ) (answer : MakeAnswer) → Leads r (AtMakes settings left) (Make text answer) (makes_on left answer settings r)
  built_leads [] text answer = same_leads r (AtMakes settings []) (Make text answer) r refl
  built_leads (p ∷ ps) text Built = makes_leads r (Make text Built) (AtMakes settings (p ∷ ps)) settings ps
  built_leads (p ∷ ps) text WasSyntax = unbuilt_leads p ps text Syntax
  built_leads (p ∷ ps) text WasTooBig = unbuilt_leads p ps text TooBig

  loads_leads : (socket : List ℕ) (answer : StoreAnswer) (o : Result Loaded (ℕ × ℕ)) → loaded r.plan.limit r.slots ≡ o → Leads r (AtStore settings) (StoreAt socket answer) (loads o settings r)
  loads_leads socket answer (Ok l) is = on_leads r (AtStore settings) (StoreAt socket answer) (goes_to (AtListen settings l) r) (AtListen settings l) refl tt
  loads_leads socket answer (Err place) is =
      let status : Status = NotAJournal place.0 place.1 in
      over_leads r (AtStore settings) (StoreAt socket answer) status (refused 0 status r) refl (settings, socket, answer, refl, refl, is)

  listened_leads : (socket : List ℕ) (answer : Listen) (l : Loaded) → Leads r (AtListen settings l) (GateListen socket answer) (listened answer settings l r)
  listened_leads socket Listening l = on_leads r (AtListen settings l) (GateListen socket Listening) (goes_to (AtFirst settings l) r) (AtFirst settings l) refl tt
  listened_leads socket ListenFailed l = over_leads r (AtListen settings l) (GateListen socket ListenFailed) GateFault (refused 0 GateFault r) refl (settings, l, socket, refl, refl)

module _ (r : Run) (point : Point) (event : Event) (settings : Settings) (s : Server) (stands : IsServerAt point s) where
  names_leads : (before : List (List ℕ)) (naming : Naming) (left : List Path) → Leads r point event (to_names before settings naming left s r)
  names_leads before naming [] =
      let news = start_news before (with_paths settings.defs naming.found) s in
      brings_leads r point event s stands news first_turn (λ to is last. on_leads r point event to (first_turn (after_news news s)) is tt)
  names_leads before naming (p ∷ ps) =
      let news : News = record { before = before; what = None; behind = [] } in
      brings_leads r point event s stands news (AtNames settings naming) (λ to is last. on_leads r point event to (AtNames settings naming (after_news news s)) is tt)

-- ---- a turn

-- the point is over only as an orderly stop ends, where the server is drained
abbrev OnlyStops : Point → Server → Type 0
OnlyStops point s = (status : Status) → point ≡ Over status → (Stopped ≡ status) × (is_drained s ≡ true)

only_stops : (point : Point) (s : Server) → IsOfTurn point s → OnlyStops point s
only_stops point s turn status over = elim turn.is [ inl at ↦ absurd (subst GoesOn (sym at ∙ over) tt) | inr stopped ↦ ((let e : Over Stopped ≡ Over status = sym stopped.0 ∙ over in cc), stopped.1) ]

module _ (r : Run) (place : Place) (at : Server) (event : Event) where
  -- to a point of the turn, for a server with the state of the turn's and with the clients that there are behind the event
  drained_leads : (s : Server) (what : Option What) (to : Run) (p : Point) → IsServerAt (AtTurn place at) s → AreClients (AtTurn place at) event s.clients → OnlyStops p (server_after what s)
      → IsLastInput what s to → to.point ≡ p → Leads r (AtTurn place at) event to
  drained_leads s what to p stands clients only last is status over =
      let stops = only status (sym is ∙ over) in
      let P : Status → Type 0 = λ x. EndsBy x (AtTurn place at) event to in
      inr (subst P stops.0 (record { server = s; stands = stands; clients = clients; what = what; last = last; drained = stops.1 }))

  turn_leads : (news : News) (next : Server → Point) (s : Server) → IsServerAt (AtTurn place at) s → AreClients (AtTurn place at) event s.clients → ((t : Server) → OnlyStops (next t) t)
      → Leads r (AtTurn place at) event (brings news next s r)
  turn_leads news next s stands clients only =
      brings_leads r (AtTurn place at) event s stands news next (λ to is last. drained_leads s news.what to (next (after_news news s)) stands clients (only (after_news news s)) last is)

  plain_leads : (p : Point) (s : Server) → IsServerAt (AtTurn place at) s → AreClients (AtTurn place at) event s.clients → IsOfTurn p s → Leads r (AtTurn place at) event (goes_to p r)
  plain_leads p s stands clients turn = drained_leads s None (goes_to p r) p stands clients (only_stops p s turn) tt refl

  serves_leads : (x : Service) → AreClients (AtTurn place at) event x.clients → Leads r (AtTurn place at) event (serves x at r)
  serves_leads x clients =
      turn_leads x.news (point_on x.onward) (with_clients x.clients at) (refl, refl) clients (λ t. only_stops (point_on x.onward t) t (onward_of_turn x.onward t))

  -- where the clients are the same
  module _ (same : AreClients (AtTurn place at) event at.clients) where
    looked_leads : (answer : Look) (l : Watching) (i : ℕ) → Leads r (AtTurn place at) event (looked answer l i at r)
    looked_leads (File file) l i = turn_leads (look_news at.now l (look_taken at l file)) (to_looks (i + 1)) (now_is i l file at) (refl, refl) same (λ t. only_stops (to_looks (i + 1) t) t (looks_of_turn (i + 1) t))
    looked_leads Absent l i = plain_leads (to_looks (i + 1) at) at (refl, refl) same (looks_of_turn (i + 1) at)
    looked_leads LookFailed l i = turn_leads (unread_news at l) (to_looks (i + 1)) at (refl, refl) same (λ t. only_stops (to_looks (i + 1) t) t (looks_of_turn (i + 1) t))
    looked_leads LookNoMemory l i = same_leads r (AtTurn place at) event r refl

    looked_at_leads : (o : Option Watching) (answer : Look) (i : ℕ) → Leads r (AtTurn place at) event (looked_at o answer i at r)
    looked_at_leads None answer i = same_leads r (AtTurn place at) event r refl
    looked_at_leads (Some l) answer i = looked_leads answer l i

    ended_leads : (passed : Bool) (outcome : Outcome) (c : Child) (i : ℕ) → Leads r (AtTurn place at) event (ended_as passed outcome c i at r)
    ended_leads true outcome c i = plain_leads (to_polls i (gone_passed c.job i at)) (gone_passed c.job i at) (refl, refl) same (polls_of_turn i (gone_passed c.job i at))
    ended_leads false outcome c i = turn_leads (end_news c outcome) (to_polls i) (gone i at) (refl, refl) same (λ t. only_stops (to_polls i t) t (polls_of_turn i t))

    still_leads : (c : Child) (i : ℕ) → Leads r (AtTurn place at) event (goes_to (still_point (is_late at.now c) i at) r)
    still_leads c i = plain_leads (still_point (is_late at.now c) i at) at (refl, refl) same (still_of_turn (is_late at.now c) i at)

    polled_leads : (o : Option Child) (answer : PollAnswer) (i : ℕ) → Leads r (AtTurn place at) event (polled_at o answer i at r)
    polled_leads None answer i = same_leads r (AtTurn place at) event r refl
    polled_leads (Some c) (PollEnded status) i = ended_leads (has_succeeded c.task (EndedWith status)) (EndedWith status) c i
    polled_leads (Some c) Running i = still_leads c i
    polled_leads (Some c) PollFailed i = still_leads c i

    killed_leads : (o : Option Child) (i : ℕ) → Leads r (AtTurn place at) event (killed_at o i at r)
    killed_leads None i = same_leads r (AtTurn place at) event r refl
    killed_leads (Some c) i = ended_leads (has_succeeded c.task TimedOut) TimedOut c i

    started_leads : (answer : StartAnswer) (c : Child) → Leads r (AtTurn place at) event (child_started answer c at r)
    started_leads Started c = plain_leads (to_starts (with_child c at)) (with_child c at) (refl, refl) same (starts_of_turn (with_child c at))
    started_leads StartFailed c = turn_leads (end_news c NotStarted) to_starts (without_child c at) (refl, refl) same (λ t. only_stops (to_starts t) t (starts_of_turn t))
    started_leads StartNoMemory c = same_leads r (AtTurn place at) event r refl

    clock_leads : (answer : Reading) → Leads r (AtTurn place at) event (clock_read answer at r)
    clock_leads answer = let s = read_at answer at in turn_leads (tick_news s) to_logs s (refl, refl) same (λ t. only_stops (to_logs t) t (logs_of_turn t))

-- ---- a configuration that is read again

module _ (r : Run) (reading : Rereading) (i : ℕ) (at : Server) (event : Event) where
  abbrev here : Point
  here = AtTurn (AtReload reading i) at

  taken_leads : (before : List (List ℕ)) (defs : Defs) → Leads r here event (taken_for i before defs at r)
  taken_leads before defs = turn_leads r (AtReload reading i) at event (reload_news before defs at) (reloaded i) (tells_taken i at) (refl, refl) (_, refl)
      (λ t. only_stops (reloaded i t) (following t) (behind_of_turn i (following t)))

  names_again_lead : (before : List (List ℕ)) (settings : Settings) (naming : Naming) (left : List Path) → Leads r here event (names_next (names_for i) (taken_for i) before settings naming left at r)
  names_again_lead before settings naming left = names_by (λ (x : Run). Leads r here event x) (names_for i) (taken_for i) at r
      (λ lines defined next.
      let news : News = record { before = lines; what = None; behind = [] } in
      brings_leads r here event at (refl, refl) news (names_for i defined next) (λ to is last. on_leads r here event to (names_for i defined next (after_news news at)) is tt))
      taken_leads before settings naming left

  left_leads : (settings : Settings) (ps : List Pattern) → Leads r here event (left_for i at settings ps r)
  left_leads settings [] = names_again_lead [] settings (first_naming settings.defs) (first_naming settings.defs).left
  left_leads settings (p ∷ ps) = let next : Point = AtTurn (AtReload (OfMakes settings (p ∷ ps)) i) at in on_leads r here event (goes_to next r) next refl tt

  untaken_leads : (status : Status) → Leads r here event (untaken_for i at status r)
  untaken_leads status = serves_leads r (AtReload reading i) at event (tells_untaken status i at) (_, refl)

reloads_lead : (r : Run) (reading : Rereading) (event : Event) (i : ℕ) (at : Server) → Leads r (AtTurn (AtReload reading i) at) event (reloads reading event i at r)
reloads_lead r OfTree (Config root answer) i at =
    tree_by (λ (x : Run). Leads r (AtTurn (AtReload OfTree i) at) (Config root answer) x) (left_for i at) (untaken_for i at) r (left_leads r OfTree i at (Config root answer))
    (λ status is. untaken_leads r OfTree i at (Config root answer) status) (same_leads r (AtTurn (AtReload OfTree i) at) (Config root answer) r refl) answer
reloads_lead r (OfMakes settings left) (Make text answer) i at =
    let reading : Rereading = OfMakes settings left in
    makes_by (λ (x : Run). Leads r (AtTurn (AtReload reading i) at) (Make text answer) x) (left_for i at) (untaken_for i at) r (left_leads r reading i at (Make text answer))
    (λ status is. untaken_leads r reading i at (Make text answer) status) (same_leads r (AtTurn (AtReload reading i) at) (Make text answer) r refl) left answer settings
reloads_lead r (OfNames settings naming) (Names dir answer) i at =
    let next = named (names_in answer) naming in
    names_again_lead r (OfNames settings naming) i at (Names dir answer) (unread_by answer at.now naming.left) settings next next.left
reloads_lead r reading event i at = same_leads r (AtTurn (AtReload reading i) at) event r refl

-- ---- each point

turned_leads : (r : Run) (s : Server) (ms n : ℕ) → s.left - 1 ≡ n → Leads r (AtTurn AtPause s) (Pause ms) (goes_to (turned n s) r)
turned_leads r s ms zero is = over_leads r (AtTurn AtPause s) (Pause ms) TurnsSpent (goes_to (Over TurnsSpent) r) refl (s, ms, refl, omega arith, refl)
turned_leads r s ms (suc n) is =
    let next : Point = AtTurn AtClock (record s { left = suc n }) in on_leads r (AtTurn AtPause s) (Pause ms) (goes_to next r) next refl tt

turns_lead : (r : Run) (place : Place) (event : Event) (s : Server) → Leads r (AtTurn place s) event (turns place event s r)
turns_lead r AtClock (Clock answer) s = clock_leads r AtClock s (Clock answer) refl answer
turns_lead r (AtLook i) (LookAt path head from max answer) s = looked_at_leads r (AtLook i) s (LookAt path head from max answer) refl (slice_get s.logs i) answer i
turns_lead r (AtPoll i) (ChildPoll job answer) s = polled_leads r (AtPoll i) s (ChildPoll job answer) refl (slice_get s.children.running i) answer i
turns_lead r (AtKill i) (ChildKill job) s = killed_leads r (AtKill i) s (ChildKill job) refl (slice_get s.children.running i) i
turns_lead r AtAccept (GateAccept answer) s = serves_leads r AtAccept s (GateAccept answer) (lets_in answer s) refl
turns_lead r (AtClient i) (GateRead conn max answer) s = serves_leads r (AtClient i) s (GateRead conn max answer) (reads answer i s) refl
turns_lead r (AtClient i) (GateWrite conn bytes answer) s = serves_leads r (AtClient i) s (GateWrite conn bytes answer) (writes answer i s) refl
turns_lead r (AtClose i) (GateClose conn) s = serves_leads r (AtClose i) s (GateClose conn) (closes i s) refl
turns_lead r (AtReload reading i) event s = reloads_lead r reading event i s
turns_lead r (AtStart c text) (ChildStart job command answer) s = started_leads r (AtStart c text) s (ChildStart job command answer) refl answer c
turns_lead r AtPause (Pause ms) s = turned_leads r s ms (s.left - 1) refl
turns_lead r place event s = same_leads r (AtTurn place s) event r refl

moved_leads : (r : Run) (point : Point) (event : Event) → Leads r point event (moved point event r)
moved_leads r AtTree (Config root answer) = tree_leads r root answer
moved_leads r (AtMakes settings left) (Make text answer) = built_leads r settings left text answer
moved_leads r (AtStore settings) (StoreAt socket answer) = loads_leads r settings socket answer (loaded r.plan.limit r.slots) refl
moved_leads r (AtListen settings l) (GateListen socket answer) = listened_leads r settings socket answer l
moved_leads r (AtFirst settings l) (Clock answer) =
    let first = first_naming settings.defs in names_leads r (AtFirst settings l) (Clock answer) settings (begun r.plan.turns l answer) (refl, refl) [] first first.left
moved_leads r (AtNames settings naming s) (Names dir answer) =
    let next = named (names_in answer) naming in
    names_leads r (AtNames settings naming s) (Names dir answer) settings s (refl, refl) (unread_by answer s.now naming.left) next next.left
moved_leads r (AtTurn place s) event = turns_lead r place event s
moved_leads r point event = same_leads r point event r refl

-- ---- calls on the disk

module _ (r : Run) (point : Point) where
  len_leads : (slot : ℕ) (answer : Len) → Leads r point (DiskLen slot answer) (measured answer r)
  len_leads slot (LenIs n) = same_leads r point (DiskLen slot (LenIs n)) r refl
  len_leads slot LenFailed = over_leads r point (DiskLen slot LenFailed) DiskFault (broken r) refl refl

  piece_leads : (slot at len : ℕ) (answer : Piece) → Leads r point (DiskRead slot at len answer) (piece_read answer r)
  piece_leads slot at len (PieceIs bytes) = same_leads r point (DiskRead slot at len (PieceIs bytes)) r refl
  piece_leads slot at len PieceFailed = over_leads r point (DiskRead slot at len PieceFailed) DiskFault (broken r) refl refl
  piece_leads slot at len PieceNoMemory = same_leads r point (DiskRead slot at len PieceNoMemory) r refl

  wrote_leads : (slot at : ℕ) (bytes : List ℕ) (answer : Wrote) → Leads r point (DiskWrite slot at bytes answer) (wrote answer r)
  wrote_leads slot at bytes WroteDone = same_leads r point (DiskWrite slot at bytes WroteDone) (writing (drop 1 r.writes) r) (writing_point (drop 1 r.writes) r)
  wrote_leads slot at bytes WroteFailed = over_leads r point (DiskWrite slot at bytes WroteFailed) DiskFault (broken r) refl refl
  wrote_leads slot at bytes WroteNoMemory = same_leads r point (DiskWrite slot at bytes WroteNoMemory) r refl

  synced_leads : (slot : ℕ) (answer : Synced) → Leads r point (DiskSync slot answer) (synced answer r)
  synced_leads slot SyncDone = same_leads r point (DiskSync slot SyncDone) (writing (drop 1 r.writes) r) (writing_point (drop 1 r.writes) r)
  synced_leads slot SyncFailed = over_leads r point (DiskSync slot SyncFailed) DiskFault (broken r) refl refl

feed_leads : (r : Run) (event : Event) → Leads r r.point event (feed r event)
feed_leads r (Say bytes SayDone) = same_leads r r.point (Say bytes SayDone) (feed r (Say bytes SayDone)) refl
feed_leads r (Say bytes SayFailed) = over_leads r r.point (Say bytes SayFailed) SinkFault (goes_to (Over SinkFault) r) refl refl
feed_leads r (DiskLen slot answer) = len_leads r r.point slot answer
feed_leads r (DiskRead slot at len answer) = piece_leads r r.point slot at len answer
feed_leads r (DiskWrite slot at bytes answer) = wrote_leads r r.point slot at bytes answer
feed_leads r (DiskSync slot answer) = synced_leads r r.point slot answer
feed_leads r event = moved_leads r r.point event

-- ---- whole runs

-- a run that is over behind some events was so before, or one of them ended it
walk_ends : (r : Run) (es : List Event) (status : Status) → (after feed MayCome Free r es).point ≡ Over status → (r.point ≡ Over status) ⊎ Came (EndsBy status) r es
walk_ends r [] status over = inl over
walk_ends r (event ∷ es) status over = elim (walk_ends (feed r event) es status over) [
  | inl here ↦ elim (feed_leads r event status here) [ inl before ↦ inl before | inr by ↦ inr (0, event, refl, by) ]
  | inr later ↦ inr (suc later.0, later.1, later.2, later.3)
]

-- a run begins over only for words outside the table
begins_over : (o : Option Plan) (slots : ℕ → List ℕ) (status : Status) → (begin_with o slots).point ≡ Over status → (o ≡ None) × (Usage ≡ status)
begins_over (Some plan) slots status over = absurd (subst GoesOn over tt)
begins_over None slots status over = (refl, (let e : Over Usage ≡ Over status = over in cc))

ended_of : (words : List (List ℕ)) (slots : ℕ → List ℕ) (es : List Event) (status : Status) → ((begin words slots).point ≡ Over status) ⊎ Came (EndsBy status) (begin words slots) es → IsEndedBy words slots status es
ended_of words slots es status (inl over) =
    let begins = begins_over (plan_of words) slots status over in
    let P : Status → Type 0 = λ s. IsEndedBy words slots s es in
    subst P begins.1 begins.0
ended_of words slots es Usage (inr came) = absurd came.3
ended_of words slots es NoMemory (inr came) = tt
ended_of words slots es status (inr came) = came

-- each end of a run has its cause in the words or in an event
pub ended_by : (words : List (List ℕ)) (slots : ℕ → List ℕ) (status : Status) (es : List Event) → Ends status (after feed MayCome Free (begin words slots) es) → IsEndedBy words slots status es
ended_by words slots NoMemory es ends = tt
ended_by words slots status es ends = ended_of words slots es status (walk_ends (begin words slots) es status ends.point)

-- where nothing came by which a run ends early, it ends as it was asked to, or for want of memory
pub completes : (words : List (List ℕ)) (slots : ℕ → List ℕ) (status : Status) (es : List Event) → Ends status (after feed MayCome Free (begin words slots) es)
    → ((early : Status) → IsEarly early → IsEndedBy words slots early es → ⊥) → IsRegular status ⊎ (status ≡ NoMemory)
completes words slots Stopped es ends none = inl tt
completes words slots TurnsSpent es ends none = inl tt
completes words slots NoMemory es ends none = inr refl
completes words slots status es ends none = absurd (none status tt (ended_by words slots status es ends))
