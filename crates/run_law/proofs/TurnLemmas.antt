-- From the law alone: a run ends for its turns exactly where it has made as many pauses as it was asked for.
use Rattle.std.proofs.Common.{ℕ, zero, suc, ◌≡◌, ◌≢◌, ◌<◌, ◌≤◌, ◌+◌, ◌-◌, ◌++◌, ◌⊎◌, inl, inr, Bool, true, false, cond, List, [], ◌∷◌, Option, Some, None, Result, Ok, Err, refl, sym, ◌∙◌, subst, arith}
use Rattle.std.specs.Prelude.{drop, length, nat_lt, slice_get, option_map}
use Rattle.f2b_base.specs.declared.input.What.{What}
use Rattle.f2b_base.specs.declared.job.Job.{Job}
use Rattle.f2b_base.specs.declared.job.Outcome.{Outcome}
use Rattle.f2b_base.specs.declared.job.Outcome.TheVariants.{Status as EndedWith, NotStarted, TimedOut}
use Rattle.f2b_base.specs.declared.outside.TreeAnswer.{TreeAnswer}
use Rattle.f2b_base.specs.declared.outside.TreeAnswer.TheVariants.{Tree, Failed as TreeFailed, TooLarge as TreeTooLarge, NoMemory as TreeNoMemory}
use Rattle.f2b_world.specs.Told.{History, grown}
use Rattle.f2b_world.specs.Walks.{after, Along}
use Rattle.f2b_world.specs.declared.answer.Len.{Len}
use Rattle.f2b_world.specs.declared.answer.Len.TheVariants.{Bytes as LenIs, Failed as LenFailed}
use Rattle.f2b_world.specs.declared.answer.Listen.{Listen}
use Rattle.f2b_world.specs.declared.answer.Listen.TheVariants.{Listening, Failed as ListenFailed}
use Rattle.f2b_world.specs.declared.answer.Look.{Look}
use Rattle.f2b_world.specs.declared.answer.Look.TheVariants.{File, Absent, Failed as LookFailed, NoMemory as LookNoMemory}
use Rattle.f2b_world.specs.declared.answer.MakeAnswer.{MakeAnswer}
use Rattle.f2b_world.specs.declared.answer.MakeAnswer.TheVariants.{Built, Syntax as WasSyntax, TooBig as WasTooBig}
use Rattle.f2b_world.specs.declared.answer.Piece.{Piece}
use Rattle.f2b_world.specs.declared.answer.Piece.TheVariants.{Bytes as PieceIs, Failed as PieceFailed, NoMemory as PieceNoMemory}
use Rattle.f2b_world.specs.declared.answer.PollAnswer.{PollAnswer}
use Rattle.f2b_world.specs.declared.answer.PollAnswer.TheVariants.{Running, Ended as PollEnded, Failed as PollFailed}
use Rattle.f2b_world.specs.declared.answer.Said.TheVariants.{Done, Failed as SayFailed}
use Rattle.f2b_world.specs.declared.answer.Synced.{Synced}
use Rattle.f2b_world.specs.declared.answer.Synced.TheVariants.{Done as SyncDone, Failed as SyncFailed}
use Rattle.f2b_world.specs.declared.answer.Wrote.{Wrote}
use Rattle.f2b_world.specs.declared.answer.Wrote.TheVariants.{Done as WroteDone, Failed as WroteFailed, NoMemory as WroteNoMemory}
use Rattle.f2b_world.specs.declared.answer.StartAnswer.{StartAnswer}
use Rattle.f2b_world.specs.declared.answer.StartAnswer.TheVariants.{Started, Failed as StartFailed, NoMemory as StartNoMemory}
use Rattle.f2b_world.specs.declared.event.Event.{Event}
use Rattle.f2b_world.specs.declared.event.Event.TheVariants.{Say, DiskLen, DiskRead, DiskWrite, DiskSync, Make, Clock, Config, StoreAt, Names, Look as LookAt, ChildStart, ChildPoll, ChildKill, GateListen, GateAccept, GateRead, GateWrite, GateClose, Pause}
use Rattle.filter_regex.specs.declared.error.BuildKind.TheVariants.{Syntax, TooBig}
use Rattle.jail_conf.specs.Conf.{conf}
use Rattle.jail_conf.specs.declared.conf_error.ConfError.{ConfError}
use Rattle.jail_conf.specs.declared.settings.Settings.{Settings}
use Rattle.child_table.specs.Late.{is_late}
use Rattle.child_table.specs.declared.child.Child.{Child}
use Rattle.log_set.specs.Logs.{Watching, next_look}
use Rattle.client_table.specs.Clients.{asks_at, conn_at}
use Rattle.run_law.specs.Calls.{Call, AskKill, AskPoll, IsNext}
use Rattle.run_law.specs.Children.{checked_first, startable}
use Rattle.run_law.specs.Clock.{tick_news}
use Rattle.run_law.specs.Disk.{IsLoading, broken, measured, piece_read, synced, wrote}
use Rattle.run_law.specs.Law.{Free, Ends, IsOver, MayCome, call_behind, call_of, feed, moved, opening, point_call, turns}
use Rattle.reconcile.specs.Loads.{Loaded, loaded}
use Rattle.run_law.specs.Looks.{log_call, look_news, look_taken, looked, looked_at, now_is, unread_news}
use Rattle.run_law.specs.News.{News, after_news, brings, goes_to, refused, server_after, writing}
use Rattle.run_law.specs.Patterns.{Pattern, patterns_of}
use Rattle.run_law.specs.Paths.{Path, Naming, first_naming, named, with_paths}
use Rattle.run_law.specs.Pause.{paused, turned}
use Rattle.run_law.specs.Polls.{end_news, ended_as, gone, gone_passed, has_succeeded, killed_at, polled_at, still_point}
use Rattle.run_law.specs.Points.{Place, AtClock, AtLook, AtPoll, AtKill, AtAccept, AtClient, AtClose, Rereading, OfTree, OfMakes, OfNames, AtReload, AtStart, AtPause, Point, AtTree, AtMakes, AtStore, AtListen, AtFirst, AtNames, AtTurn, Over, Run}
use Rattle.run_law.specs.Refusals.{status_lines}
use Rattle.run_law.specs.Served.{CountsTurns, pauses_in}
use Rattle.run_law.specs.Server.{Server, begun, following, is_stopping, jobs, lanes_up, log_jails, read_at}
use Rattle.run_law.specs.Serving.{Onward, Service, closes, lets_in, point_on, reads, serves, with_clients, writes}
use Rattle.run_law.specs.Reading.{make_call, names_call, names_in, names_next, unread_by}
use Rattle.run_law.specs.Reload.{left_for, names_for, reload_news, reloaded, reloads, taken_for, tells_taken, tells_untaken, untaken_for}
use Rattle.run_law.specs.Start.{defined, first_turn, listened, loads, made, makes_on, start_news, to_makes, to_names, tree_read}
use Rattle.run_law.specs.Starts.{child_started, with_child, without_child}
use Rattle.run_law.specs.Turn.{at_pause, behind_client, is_drained, look_point, start_place, start_point, to_accept, to_children, to_end, to_logs, to_looks, to_polls, to_starts}
use Rattle.run_law.proofs.DiskLemmas.{next_behind, none_left}
use Rattle.run_law.proofs.NewsLemmas.{brings_plan, brings_point}
use Rattle.run_law.proofs.PointLemmas.{paid_call}
use Rattle.slot_writes.specs.Writes.{Write}
use Rattle.run_law.proofs.SaidLemmas.{pause_next}
use Rattle.run_law.proofs.ReadingLemmas.{makes_by, names_by, reload_none, tree_by}
use Rattle.run_law.proofs.ServingLemmas.{accept_point, asked_none, behind_point, onward_point}
use Rattle.run_law.specs.declared.plan.Plan.{Plan}
use Rattle.run_law.specs.declared.status.Status.{Status}
use Rattle.run_law.specs.declared.status.Status.TheVariants.{Stopped, TurnsSpent, WorkloadDone, Usage, ConfFault, ConfRefused, DiskFault, NotAJournal, JournalFull, GateFault, SinkFault, ConfTooLarge, PatternRefused, NumbersSpent, NoMemory}

-- ---- where the entries of a turn lead: to a place of it, with the same server, or to the end of an orderly stop, where it is drained

pub record IsOfTurn (point : Point) (s : Server) : Type 0 where
  pub place : Place
  pub is : (point ≡ AtTurn place s) ⊎ ((point ≡ Over Stopped) × (is_drained s ≡ true))

-- what holds at each place of the turn and at that end holds at the point
pub turn_by : (P : Point → Type 0) (point : Point) (s : Server) → IsOfTurn point s → ((place : Place) → P (AtTurn place s)) → P (Over Stopped) → P point
turn_by P point s turn each stopped = elim turn.is [ inl at ↦ subst P (sym at) (each turn.place) | inr over ↦ subst P (sym over.0) stopped ]

end_of_turn : (s : Server) → IsOfTurn (to_end s) s
unfolding to_end
end_of_turn s = by_drained (is_drained s) refl
  where
    by_drained : (drained : Bool) → is_drained s ≡ drained → IsOfTurn (cond drained (Over Stopped) (at_pause s)) s
    by_drained true is = record { place = AtPause; is = inr (refl, is) }
    by_drained false is = record { place = AtPause; is = inl refl }

start_of_turn : (o : Option Job) (s : Server) → IsOfTurn (start_point o s) s
start_of_turn (Some job) s = record { place = start_place s.now job (checked_first s.children (lanes_up s) (jobs s) job.id); is = inl refl }
start_of_turn None s = end_of_turn s

pub starts_of_turn : (s : Server) → IsOfTurn (to_starts s) s
unfolding to_starts
starts_of_turn s = start_of_turn (startable s.now s.children (jobs s)) s

pub place_of_turn : (place : Place) (s : Server) → IsOfTurn (AtTurn place s) s
place_of_turn place s = record { place = place; is = inl refl }

pub onward_of_turn : (o : Onward) (s : Server) → IsOfTurn (point_on o s) s
onward_of_turn o s = onward_point (λ p. IsOfTurn p s) s (λ i. place_of_turn (AtClient i) s) (λ i. place_of_turn (AtClose i) s) (starts_of_turn s)
    (λ i. place_of_turn (AtReload OfTree i) s) o

pub behind_of_turn : (i : ℕ) (s : Server) → IsOfTurn (behind_client i s) s
behind_of_turn i s = behind_point (λ p. IsOfTurn p s) s (λ j. place_of_turn (AtClient j) s) (λ j. place_of_turn (AtClose j) s) (starts_of_turn s) i

accept_of_turn : (s : Server) → IsOfTurn (to_accept s) s
accept_of_turn s = accept_point (λ p. IsOfTurn p s) s (λ i. place_of_turn (AtClient i) s) (λ i. place_of_turn (AtClose i) s) (starts_of_turn s) (place_of_turn AtAccept s)

poll_of_turn : (more : Bool) (i : ℕ) (s : Server) → IsOfTurn (cond more (AtTurn (AtPoll i) s) (to_accept s)) s
poll_of_turn true i s = place_of_turn (AtPoll i) s
poll_of_turn false i s = accept_of_turn s

pub polls_of_turn : (i : ℕ) (s : Server) → IsOfTurn (to_polls i s) s
polls_of_turn i s = poll_of_turn (nat_lt i (length s.children.running)) i s

pub still_of_turn : (late : Bool) (i : ℕ) (s : Server) → IsOfTurn (still_point late i s) s
still_of_turn true i s = place_of_turn (AtKill i) s
still_of_turn false i s = polls_of_turn (i + 1) s

children_of_turn : (s : Server) → IsOfTurn (to_children s) s
unfolding to_children
children_of_turn s = polls_of_turn 0 s

look_of_turn : (o : Option ℕ) (s : Server) → IsOfTurn (look_point o s) s
look_of_turn (Some i) s = place_of_turn (AtLook i) s
look_of_turn None s = children_of_turn s

pub looks_of_turn : (i : ℕ) (s : Server) → IsOfTurn (to_looks i s) s
looks_of_turn i s = look_of_turn (next_look i (log_jails s) s.logs) s

either_of_turn : (stopping : Bool) (s : Server) → IsOfTurn (cond stopping (to_children s) (to_looks 0 s)) s
either_of_turn true s = children_of_turn s
either_of_turn false s = looks_of_turn 0 s

pub logs_of_turn : (s : Server) → IsOfTurn (to_logs s) s
unfolding to_logs
logs_of_turn s = either_of_turn (is_stopping s) s

-- ---- how many pauses fit a point

-- so many were made: with the turns that are left they are all turns, and some turn is left
abbrev FitsPoint : ℕ → ℕ → Point → Type 0
FitsPoint all made (AtNames settings naming s) = (made ≡ 0) × (s.left ≡ all)
FitsPoint all made (AtTurn place s) = (made + s.left ≡ all) × (1 ≤ s.left)
FitsPoint all made (Over TurnsSpent) = made ≡ all
FitsPoint all made (Over status) = made < all
FitsPoint all made _ = made ≡ 0

-- where the turns are spent nothing is left to say or to write
abbrev IsPaid : Point → List (List ℕ) → List Write → Type 0
IsPaid (Over TurnsSpent) owed writes = (owed ≡ []) × (writes ≡ [])
IsPaid _ owed writes = Unit {0}

record Fits (all made : ℕ) (r : Run) : Type 0 where
  pub plan : r.plan.turns ≡ all
  pub point : FitsPoint all made r.point
  pub paid : IsPaid r.point r.owed r.writes

-- so many pauses fit the point, whatever is owed there
abbrev FitsFree : ℕ → ℕ → Point → Type 0
FitsFree all made p = FitsPoint all made p × ((owed : List (List ℕ)) (writes : List Write) → IsPaid p owed writes)

-- a run that is over before its turns are spent
less : (all made left : ℕ) → made + left ≡ all → 1 ≤ left → made < all
less all made left sum some = omega (arith, sum, some)

-- a place of a turn fits as another one of the same turn does
of_turn : (all made : ℕ) (point : Point) (s : Server) → IsOfTurn point s → made + s.left ≡ all → 1 ≤ s.left → FitsFree all made point
of_turn all made point s turn sum some = turn_by (FitsFree all made) point s turn (λ place. ((sum, some), λ owed writes. tt)) (less all made s.left sum some, λ owed writes. tt)

-- an input takes no turn
same_left : (o : Option What) (s : Server) → (server_after o s).left ≡ s.left
same_left None s = refl
same_left (Some what) s = refl

-- what an event brings leads to its point, or the run is over
brings_fits : (all made : ℕ) (r : Run) (news : News) (next : Server → Point) (s : Server) → r.plan.turns ≡ all → made < all → FitsFree all made (next (after_news news s)) → Fits all made (brings news next s r)
brings_fits all made r news next s plan sooner goes =
    let at = brings_point (FitsFree all made) (λ need limit. (sooner, λ owed writes. tt)) (sooner, λ owed writes. tt) news next s r goes in
    record {
      plan = (let P : Plan → Type 0 = λ p. p.turns ≡ all in subst P (sym (brings_plan news next s r)) plan);
      point = at.0;
      paid = at.1 _ _;
    }

-- ---- the start

module _ (all : ℕ) (some : 1 ≤ all) (r : Run) (plan : r.plan.turns ≡ all) where
  refused_fits : (status : Status) → FitsPoint all 0 (Over status) → IsPaid (Over status) (r.owed ++ status_lines 0 status) r.writes → Fits all 0 (refused 0 status r)
  refused_fits status point paid = record { plan = plan; point = point; paid = paid }

  early : 0 < all
  early = omega (arith, some)

  makes_fits : (settings : Settings) (left : List Pattern) → Fits all 0 (goes_to (to_makes settings left) r)
  makes_fits settings [] = record { plan = plan; point = refl; paid = tt }
  makes_fits settings (p ∷ ps) = record { plan = plan; point = refl; paid = tt }

  defined_fits : (o : Result Settings ConfError) → Fits all 0 (defined o r)
  defined_fits (Ok settings) = makes_fits settings (patterns_of settings.defs)
  defined_fits (Err error) = refused_fits (ConfRefused error) early tt

  tree_fits : (answer : TreeAnswer) → Fits all 0 r → Fits all 0 (tree_read answer r)
  tree_fits (Tree tree) fits = defined_fits (conf tree)
  tree_fits TreeFailed fits = refused_fits ConfFault early tt
  tree_fits TreeTooLarge fits = refused_fits ConfTooLarge early tt
  tree_fits TreeNoMemory fits = fits

  made_fits : (answer : MakeAnswer) (settings : Settings) (p : Pattern) (ps : List Pattern) → Fits all 0 (made answer settings p ps r)
  made_fits Built settings p ps = makes_fits settings ps
  made_fits WasSyntax settings p ps = refused_fits (PatternRefused p.jail p.place Syntax) early tt
  made_fits WasTooBig settings p ps = refused_fits (PatternRefused p.jail p.place TooBig) early tt

  on_fits : (left : List Pattern) (answer : MakeAnswer) (settings : Settings) → Fits all 0 r → Fits all 0 (makes_on left answer settings r)
  on_fits [] answer settings fits = fits
  on_fits (p ∷ ps) answer settings fits = made_fits answer settings p ps

  listened_fits : (answer : Listen) (settings : Settings) (l : Loaded) → Fits all 0 (listened answer settings l r)
  listened_fits Listening settings l = record { plan = plan; point = refl; paid = tt }
  listened_fits ListenFailed settings l = refused_fits GateFault early tt

  loads_fits : (o : Result Loaded (ℕ × ℕ)) (settings : Settings) → Fits all 0 (loads o settings r)
  loads_fits (Ok l) settings = record { plan = plan; point = refl; paid = tt }
  loads_fits (Err place) settings = refused_fits (NotAJournal place.0 place.1) early tt

  first_fits : (news : News) (s : Server) → s.left ≡ all → Fits all 0 (brings news first_turn s r)
  first_fits news s left =
      let same : (after_news news s).left ≡ all = same_left news.what s ∙ left in
      brings_fits all 0 r news first_turn s plan early ((omega (arith, same), omega (arith, some, same)), λ owed writes. tt)

  named_fits : (news : News) (settings : Settings) (naming : Naming) (s : Server) → s.left ≡ all → Fits all 0 (brings news (AtNames settings naming) s r)
  named_fits news settings naming s left = brings_fits all 0 r news (AtNames settings naming) s plan early ((refl, same_left news.what s ∙ left), λ owed writes. tt)

  names_fits : (before : List (List ℕ)) (settings : Settings) (naming : Naming) (left : List Path) (s : Server) → s.left ≡ all → Fits all 0 (to_names before settings naming left s r)
  names_fits before settings naming [] s is = first_fits (start_news before (with_paths settings.defs naming.found) s) s is
  names_fits before settings naming (p ∷ ps) s is = named_fits (record { before = before; what = None; behind = [] }) settings naming s is

-- ---- a turn

module _ (all made : ℕ) (r : Run) (plan : r.plan.turns ≡ all) (s : Server) (sum : made + s.left ≡ all) (some : 1 ≤ s.left) where
  sooner : made < all
  sooner = omega (arith, sum, some)

  -- what is brought for a server with as many turns left
  turn_fits : (news : News) (next : Server → Point) (t : Server) → ((u : Server) → IsOfTurn (next u) u) → t.left ≡ s.left → Fits all made (brings news next t r)
  turn_fits news next t turn left =
      let u = after_news news t in
      let same : u.left ≡ s.left = same_left news.what t ∙ left in
      brings_fits all made r news next t plan sooner (of_turn all made (next u) u (turn u) (omega (arith, sum, same)) (omega (arith, some, same)))

  -- the run only goes on, to a server with as many turns left
  plain_fits : (point : Point) (t : Server) → IsOfTurn point t → t.left ≡ s.left → Fits all made (goes_to point r)
  plain_fits point t turn left =
      let P : Point → Type 0 = λ p. Fits all made (goes_to p r) in
      turn_by P point t turn (λ place. record { plan = plan; point = (omega (arith, sum, left), omega (arith, some, left)); paid = tt }) (record { plan = plan; point = sooner; paid = tt })

  serves_fits : (x : Service) → Fits all made (serves x s r)
  serves_fits x = turn_fits x.news (point_on x.onward) (with_clients x.clients s) (onward_of_turn x.onward) refl

  looked_fits : (answer : Look) (l : Watching) (i : ℕ) → Fits all made r → Fits all made (looked answer l i s r)
  looked_fits (File file) l i fits = turn_fits (look_news s.now l (look_taken s l file)) (to_looks (i + 1)) (now_is i l file s) (looks_of_turn (i + 1)) refl
  looked_fits Absent l i fits = plain_fits (to_looks (i + 1) s) s (looks_of_turn (i + 1) s) refl
  looked_fits LookFailed l i fits = turn_fits (unread_news s l) (to_looks (i + 1)) s (looks_of_turn (i + 1)) refl
  looked_fits LookNoMemory l i fits = fits

  looked_at_fits : (o : Option Watching) (answer : Look) (i : ℕ) → Fits all made r → Fits all made (looked_at o answer i s r)
  looked_at_fits None answer i fits = fits
  looked_at_fits (Some l) answer i fits = looked_fits answer l i fits

  ended_fits : (passed : Bool) (outcome : Outcome) (c : Child) (i : ℕ) → Fits all made (ended_as passed outcome c i s r)
  ended_fits true outcome c i = plain_fits (to_polls i (gone_passed c.job i s)) (gone_passed c.job i s) (polls_of_turn i (gone_passed c.job i s)) refl
  ended_fits false outcome c i = turn_fits (end_news c outcome) (to_polls i) (gone i s) (polls_of_turn i) refl

  polled_fits : (o : Option Child) (answer : PollAnswer) (i : ℕ) → Fits all made r → Fits all made (polled_at o answer i s r)
  polled_fits None answer i fits = fits
  polled_fits (Some c) (PollEnded status) i fits = ended_fits (has_succeeded c.task (EndedWith status)) (EndedWith status) c i
  polled_fits (Some c) Running i fits = plain_fits (still_point (is_late s.now c) i s) s (still_of_turn (is_late s.now c) i s) refl
  polled_fits (Some c) PollFailed i fits = plain_fits (still_point (is_late s.now c) i s) s (still_of_turn (is_late s.now c) i s) refl

  killed_fits : (o : Option Child) (i : ℕ) → Fits all made r → Fits all made (killed_at o i s r)
  killed_fits None i fits = fits
  killed_fits (Some c) i fits = ended_fits (has_succeeded c.task TimedOut) TimedOut c i

  started_fits : (answer : StartAnswer) (c : Child) → Fits all made r → Fits all made (child_started answer c s r)
  started_fits Started c fits = plain_fits (to_starts (with_child c s)) (with_child c s) (starts_of_turn (with_child c s)) refl
  started_fits StartFailed c fits = turn_fits (end_news c NotStarted) to_starts (without_child c s) starts_of_turn refl
  started_fits StartNoMemory c fits = fits

  -- with the logs of the jails that there are then
  follows_fits : (news : News) (i : ℕ) (t : Server) → t.left ≡ s.left → Fits all made (brings news (reloaded i) t r)
  follows_fits news i t left =
      let u = after_news news t in
      let same : u.left ≡ s.left = same_left news.what t ∙ left in
      brings_fits all made r news (reloaded i) t plan sooner (of_turn all made (reloaded i u) (following u) (behind_of_turn i (following u)) (omega (arith, sum, same)) (omega (arith, some, same)))

  renames_fit : (before : List (List ℕ)) (settings : Settings) (naming : Naming) (left : List Path) (i : ℕ) → Fits all made (names_next (names_for i) (taken_for i) before settings naming left s r)
  renames_fit before settings naming left i = names_by (λ (x : Run). Fits all made x) (names_for i) (taken_for i) s r
      (λ lines defined at. turn_fits (record { before = lines; what = None; behind = [] }) (names_for i defined at) s (λ u. place_of_turn (AtReload (OfNames defined at) i) u) refl)
      (λ lines defs. follows_fits (reload_news lines defs s) i (tells_taken i s) refl) before settings naming left

  left_fits : (i : ℕ) (settings : Settings) (ps : List Pattern) → Fits all made (left_for i s settings ps r)
  left_fits i settings [] = renames_fit [] settings (first_naming settings.defs) (first_naming settings.defs).left i
  left_fits i settings (p ∷ ps) = let place : Place = AtReload (OfMakes settings (p ∷ ps)) i in plain_fits (AtTurn place s) s (place_of_turn place s) refl

  untaken_fits : (i : ℕ) (status : Status) → Fits all made (untaken_for i s status r)
  untaken_fits i status = serves_fits (tells_untaken status i s)

  reloads_fit : (reading : Rereading) (event : Event) (i : ℕ) → Fits all made r → Fits all made (reloads reading event i s r)
  reloads_fit OfTree (Config root answer) i fits =
      tree_by (λ (x : Run). Fits all made x) (left_for i s) (untaken_for i s) r (left_fits i) (λ status is. untaken_fits i status) fits answer
  reloads_fit (OfMakes settings left) (Make text answer) i fits =
      makes_by (λ (x : Run). Fits all made x) (left_for i s) (untaken_for i s) r (left_fits i) (λ status is. untaken_fits i status) fits left answer settings
  reloads_fit (OfNames settings naming) (Names dir answer) i fits =
      let next = named (names_in answer) naming in renames_fit (unread_by answer s.now naming.left) settings next next.left i
  reloads_fit _ _ i fits = fits

  turned_fits : (n : ℕ) → s.left ≡ suc n → (r.owed ≡ []) × (r.writes ≡ []) → Fits all (suc made) (goes_to (turned n s) r)
  turned_fits zero left paid = record { plan = plan; point = omega (arith, sum, left); paid = paid }
  turned_fits (suc n) left paid = record { plan = plan; point = (omega (arith, sum, left), omega arith); paid = tt }

  paused_fits : (r.owed ≡ []) × (r.writes ≡ []) → Fits all (suc made) (paused s r)
  paused_fits paid = let same : s.left ≡ suc (s.left - 1) = omega (arith, some) in turned_fits (s.left - 1) same paid

-- ---- one event

-- an event that is no pause
abbrev IsNoPause : Event → Type 0
IsNoPause (Pause ms) = ⊥
IsNoPause _ = Unit {0}

sooner_of : (all made : ℕ) (s : Server) → made + s.left ≡ all → 1 ≤ s.left → made < all
sooner_of all made s sum some = omega (arith, sum, some)

-- pauses so far, behind an event
abbrev pauses_after : ℕ → Event → ℕ
pauses_after made (Pause ms) = suc made
pauses_after made _ = made

names_no_pause : (left : List Path) (ms : ℕ) → IsNext (names_call left) (Pause ms) → ⊥
names_no_pause [] ms next = next
names_no_pause (p ∷ ps) ms next = next

makes_no_pause : (left : List Pattern) (ms : ℕ) → IsNext (make_call left) (Pause ms) → ⊥
makes_no_pause [] ms next = next
makes_no_pause (p ∷ ps) ms next = next

look_no_pause : (o : Option Watching) (ms : ℕ) → IsNext (option_map log_call o) (Pause ms) → ⊥
look_no_pause None ms next = next
look_no_pause (Some l) ms next = next

poll_no_pause : (o : Option Child) (ms : ℕ) → IsNext (option_map (λ (c : Child). AskPoll c.job) o) (Pause ms) → ⊥
poll_no_pause None ms next = next
poll_no_pause (Some c) ms next = next

kill_no_pause : (o : Option Child) (ms : ℕ) → IsNext (option_map (λ (c : Child). AskKill c.job) o) (Pause ms) → ⊥
kill_no_pause None ms next = next
kill_no_pause (Some c) ms next = next

-- a pause is the last call of a turn
pause_fits : (all made : ℕ) (r : Run) (p : Point) (ms : ℕ) → r.plan.turns ≡ all → FitsPoint all made p → (r.owed ≡ []) × (r.writes ≡ []) → IsNext (point_call r.plan p) (Pause ms)
    → Fits all (suc made) (moved p (Pause ms) r)
pause_fits all made r AtTree ms plan point paid next = absurd next
pause_fits all made r (AtMakes settings left) ms plan point paid next = absurd (makes_no_pause left ms next)
pause_fits all made r (AtStore settings) ms plan point paid next = absurd next
pause_fits all made r (AtListen settings l) ms plan point paid next = absurd next
pause_fits all made r (AtFirst settings l) ms plan point paid next = absurd next
pause_fits all made r (AtNames settings naming s) ms plan point paid next = absurd (names_no_pause naming.left ms next)
pause_fits all made r (AtTurn AtClock s) ms plan point paid next = absurd next
pause_fits all made r (AtTurn (AtLook i) s) ms plan point paid next = absurd (look_no_pause (slice_get s.logs i) ms next)
pause_fits all made r (AtTurn (AtPoll i) s) ms plan point paid next = absurd (poll_no_pause (slice_get s.children.running i) ms next)
pause_fits all made r (AtTurn (AtKill i) s) ms plan point paid next = absurd (kill_no_pause (slice_get s.children.running i) ms next)
pause_fits all made r (AtTurn AtAccept s) ms plan point paid next = absurd next
pause_fits all made r (AtTurn (AtClient i) s) ms plan point paid next = absurd (asked_none (Pause ms) (conn_at i s.clients) (asks_at i s.clients) (λ bytes is. is) (λ most is. is) next)
pause_fits all made r (AtTurn (AtClose i) s) ms plan point paid next = absurd next
pause_fits all made r (AtTurn (AtReload reading i) s) ms plan point paid next = absurd (reload_none (Pause ms) (λ root is. is) (λ text is. is) (λ dir is. is) r.plan reading next)
pause_fits all made r (AtTurn (AtStart c text) s) ms plan point paid next = absurd next
pause_fits all made r (AtTurn AtPause s) ms plan point paid next = paused_fits all made r plan s point.0 point.1 paid
pause_fits all made r (Over status) ms plan point paid next = absurd next

turns_fit : (all made : ℕ) (r : Run) (place : Place) (s : Server) (event : Event) → r.plan.turns ≡ all → FitsPoint all made (AtTurn place s) → Fits all made r → IsNoPause event → Fits all made (turns place event s r)
turns_fit all made r AtClock s (Clock answer) plan point fits plain =
    let t = read_at answer s in turn_fits all made r plan s point.0 point.1 (tick_news t) to_logs t logs_of_turn refl
turns_fit all made r (AtLook i) s (LookAt path head from max answer) plan point fits plain = looked_at_fits all made r plan s point.0 point.1 (slice_get s.logs i) answer i fits
turns_fit all made r (AtPoll i) s (ChildPoll job answer) plan point fits plain = polled_fits all made r plan s point.0 point.1 (slice_get s.children.running i) answer i fits
turns_fit all made r (AtKill i) s (ChildKill job) plan point fits plain = killed_fits all made r plan s point.0 point.1 (slice_get s.children.running i) i fits
turns_fit all made r AtAccept s (GateAccept answer) plan point fits plain = serves_fits all made r plan s point.0 point.1 (lets_in answer s)
turns_fit all made r (AtClient i) s (GateRead conn max answer) plan point fits plain = serves_fits all made r plan s point.0 point.1 (reads answer i s)
turns_fit all made r (AtClient i) s (GateWrite conn bytes answer) plan point fits plain = serves_fits all made r plan s point.0 point.1 (writes answer i s)
turns_fit all made r (AtClose i) s (GateClose conn) plan point fits plain = serves_fits all made r plan s point.0 point.1 (closes i s)
turns_fit all made r (AtReload reading i) s event plan point fits plain = reloads_fit all made r plan s point.0 point.1 reading event i fits
turns_fit all made r (AtStart c text) s (ChildStart job command answer) plan point fits plain = started_fits all made r plan s point.0 point.1 answer c fits
turns_fit all made r AtPause s (Pause ms) plan point fits plain = absurd plain
turns_fit all made r _ s _ plan point fits plain = fits

-- where the start has made no pause
at_none : (all made : ℕ) (r t : Run) → made ≡ 0 → Fits all made r → (Fits all 0 r → Fits all 0 t) → Fits all made t
at_none all made r t none fits more =
    let P : ℕ → Type 0 = λ n. Fits all n r in
    let Q : ℕ → Type 0 = λ n. Fits all n t in
    subst Q (sym none) (more (subst P none fits))

moved_fits : (all made : ℕ) (some : 1 ≤ all) (r : Run) (p : Point) (event : Event) → r.plan.turns ≡ all → FitsPoint all made p → Fits all made r → IsNoPause event → Fits all made (moved p event r)
moved_fits all made some r AtTree (Config root answer) plan point fits plain = at_none all made r _ point fits (λ f. tree_fits all some r plan answer f)
moved_fits all made some r (AtMakes settings left) (Make text answer) plan point fits plain = at_none all made r _ point fits (λ f. on_fits all some r plan left answer settings f)
moved_fits all made some r (AtStore settings) (StoreAt socket answer) plan point fits plain = at_none all made r _ point fits (λ f. loads_fits all some r plan (loaded r.plan.limit r.slots) settings)
moved_fits all made some r (AtListen settings l) (GateListen socket answer) plan point fits plain = at_none all made r _ point fits (λ f. listened_fits all some r plan answer settings l)
moved_fits all made some r (AtFirst settings l) (Clock answer) plan point fits plain =
    at_none all made r _ point fits (λ f. names_fits all some r plan [] settings (first_naming settings.defs) (first_naming settings.defs).left (begun r.plan.turns l answer) plan)
moved_fits all made some r (AtNames settings naming s) (Names dir answer) plan point fits plain =
    let next = named (names_in answer) naming in
    at_none all made r _ point.0 fits (λ f. names_fits all some r plan (unread_by answer s.now naming.left) settings next next.left s point.1)
moved_fits all made some r (AtTurn place s) event plan point fits plain = turns_fit all made r place s event plan point fits plain
moved_fits all made some r _ _ plan point fits plain = fits

-- a run whose turns are not spent made fewer pauses
fewer : (all made : ℕ) (some : 1 ≤ all) (p : Point) → (p ≡ Over TurnsSpent → ⊥) → FitsPoint all made p → made < all
fewer all made some AtTree other point = omega (arith, some, point)
fewer all made some (AtMakes settings left) other point = omega (arith, some, point)
fewer all made some (AtStore settings) other point = omega (arith, some, point)
fewer all made some (AtListen settings l) other point = omega (arith, some, point)
fewer all made some (AtFirst settings l) other point = omega (arith, some, point)
fewer all made some (AtNames settings naming s) other point = let none : made ≡ 0 = point.0 in omega (arith, some, none)
fewer all made some (AtTurn place s) other point = sooner_of all made s point.0 point.1
fewer all made some (Over TurnsSpent) other point = absurd (other refl)
fewer all made some (Over Stopped) other point = point
fewer all made some (Over WorkloadDone) other point = point
fewer all made some (Over Usage) other point = point
fewer all made some (Over ConfFault) other point = point
fewer all made some (Over (ConfRefused error)) other point = point
fewer all made some (Over DiskFault) other point = point
fewer all made some (Over (NotAJournal slot at)) other point = point
fewer all made some (Over (JournalFull need limit)) other point = point
fewer all made some (Over GateFault) other point = point
fewer all made some (Over SinkFault) other point = point
fewer all made some (Over ConfTooLarge) other point = point
fewer all made some (Over (PatternRefused jail place kind)) other point = point
fewer all made some (Over NumbersSpent) other point = point
fewer all made some (Over NoMemory) other point = point

-- where the turns are spent no call comes next
spent_quiet : (plan : Plan) (p : Point) (owed : List (List ℕ)) (writes : List Write) (event : Event) → IsPaid p owed writes → IsNext (call_behind writes (call_of plan p owed)) event → p ≡ Over TurnsSpent → ⊥
spent_quiet plan p owed writes event paid next is =
    let P : Point → Type 0 = λ q. IsPaid q owed writes in
    let none : IsPaid (Over TurnsSpent) owed writes = subst P is paid in
    let Q : Point → Type 0 = λ q. IsNext (call_behind writes (call_of plan q owed)) event in
    let O : List (List ℕ) → Type 0 = λ ls. IsNext (call_behind writes (call_of plan (Over TurnsSpent) ls)) event in
    let W : List Write → Type 0 = λ ws. IsNext (call_behind ws (call_of plan (Over TurnsSpent) [])) event in
    subst W none.1 (subst O none.0 (subst Q is next))

-- nor is a slot read
loading_fewer : (p : Point) (owed : List (List ℕ)) → IsLoading p owed → p ≡ Over TurnsSpent → ⊥
loading_fewer p owed loading is = let P : Point → Type 0 = λ q. IsLoading q owed in subst P is loading

paid_none : (p : Point) (writes : List Write) → (p ≡ Over TurnsSpent → ⊥) → (owed : List (List ℕ)) → IsPaid p owed writes
paid_none (Over TurnsSpent) writes other owed = absurd (other refl)
paid_none _ writes other owed = tt

-- ---- a call on the disk

module _ (all made : ℕ) (some : 1 ≤ all) (r : Run) (fits : Fits all made r) (other : r.point ≡ Over TurnsSpent → ⊥) where
  broken_fits : Fits all made (broken r)
  broken_fits = record { plan = fits.plan; point = fewer all made some r.point other fits.point; paid = tt }

  writing_fits : (ws : List Write) → Fits all made (writing ws r)
  writing_fits [] = record { plan = fits.plan; point = fits.point; paid = paid_none r.point [] other (r.owed ++ r.held) }
  writing_fits (w ∷ ws) = record { plan = fits.plan; point = fits.point; paid = paid_none r.point (w ∷ ws) other r.owed }

  measured_fits : (answer : Len) → Fits all made (measured answer r)
  measured_fits (LenIs n) = fits
  measured_fits LenFailed = broken_fits

  piece_fits : (answer : Piece) → Fits all made (piece_read answer r)
  piece_fits (PieceIs bytes) = fits
  piece_fits PieceFailed = broken_fits
  piece_fits PieceNoMemory = fits

  wrote_fits : (answer : Wrote) → Fits all made (wrote answer r)
  wrote_fits WroteDone = writing_fits (drop 1 r.writes)
  wrote_fits WroteFailed = broken_fits
  wrote_fits WroteNoMemory = fits

  synced_fits : (answer : Synced) → Fits all made (synced answer r)
  synced_fits SyncDone = writing_fits (drop 1 r.writes)
  synced_fits SyncFailed = broken_fits

step_fits : (all made : ℕ) (some : 1 ≤ all) (r : Run) (event : Event) → Fits all made r → MayCome r event → Fits all (pauses_after made event) (feed r event)
step_fits all made some r (Say bytes Done) fits may =
    let other = spent_quiet r.plan r.point r.owed r.writes (Say bytes Done) fits.paid may in
    record { plan = fits.plan; point = fits.point; paid = paid_none r.point r.writes other [] }
step_fits all made some r (Say bytes SayFailed) fits may =
    let other = spent_quiet r.plan r.point r.owed r.writes (Say bytes SayFailed) fits.paid may in
    record { plan = fits.plan; point = fewer all made some r.point other fits.point; paid = tt }
step_fits all made some r (DiskLen slot answer) fits may = measured_fits all made some r fits (loading_fewer r.point r.owed may.0) answer
step_fits all made some r (DiskRead slot at len answer) fits may = piece_fits all made some r fits (loading_fewer r.point r.owed may.0) answer
step_fits all made some r (DiskWrite slot at bytes WroteNoMemory) fits may = absurd may
step_fits all made some r (DiskWrite slot at bytes answer) fits may = wrote_fits all made some r fits (spent_quiet r.plan r.point r.owed r.writes (DiskWrite slot at bytes answer) fits.paid may.0) answer
step_fits all made some r (DiskSync slot answer) fits may = synced_fits all made some r fits (spent_quiet r.plan r.point r.owed r.writes (DiskSync slot answer) fits.paid may.0) answer
step_fits all made some r (Pause ms) fits may =
    let next = next_behind r.writes (call_of r.plan r.point r.owed) (Pause ms) tt may in
    let written = none_left r.writes (call_of r.plan r.point r.owed) (Pause ms) tt may in
    let paid = pause_next r.plan r.point r.owed ms next in
    let P : List (List ℕ) → Type 0 = λ ls. IsNext (call_of r.plan r.point ls) (Pause ms) in
    let Q : Option Call → Type 0 = λ c. IsNext c (Pause ms) in
    pause_fits all made r r.point ms fits.plan fits.point (paid, written) (subst Q (paid_call r.plan r.point) (subst P paid next))
step_fits all made some r event fits may = moved_fits all made some r r.point event fits.plan fits.point fits tt

-- ---- whole runs

made_after : ℕ → List Event → ℕ
made_after made [] = made
made_after made (event ∷ es) = made_after (pauses_after made event) es

walk : (all made : ℕ) (some : 1 ≤ all) (r : Run) (g : History) (es : List Event) → Fits all made r → Along feed MayCome Free r g es → Fits all (made_after made es) (after feed MayCome Free r es)
unfolding made_after
walk all made some r g [] fits along = fits
walk all made some r g (event ∷ es) fits along =
    walk all (pauses_after made event) some (feed r event) (grown g (event ∷ [])) es (step_fits all made some r event fits along.0.allowed) along.1

event_counts : (made : ℕ) (event : Event) (es : List Event) → pauses_after made event + pauses_in es ≡ made + pauses_in (event ∷ es)
event_counts made (Pause ms) es = omega arith
event_counts made _ es = refl

counted : (made : ℕ) (es : List Event) → made_after made es ≡ made + pauses_in es
unfolding made_after
counted made [] = omega arith
counted made (event ∷ es) = counted (pauses_after made event) es ∙ event_counts made event es

over_fits : (all made : ℕ) (status : Status) → status ≢ TurnsSpent → FitsPoint all made (Over status) → made < all
over_fits all made TurnsSpent other point = absurd (other refl)
over_fits all made Stopped other point = point
over_fits all made WorkloadDone other point = point
over_fits all made Usage other point = point
over_fits all made ConfFault other point = point
over_fits all made (ConfRefused error) other point = point
over_fits all made DiskFault other point = point
over_fits all made (NotAJournal slot at) other point = point
over_fits all made (JournalFull need limit) other point = point
over_fits all made GateFault other point = point
over_fits all made SinkFault other point = point
over_fits all made ConfTooLarge other point = point
over_fits all made (PatternRefused jail place kind) other point = point
over_fits all made NumbersSpent other point = point
over_fits all made NoMemory other point = point

ends_over : (status : Status) (r : Run) → status ≢ NoMemory → Ends status r → r.point ≡ Over status
ends_over NoMemory r loud ends = absurd (loud refl)
ends_over Stopped r loud ends = ends.point
ends_over TurnsSpent r loud ends = ends.point
ends_over WorkloadDone r loud ends = ends.point
ends_over Usage r loud ends = ends.point
ends_over ConfFault r loud ends = ends.point
ends_over (ConfRefused error) r loud ends = ends.point
ends_over DiskFault r loud ends = ends.point
ends_over (NotAJournal slot at) r loud ends = ends.point
ends_over (JournalFull need limit) r loud ends = ends.point
ends_over GateFault r loud ends = ends.point
ends_over SinkFault r loud ends = ends.point
ends_over ConfTooLarge r loud ends = ends.point
ends_over (PatternRefused jail place kind) r loud ends = ends.point
ends_over NumbersSpent r loud ends = ends.point

-- a run that was planned ends for its turns exactly where it has made as many pauses
pub counts_turns : (plan : Plan) (slots : ℕ → List ℕ) (status : Status) (g : History) (es : List Event) → 1 ≤ plan.turns → Along feed MayCome Free (opening plan slots) g es → Ends status (after feed MayCome Free (opening plan slots) es)
    → CountsTurns plan.turns status es
counts_turns plan slots status g es some along ends =
    let all = plan.turns in
    let first : Fits all 0 (opening plan slots) = record { plan = refl; point = refl; paid = tt } in
    let last = walk all 0 some (opening plan slots) g es first along in
    let made : made_after 0 es ≡ pauses_in es = counted 0 es ∙ omega arith in
    let P : Point → Type 0 = λ p. FitsPoint all (made_after 0 es) p in
    record {
      spent = λ is.
          let Q : Status → Type 0 = λ s. Ends s (after feed MayCome Free (opening plan slots) es) in
          let over : IsOver TurnsSpent (after feed MayCome Free (opening plan slots) es) = subst Q is ends in
          let all_made : made_after 0 es ≡ all = subst P over.point last.point in
          sym made ∙ all_made;
      sooner = λ other loud.
          let fewer_made : made_after 0 es < all = over_fits all (made_after 0 es) status other (subst P (ends_over status (after feed MayCome Free (opening plan slots) es) loud ends) last.point) in
          omega (arith, fewer_made, made);
    }
