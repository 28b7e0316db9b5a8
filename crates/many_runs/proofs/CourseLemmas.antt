-- Along a run that begins on a view: its state is the one behind its inputs, and those that a stop may keep can be stored.
use Rattle.std.proofs.Common.{ℕ, zero, suc, ◌≡◌, ◌+◌, ◌-◌, ◌⊎◌, inl, inr, Bool, true, false, List, [], ◌∷◌, ◌++◌, Option, Some, None, Result, Ok, Err, refl, sym, ap, ◌∙◌, append-nil, subst}
use Rattle.std.specs.Prelude.{IfSome, drop, option_to_list, slice_get}
use Rattle.std.proofs.lemmas.Option.{same_Some}
use Rattle.f2b_base.specs.declared.input.Input.{Input}
use Rattle.f2b_base.specs.declared.input.What.{What}
use Rattle.f2b_base.specs.declared.job.Outcome.{Outcome}
use Rattle.f2b_base.specs.declared.job.Outcome.TheVariants.{Status as EndedWith, NotStarted, TimedOut}
use Rattle.f2b_base.specs.declared.outside.TreeAnswer.{TreeAnswer}
use Rattle.f2b_base.specs.declared.outside.TreeAnswer.TheVariants.{Tree, Failed as TreeFailed, TooLarge as TreeTooLarge, NoMemory as TreeNoMemory}
use Rattle.f2b_base.specs.declared.view.View.{View}
use Rattle.f2b_model.specs.Lists.{AllOf}
use Rattle.f2b_model.specs.Storable.{IsStorableInput}
use Rattle.f2b_model.specs.Views.{back, view_of}
use Rattle.f2b_model.specs.Whole.{State, step, steps}
use Rattle.f2b_world.specs.Slots.{Permits, Slot}
use Rattle.f2b_world.specs.Told.{History, grown}
use Rattle.f2b_world.specs.declared.answer.Len.{Len}
use Rattle.f2b_world.specs.declared.answer.Len.TheVariants.{Bytes as LenIs, Failed as LenFailed}
use Rattle.f2b_world.specs.declared.answer.Listen.{Listen}
use Rattle.f2b_world.specs.declared.answer.Listen.TheVariants.{Listening, Failed as ListenFailed}
use Rattle.f2b_world.specs.declared.answer.Look.{Look}
use Rattle.f2b_world.specs.declared.answer.Look.TheVariants.{File, Absent, Failed as LookFailed, NoMemory as LookNoMemory}
use Rattle.f2b_world.specs.declared.answer.MakeAnswer.{MakeAnswer}
use Rattle.f2b_world.specs.declared.answer.MakeAnswer.TheVariants.{Built, Syntax as WasSyntax, TooBig as WasTooBig}
use Rattle.f2b_world.specs.declared.answer.Piece.{Piece}
use Rattle.f2b_world.specs.declared.answer.Piece.TheVariants.{Bytes as PieceIs, Failed as PieceFailed, NoMemory as PieceNoMemory}
use Rattle.f2b_world.specs.declared.answer.PollAnswer.{PollAnswer}
use Rattle.f2b_world.specs.declared.answer.PollAnswer.TheVariants.{Running, Ended as PollEnded, Failed as PollFailed}
use Rattle.f2b_world.specs.declared.answer.Said.TheVariants.{Done as SayDone, Failed as SayFailed}
use Rattle.f2b_world.specs.declared.answer.StartAnswer.{StartAnswer}
use Rattle.f2b_world.specs.declared.answer.StartAnswer.TheVariants.{Started, Failed as StartFailed, NoMemory as StartNoMemory}
use Rattle.f2b_world.specs.declared.answer.Synced.{Synced}
use Rattle.f2b_world.specs.declared.answer.Synced.TheVariants.{Done as SyncDone, Failed as SyncFailed}
use Rattle.f2b_world.specs.declared.answer.Wrote.{Wrote}
use Rattle.f2b_world.specs.declared.answer.Wrote.TheVariants.{Done as WroteDone, Failed as WroteFailed, NoMemory as WroteNoMemory}
use Rattle.f2b_world.specs.declared.event.Event.{Event}
use Rattle.f2b_world.specs.declared.event.Event.TheVariants.{Say, DiskLen, DiskRead, DiskWrite, DiskSync, Make, Clock, Config, StoreAt, Names, Look as LookAt, ChildStart, ChildPoll, ChildKill, GateListen, GateAccept, GateRead, GateWrite, GateClose, Pause}
use Rattle.filter_regex.specs.declared.error.BuildKind.TheVariants.{Syntax, TooBig}
use Rattle.ban_journal.specs.Positions.{top_in}
use Rattle.child_table.specs.Late.{is_late}
use Rattle.child_table.specs.declared.child.Child.{Child}
use Rattle.jail_conf.specs.Conf.{conf}
use Rattle.jail_conf.specs.declared.conf_error.ConfError.{ConfError}
use Rattle.jail_conf.specs.declared.settings.Settings.{Settings}
use Rattle.journal_slots.specs.Tops.{Stored, Top, NoneOpen, Newest, NoJournal, stored_in}
use Rattle.log_set.specs.Logs.{Watching}
use Rattle.record_fields.proofs.CodecLemmas.{split}
use Rattle.reconcile.specs.Loads.{Loaded, loaded, loaded_from, view_after, view_by}
use Rattle.run_law.specs.Clock.{tick_news}
use Rattle.run_law.specs.Disk.{broken, measured, piece_read, synced, wrote}
use Rattle.run_law.specs.Law.{MayCome, feed, moved, turns}
use Rattle.run_law.specs.Looks.{look_news, look_taken, looked, looked_at, now_is, unread_news}
use Rattle.run_law.specs.News.{News, brings, brings_by, entered, entering, goes_to, inputs_of, owing, refused, said_number, taking, writing}
use Rattle.run_law.specs.Paths.{Naming, Path, first_naming, named, with_paths}
use Rattle.run_law.specs.Patterns.{Pattern, patterns_of}
use Rattle.run_law.specs.Pause.{turned}
use Rattle.run_law.specs.Points.{Place, AtClock, AtLook, AtPoll, AtKill, AtAccept, AtClient, AtClose, Rereading, OfTree, OfMakes, OfNames, AtReload, AtStart, AtPause, Point, AtTree, AtMakes, AtStore, AtListen, AtFirst, AtNames, AtTurn, Over, Run}
use Rattle.run_law.specs.Polls.{end_news, ended_as, gone, gone_passed, has_succeeded, killed_at, polled_at, still_point}
use Rattle.run_law.specs.Server.{Server, begun, entry_in, following, input_at, is_spent, read_at, taken}
use Rattle.run_law.specs.Serving.{Service, closes, lets_in, point_on, reads, serves, with_clients, writes}
use Rattle.run_law.specs.Reading.{names_in, names_next, unread_by}
use Rattle.run_law.specs.Reload.{left_for, names_for, reload_news, reloaded, reloads, taken_for, tells_taken, tells_untaken, untaken_for}
use Rattle.run_law.specs.Start.{defined, first_turn, listened, loads, made, makes_on, start_news, to_makes, to_names, tree_read}
use Rattle.run_law.specs.Starts.{child_started, with_child, without_child}
use Rattle.run_law.specs.Stops.{ComesInOrder, ComesTo, IsKept, IsOverAt, IsWrite}
use Rattle.run_law.specs.Turn.{to_logs, to_looks, to_polls, to_starts}
use Rattle.run_law.specs.declared.status.Status.{Status}
use Rattle.run_law.specs.declared.status.Status.TheVariants.{Stopped, TurnsSpent, ConfFault, ConfRefused, NotAJournal, JournalFull, GateFault, ConfTooLarge, PatternRefused, NumbersSpent}
use Rattle.run_law.proofs.FieldLemmas.{feed_slots}
use Rattle.run_law.proofs.KeptLemmas.{steps_more}
use Rattle.run_law.proofs.RestLemmas.{entry_is, slot_still}
use Rattle.run_law.proofs.ReadingLemmas.{makes_by, names_by, tree_by}
use Rattle.run_law.proofs.TurnLemmas.{IsOfTurn, behind_of_turn, logs_of_turn, looks_of_turn, onward_of_turn, place_of_turn, polls_of_turn, starts_of_turn, still_of_turn, turn_by}
use Rattle.slot_writes.specs.Entries.{Entry, Written, Full, Spent, body, entry, entry_of, fresh_slot, fresh_start, turn_calls}
use Rattle.journal_slots.specs.declared.head.Head.{Head}
use Rattle.journal_slots.specs.declared.head.Head.TheVariants.{Short, Ajar, Shut}
use Rattle.slot_writes.specs.Rests.{PermitsBoth, nothing_stored}
use Rattle.slot_writes.specs.Writes.{Write}
use Rattle.slot_writes.specs.declared.position.Position.{Position}

-- ---- an input that is written has calls

turn_some : (p : Position) (head : Head) (whole bytes : List ℕ) → (one : Write) × (more : List Write) × (turn_calls (fresh_slot p) head whole bytes ≡ one ∷ more)
turn_some p Short whole bytes = (_, _, refl)
turn_some p Ajar whole bytes = (_, _, refl)
turn_some p Shut whole bytes = (_, _, refl)

entry_some : (p : Position) (v : View) (i : Input) (next : Position) (ws : List Write) → entry_of p v i ≡ Written next ws → (one : Write) × (more : List Write) × (ws ≡ one ∷ more)
entry_some p v i next ws is = elim (entry_is p v i next ws is) [
  | inl a ↦ (_, _, a.calls)
  | inr t ↦ (let some = turn_some p p.other (body (fresh_start p v)) (entry i) in (some.0, some.1, t.calls ∙ some.2))
]

-- ---- what is loaded

-- the state that is loaded, or another where slots are no journal
abbrev state_in : State → Result Loaded (ℕ × ℕ) → State
state_in s (Ok l) = l.state
state_in s (Err place) = s

loads_state : (limit : ℕ) (slots : ℕ → List ℕ) (top : Top) (stored : Stored) (l : Loaded) → stored_in top ≡ Some stored → loaded_from limit slots top ≡ Ok l → l.state ≡ back (view_by stored)
loads_state limit slots NoneOpen stored l means is =
    let s = back (view_by stored) in
    sym (ap (state_in s) is) ∙ ap (λ (x : Stored). back (view_by x)) (same_Some nothing_stored stored means)
loads_state limit slots (Newest slot o) stored l means is =
    let s = back (view_by stored) in
    sym (ap (state_in s) is) ∙ ap (λ (x : Stored). back (view_by x)) (same_Some (record { view = o.start.view; inputs = o.inputs }) stored means)
loads_state limit slots (NoJournal slot at) stored l means is = absurd (let e : None ≡ Some stored = means in cc)

-- ---- what can be stored

pub all_stored : (is : List Input) (o : Option Input) → AllOf IsStorableInput is → IfSome o IsStorableInput → AllOf IsStorableInput (is ++ option_to_list o)
all_stored [] None all some = tt
all_stored [] (Some i) all some = (some, tt)
all_stored (j ∷ is) o all some = (all.0, all_stored is o all.1 some)

-- ---- what is over

over_is : (p : Point) → IsOverAt p → (status : Status) × (p ≡ Over status)
over_is (Over status) over = (status, refl)
over_is p over = absurd over

moved_over : (p : Point) (status : Status) (event : Event) (r : Run) → p ≡ Over status → moved p event r ≡ r
moved_over p status event r is = ap (λ (q : Point). moved q event r) is

-- ---- a run that begins on a view

module _ (v : View) (slots : ℕ → List ℕ) (comes : ComesTo v slots) where
  -- the state after all inputs of a run
  abbrev pub state_of : Run → State
  state_of r = steps (back v) (inputs_of r)

  -- the point's server has this state, or it will be loaded
  abbrev pub Knows : State → Point → Type 0
  Knows s AtTree = back v ≡ s
  Knows s (AtMakes settings left) = back v ≡ s
  Knows s (AtStore settings) = back v ≡ s
  Knows s (AtListen settings l) = l.state ≡ s
  Knows s (AtFirst settings l) = l.state ≡ s
  Knows s (AtNames settings naming t) = t.state ≡ s
  Knows s (AtTurn place t) = t.state ≡ s
  Knows s (Over status) = Unit {0}

  -- The closed inputs can be stored, and so can the other one, or no stop keeps that yet.
  pub record IsOnCourse (r : Run) (g : History) : Type 0 where
    pub slots_are : r.slots ≡ slots
    pub knows : Knows (state_of r) r.point
    pub closed : AllOf IsStorableInput r.closed
    pub left : IfSome r.unclosed IsStorableInput ⊎ ((image : ℕ → List ℕ) → PermitsBoth g image → ComesTo (view_after v r.closed) image)

  -- ---- what an event brings, where all inputs are closed

  module _ (r : Run) (calm : r.unclosed ≡ None) (from : r.slots ≡ slots) where
    -- another run, that has closed the same inputs, and knows its state
    record Follows (n : Run) : Type 0 where
      pub closed : n.closed ≡ r.closed
      pub knows : Knows (state_of n) n.point

    abbrev Has : Server → Type 0
    Has t = t.state ≡ state_of r

    abbrev Passes : (Server → Point) → Type 0
    Passes next = (s : State) (t : Server) → t.state ≡ s → Knows s (next t)

    turn_passes : (next : Server → Point) → ((t : Server) → IsOfTurn (next t) t) → Passes next
    turn_passes next turn s t has = turn_by (λ q. Knows s q) (next t) t (turn t) (λ place. has) tt

    stays_on : Knows (state_of r) r.point → Follows r
    stays_on knows = record { closed = refl; knows = knows }

    goes_on : (lines : List (List ℕ)) (p : Point) → Knows (state_of r) p → Follows (owing lines (goes_to p r))
    goes_on lines p knows = record { closed = refl; knows = knows }

    plain_on : (p : Point) → Knows (state_of r) p → Follows (goes_to p r)
    plain_on p knows = record { closed = refl; knows = knows }

    refused_on : (now : ℕ) (status : Status) → Follows (refused now status r)
    refused_on now status = record { closed = refl; knows = tt }

    cut_on : (now : ℕ) (status : Status) (input : Input) → Follows (refused now status (entering input r))
    cut_on now status input = record { closed = refl; knows = tt }

    -- the state after one input more
    one_more : (i : Input) → step (state_of r) i ≡ steps (back v) (r.closed ++ i ∷ [])
    one_more i =
        let none : inputs_of r ≡ r.closed = ap (λ (o : Option Input). r.closed ++ option_to_list o) calm ∙ append-nil r.closed in
        ap (λ (is : List Input). step (steps (back v) is) i) none ∙ sym (steps_more (back v) r.closed i)

    written_on : (news : News) (next : Server → Point) (t : Server) (what : What) (ws : List Write) (some : (one : Write) × (more : List Write) × (ws ≡ one ∷ more)) → Passes next → Has t
        → Follows (writing ws (taking news what next t r))
    written_on news next t what ws some passes has =
        let P : List Write → Type 0 = λ vs. Follows (writing vs (taking news what next t r)) in
        let i = input_at t what in
        subst P (sym some.2) (record { closed = refl; knows = passes (steps (back v) (r.closed ++ i ∷ [])) (taken what t) (ap (λ (s : State). step s i) has ∙ one_more i) })

    entered_on : (news : News) (next : Server → Point) (t : Server) (what : What) → Passes next → Has t → (e : Entry) → entry_in t what ≡ e → Follows (entered e news what next t r)
    entered_on news next t what passes has (Written behind ws) is = elim (split (is_spent t) _ _ _ is) [
      | inl spent ↦ absurd (let e : Spent ≡ Written behind ws = spent.1 in cc)
      | inr live ↦ written_on news next t what ws (entry_some t.position (view_of t.state) (input_at t what) behind ws live.1) passes has
    ]
    entered_on news next t what passes has (Full need) is = cut_on t.now (JournalFull (said_number need) t.position.limit) (input_at t what)
    entered_on news next t what passes has Spent is = cut_on t.now NumbersSpent (input_at t what)

    by_on : (o : Option What) (news : News) (next : Server → Point) → Passes next → (t : Server) → Has t → Follows (brings_by o news next t r)
    by_on None news next passes t has = goes_on (news.before ++ news.behind) (next t) (passes (state_of r) t has)
    by_on (Some what) news next passes t has = entered_on news next t what passes has (entry_in t what) refl

    brings_on : (news : News) (next : Server → Point) → Passes next → (t : Server) → Has t → Follows (brings news next t r)
    unfolding brings
    brings_on news next passes t has = by_on news.what news next passes t has

    -- ---- the start

    makes_on_to : (settings : Settings) (left : List Pattern) → back v ≡ state_of r → Follows (goes_to (to_makes settings left) r)
    makes_on_to settings [] knows = plain_on (AtStore settings) knows
    makes_on_to settings (p ∷ ps) knows = plain_on (AtMakes settings (p ∷ ps)) knows

    defined_on : (o : Result Settings ConfError) → back v ≡ state_of r → Follows (defined o r)
    defined_on (Ok settings) knows = makes_on_to settings (patterns_of settings.defs) knows
    defined_on (Err error) knows = refused_on 0 (ConfRefused error)

    made_on : (answer : MakeAnswer) (settings : Settings) (p : Pattern) (ps : List Pattern) → back v ≡ state_of r → Follows (made answer settings p ps r)
    made_on Built settings p ps knows = makes_on_to settings ps knows
    made_on WasSyntax settings p ps knows = refused_on 0 (PatternRefused p.jail p.place Syntax)
    made_on WasTooBig settings p ps knows = refused_on 0 (PatternRefused p.jail p.place TooBig)

    loads_on : (settings : Settings) → back v ≡ state_of r → (o : Result Loaded (ℕ × ℕ)) → loaded r.plan.limit slots ≡ o → Follows (loads o settings r)
    loads_on settings knows (Ok l) is = plain_on (AtListen settings l) (loads_state r.plan.limit slots (top_in slots) comes.stored l comes.means is ∙ ap back comes.comes ∙ knows)
    loads_on settings knows (Err place) is = refused_on 0 (NotAJournal place.0 place.1)

    stored_on : (settings : Settings) → back v ≡ state_of r → Follows (loads (loaded r.plan.limit r.slots) settings r)
    stored_on settings knows =
        let P : (ℕ → List ℕ) → Type 0 = λ held. Follows (loads (loaded r.plan.limit held) settings r) in
        subst P (sym from) (loads_on settings knows (loaded r.plan.limit slots) refl)

    listened_on : (answer : Listen) (settings : Settings) (l : Loaded) → l.state ≡ state_of r → Follows (listened answer settings l r)
    listened_on Listening settings l knows = plain_on (AtFirst settings l) knows
    listened_on ListenFailed settings l knows = refused_on 0 GateFault

    names_on : (before : List (List ℕ)) (settings : Settings) (naming : Naming) (left : List Path) (t : Server) → Has t → Follows (to_names before settings naming left t r)
    names_on before settings naming [] t has = brings_on (start_news before (with_paths settings.defs naming.found) t) first_turn (λ s u h. h) t has
    names_on before settings naming (p ∷ ps) t has = brings_on (record { before = before; what = None; behind = [] }) (AtNames settings naming) (λ s u h. h) t has

    -- ---- a turn

    of_turn_on : (p : Point) (u : Server) → IsOfTurn p u → Has u → Follows (goes_to p r)
    of_turn_on p u turn has = turn_by (λ q. Follows (goes_to q r)) p u turn (λ place. plain_on (AtTurn place u) has) (plain_on (Over Stopped) tt)

    module _ (same : Knows (state_of r) r.point) where
      tree_on : (answer : TreeAnswer) → back v ≡ state_of r → Follows (tree_read answer r)
      tree_on (Tree tree) knows = defined_on (conf tree) knows
      tree_on TreeFailed knows = refused_on 0 ConfFault
      tree_on TreeTooLarge knows = refused_on 0 ConfTooLarge
      tree_on TreeNoMemory knows = stays_on same

      makes_are_on : (left : List Pattern) (answer : MakeAnswer) (settings : Settings) → back v ≡ state_of r → Follows (makes_on left answer settings r)
      makes_are_on [] answer settings knows = stays_on same
      makes_are_on (p ∷ ps) answer settings knows = made_on answer settings p ps knows

      looked_on : (answer : Look) (a : Watching) (i : ℕ) (t : Server) → Has t → Follows (looked answer a i t r)
      looked_on (File file) a i t has = brings_on (look_news t.now a (look_taken t a file)) (to_looks (i + 1)) (turn_passes (to_looks (i + 1)) (looks_of_turn (i + 1))) (now_is i a file t) has
      looked_on Absent a i t has = of_turn_on (to_looks (i + 1) t) t (looks_of_turn (i + 1) t) has
      looked_on LookFailed a i t has = brings_on (unread_news t a) (to_looks (i + 1)) (turn_passes (to_looks (i + 1)) (looks_of_turn (i + 1))) t has
      looked_on LookNoMemory a i t has = stays_on same

      looked_at_on : (o : Option Watching) (answer : Look) (i : ℕ) (t : Server) → Has t → Follows (looked_at o answer i t r)
      looked_at_on None answer i t has = stays_on same
      looked_at_on (Some a) answer i t has = looked_on answer a i t has

      ended_on : (passed : Bool) (outcome : Outcome) (child : Child) (i : ℕ) (t : Server) → Has t → Follows (ended_as passed outcome child i t r)
      ended_on true outcome child i t has = of_turn_on (to_polls i (gone_passed child.job i t)) (gone_passed child.job i t) (polls_of_turn i (gone_passed child.job i t)) has
      ended_on false outcome child i t has = brings_on (end_news child outcome) (to_polls i) (turn_passes (to_polls i) (polls_of_turn i)) (gone i t) has

      polled_on : (o : Option Child) (answer : PollAnswer) (i : ℕ) (t : Server) → Has t → Follows (polled_at o answer i t r)
      polled_on None answer i t has = stays_on same
      polled_on (Some child) (PollEnded status) i t has = ended_on (has_succeeded child.task (EndedWith status)) (EndedWith status) child i t has
      polled_on (Some child) Running i t has = of_turn_on (still_point (is_late t.now child) i t) t (still_of_turn (is_late t.now child) i t) has
      polled_on (Some child) PollFailed i t has = of_turn_on (still_point (is_late t.now child) i t) t (still_of_turn (is_late t.now child) i t) has

      killed_on : (o : Option Child) (i : ℕ) (t : Server) → Has t → Follows (killed_at o i t r)
      killed_on None i t has = stays_on same
      killed_on (Some child) i t has = ended_on (has_succeeded child.task TimedOut) TimedOut child i t has

      started_on : (answer : StartAnswer) (child : Child) (t : Server) → Has t → Follows (child_started answer child t r)
      started_on Started child t has = of_turn_on (to_starts (with_child child t)) (with_child child t) (starts_of_turn (with_child child t)) has
      started_on StartFailed child t has = brings_on (end_news child NotStarted) to_starts (turn_passes to_starts starts_of_turn) (without_child child t) has
      started_on StartNoMemory child t has = stays_on same

      -- a call on a client
      serves_on : (x : Service) (t : Server) → Has t → Follows (serves x t r)
      serves_on x t has = brings_on x.news (point_on x.onward) (turn_passes (point_on x.onward) (onward_of_turn x.onward)) (with_clients x.clients t) has

      -- ---- a reload

      follow_passes : (i : ℕ) → Passes (reloaded i)
      follow_passes i s u has = turn_by (λ q. Knows s q) (reloaded i u) (following u) (behind_of_turn i (following u)) (λ place. has) tt

      renames_on : (before : List (List ℕ)) (settings : Settings) (naming : Naming) (left : List Path) (i : ℕ) (t : Server) → Has t → Follows (names_next (names_for i) (taken_for i) before settings naming left t r)
      renames_on before settings naming left i t has = names_by (λ (x : Run). Follows x) (names_for i) (taken_for i) t r
          (λ lines defined at. brings_on (record { before = lines; what = None; behind = [] }) (names_for i defined at) (turn_passes (names_for i defined at) (λ u. place_of_turn (AtReload (OfNames defined at) i) u)) t has)
          (λ lines defs. brings_on (reload_news lines defs t) (reloaded i) (follow_passes i) (tells_taken i t) has) before settings naming left

      left_on : (i : ℕ) (t : Server) → Has t → (settings : Settings) (ps : List Pattern) → Follows (left_for i t settings ps r)
      left_on i t has settings [] = renames_on [] settings (first_naming settings.defs) (first_naming settings.defs).left i t has
      left_on i t has settings (p ∷ ps) = plain_on (AtTurn (AtReload (OfMakes settings (p ∷ ps)) i) t) has

      untaken_on : (i : ℕ) (t : Server) → Has t → (status : Status) → Follows (untaken_for i t status r)
      untaken_on i t has status = serves_on (tells_untaken status i t) t has

      reloads_on : (reading : Rereading) (event : Event) (i : ℕ) (t : Server) → Has t → Follows (reloads reading event i t r)
      reloads_on OfTree (Config root answer) i t has =
          tree_by (λ (x : Run). Follows x) (left_for i t) (untaken_for i t) r (left_on i t has) (λ status is. untaken_on i t has status) (stays_on same) answer
      reloads_on (OfMakes settings left) (Make text answer) i t has =
          makes_by (λ (x : Run). Follows x) (left_for i t) (untaken_for i t) r (left_on i t has) (λ status is. untaken_on i t has status) (stays_on same) left answer settings
      reloads_on (OfNames settings naming) (Names dir answer) i t has =
          let next = named (names_in answer) naming in renames_on (unread_by answer t.now naming.left) settings next next.left i t has
      reloads_on _ _ i t has = stays_on same

      turned_on : (n : ℕ) (t : Server) → Has t → Follows (goes_to (turned n t) r)
      turned_on zero t has = plain_on (Over TurnsSpent) tt
      turned_on (suc n) t has = plain_on (AtTurn AtClock (record t { left = suc n })) has

      turns_on : (place : Place) (event : Event) (t : Server) → Has t → Follows (turns place event t r)
      turns_on AtClock (Clock answer) t has = brings_on (tick_news (read_at answer t)) to_logs (turn_passes to_logs logs_of_turn) (read_at answer t) has
      turns_on (AtLook i) (LookAt path head from max answer) t has = looked_at_on (slice_get t.logs i) answer i t has
      turns_on (AtPoll i) (ChildPoll job answer) t has = polled_on (slice_get t.children.running i) answer i t has
      turns_on (AtKill i) (ChildKill job) t has = killed_on (slice_get t.children.running i) i t has
      turns_on AtAccept (GateAccept answer) t has = serves_on (lets_in answer t) t has
      turns_on (AtClient i) (GateRead conn max answer) t has = serves_on (reads answer i t) t has
      turns_on (AtClient i) (GateWrite conn bytes answer) t has = serves_on (writes answer i t) t has
      turns_on (AtClose i) (GateClose conn) t has = serves_on (closes i t) t has
      turns_on (AtReload reading i) event t has = reloads_on reading event i t has
      turns_on (AtStart child text) (ChildStart job command answer) t has = started_on answer child t has
      turns_on AtPause (Pause ms) t has = turned_on (t.left - 1) t has
      turns_on _ _ t has = stays_on same

      moved_on : (p : Point) (event : Event) → Knows (state_of r) p → Follows (moved p event r)
      moved_on AtTree (Config root answer) knows = tree_on answer knows
      moved_on (AtMakes settings left) (Make text answer) knows = makes_are_on left answer settings knows
      moved_on (AtStore settings) (StoreAt socket answer) knows = stored_on settings knows
      moved_on (AtListen settings k) (GateListen socket answer) knows = listened_on answer settings k knows
      moved_on (AtFirst settings k) (Clock answer) knows =
          names_on [] settings (first_naming settings.defs) (first_naming settings.defs).left (begun r.plan.turns k answer) knows
      moved_on (AtNames settings naming t) (Names dir answer) knows =
          let next = named (names_in answer) naming in names_on (unread_by answer t.now naming.left) settings next next.left t knows
      moved_on (AtTurn place t) event knows = turns_on place event t knows
      moved_on _ _ knows = stays_on same

  -- ---- one event

  permits_before : (g : History) (event : Event) (image : ℕ → List ℕ) → (IsWrite event → ⊥) → PermitsBoth (grown g (event ∷ [])) image → PermitsBoth g image
  permits_before g event image other permits slot small = subst (λ (s : Slot). Permits s (image slot)) (slot_still g event other slot) (permits slot small)

  -- an event that changes no input and no slot
  still_course : (r n : Run) (g : History) (event : Event) → (IsWrite event → ⊥) → IsOnCourse r g → n.slots ≡ r.slots → n.closed ≡ r.closed → n.unclosed ≡ r.unclosed
      → Knows (state_of n) n.point → IsOnCourse n (grown g (event ∷ []))
  still_course r n g event other c held closed unclosed knows = record {
    slots_are = held ∙ c.slots_are;
    knows = knows;
    closed = subst (λ (is : List Input). AllOf IsStorableInput is) (sym closed) c.closed;
    left = elim c.left [
      | inl stored ↦ inl (let P : Option Input → Type 0 = λ o. IfSome o IsStorableInput in subst P (sym unclosed) stored)
      | inr kept ↦ inr (λ image permits.
          let P : List Input → Type 0 = λ is. ComesTo (view_after v is) image in
          subst P (sym closed) (kept image (permits_before g event image other permits)))
    ];
  }

  -- an event that brings an input, where all were closed: no stop keeps it yet
  calm_course : (r n : Run) (g : History) (event : Event) → (IsWrite event → ⊥) → (calm : r.unclosed ≡ None) (from : r.slots ≡ slots) → IsOnCourse r g → IsKept v r g → n.slots ≡ r.slots
      → Follows r calm from n → IsOnCourse n (grown g (event ∷ []))
  calm_course r n g event other calm from c kept held follows = record {
    slots_are = held ∙ c.slots_are;
    knows = follows.knows;
    closed = subst (λ (is : List Input). AllOf IsStorableInput is) (sym follows.closed) c.closed;
    left = inr (λ image permits.
        let none : inputs_of r ≡ r.closed = ap (λ (o : Option Input). r.closed ++ option_to_list o) calm ∙ append-nil r.closed in
        let P : List Input → Type 0 = λ is. ComesTo (view_after v is) image in
        subst P (sym follows.closed) (elim (kept.each image (permits_before g event image other permits)) [
          | inl own ↦ own
          | inr all ↦ subst P none all
        ]));
  }

  -- a call that writes an input, which can be stored
  writing_course : (r : Run) (g h : History) (ws : List Write) → IsOnCourse r g → IfSome r.unclosed IsStorableInput → IsOnCourse (writing ws r) h
  writing_course r g h [] c stored = record {
    slots_are = c.slots_are;
    knows = subst (λ (is : List Input). Knows (steps (back v) is) r.point) (sym (append-nil (inputs_of r))) c.knows;
    closed = all_stored r.closed r.unclosed c.closed stored;
    left = inl tt;
  }
  writing_course r g h (w ∷ ws) c stored = record { slots_are = c.slots_are; knows = c.knows; closed = c.closed; left = inl stored }

  broken_course : (r : Run) (g h : History) → IsOnCourse r g → IfSome r.unclosed IsStorableInput → IsOnCourse (broken r) h
  broken_course r g h c stored = record { slots_are = c.slots_are; knows = tt; closed = c.closed; left = inl stored }

  wrote_course : (r : Run) (g : History) (slot at : ℕ) (bytes : List ℕ) (answer : Wrote) → IsOnCourse r g → MayCome r (DiskWrite slot at bytes answer) → IsOnCourse (wrote answer r) (grown g (DiskWrite slot at bytes answer ∷ []))
  wrote_course r g slot at bytes WroteDone c may = writing_course r g _ (drop 1 r.writes) c may.1
  wrote_course r g slot at bytes WroteFailed c may = broken_course r g _ c may.1
  wrote_course r g slot at bytes WroteNoMemory c may = absurd may

  synced_course : (r : Run) (g : History) (slot : ℕ) (answer : Synced) → IsOnCourse r g → IfSome r.unclosed IsStorableInput → IsOnCourse (synced answer r) (grown g (DiskSync slot answer ∷ []))
  synced_course r g slot SyncDone c stored = writing_course r g _ (drop 1 r.writes) c stored
  synced_course r g slot SyncFailed c stored = broken_course r g _ c stored

  measured_course : (r : Run) (g : History) (slot : ℕ) (answer : Len) → IsOnCourse r g → IsOnCourse (measured answer r) (grown g (DiskLen slot answer ∷ []))
  measured_course r g slot (LenIs n) c = still_course r r g (DiskLen slot (LenIs n)) (λ w. w) c refl refl refl c.knows
  measured_course r g slot LenFailed c = still_course r (broken r) g (DiskLen slot LenFailed) (λ w. w) c refl refl refl tt

  piece_course : (r : Run) (g : History) (slot at len : ℕ) (answer : Piece) → IsOnCourse r g → IsOnCourse (piece_read answer r) (grown g (DiskRead slot at len answer ∷ []))
  piece_course r g slot at len (PieceIs bytes) c = still_course r r g (DiskRead slot at len (PieceIs bytes)) (λ w. w) c refl refl refl c.knows
  piece_course r g slot at len PieceFailed c = still_course r (broken r) g (DiskRead slot at len PieceFailed) (λ w. w) c refl refl refl tt
  piece_course r g slot at len PieceNoMemory c = still_course r r g (DiskRead slot at len PieceNoMemory) (λ w. w) c refl refl refl c.knows

  -- a call of the point
  moved_course : (r : Run) (g : History) (event : Event) → (IsWrite event → ⊥) → (moved r.point event r).slots ≡ r.slots → IsOnCourse r g → IsKept v r g → ComesInOrder r event
      → IsOnCourse (moved r.point event r) (grown g (event ∷ []))
  moved_course r g event other held c kept order = elim order [
    | inl calm ↦ calm_course r (moved r.point event r) g event other calm c.slots_are c kept held (moved_on r calm c.slots_are c.knows r.point event c.knows)
    | inr rest ↦ elim rest [
      | inl writes ↦ absurd (other writes)
      | inr over ↦
          let P : Run → Type 0 = λ n. IsOnCourse n (grown g (event ∷ [])) in
          let at = over_is r.point over in
          subst P (sym (moved_over r.point at.0 event r at.1)) (still_course r r g event other c refl refl refl c.knows)
    ]
  ]

  pub course_step : (r : Run) (g : History) (event : Event) → IsOnCourse r g → IsKept v r g → ComesInOrder r event → MayCome r event → IsOnCourse (feed r event) (grown g (event ∷ []))
  course_step r g (Say bytes SayDone) c kept order may = still_course r _ g (Say bytes SayDone) (λ w. w) c refl refl refl c.knows
  course_step r g (Say bytes SayFailed) c kept order may = still_course r _ g (Say bytes SayFailed) (λ w. w) c refl refl refl tt
  course_step r g (DiskLen slot answer) c kept order may = measured_course r g slot answer c
  course_step r g (DiskRead slot at len answer) c kept order may = piece_course r g slot at len answer c
  course_step r g (DiskWrite slot at bytes answer) c kept order may = wrote_course r g slot at bytes answer c may
  course_step r g (DiskSync slot answer) c kept order may = synced_course r g slot answer c may.1
  course_step r g event c kept order may = moved_course r g event (λ w. w) (feed_slots r event) c kept order
