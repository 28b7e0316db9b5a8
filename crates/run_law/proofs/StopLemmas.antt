-- From the law alone: what a stop leaves at each point of a run.
use Rattle.std.proofs.Common.{ℕ, zero, suc, ◌≡◌, ◌<◌, ◌+◌, ◌-◌, ◌^◌, ◌⊎◌, Bool, true, false, inl, inr, List, [], ◌∷◌, ◌++◌, length, take, Option, Some, None, Result, Ok, Err, refl, sym, ap, ◌∙◌, subst, append_assoc, arith}
use Rattle.std.specs.Prelude.{IfSome, drop, option_to_list, slice_get}
use Rattle.f2b_base.specs.declared.input.Input.{Input}
use Rattle.f2b_base.specs.declared.input.What.{What}
use Rattle.f2b_base.specs.declared.job.Outcome.{Outcome}
use Rattle.f2b_base.specs.declared.job.Outcome.TheVariants.{Status as EndedWith, NotStarted, TimedOut}
use Rattle.f2b_base.specs.declared.outside.TreeAnswer.{TreeAnswer}
use Rattle.f2b_base.specs.declared.outside.TreeAnswer.TheVariants.{Tree, Failed as TreeFailed, TooLarge as TreeTooLarge, NoMemory as TreeNoMemory}
use Rattle.f2b_base.specs.declared.view.View.{View}
use Rattle.f2b_model.specs.Storable.{IsStorableInput}
use Rattle.f2b_model.specs.Views.{back, view_of}
use Rattle.f2b_model.specs.Whole.{State, step, steps}
use Rattle.f2b_model.proofs.WholeLemmas.{view_again}
use Rattle.f2b_world.specs.Slots.{Permits, Slot}
use Rattle.f2b_world.specs.Told.{History, grown}
use Rattle.f2b_world.specs.Walks.{after, Along}
use Rattle.f2b_world.specs.declared.answer.Len.{Len}
use Rattle.f2b_world.specs.declared.answer.Len.TheVariants.{Bytes as LenIs, Failed as LenFailed}
use Rattle.f2b_world.specs.declared.answer.Listen.{Listen}
use Rattle.f2b_world.specs.declared.answer.Listen.TheVariants.{Listening, Failed as ListenFailed}
use Rattle.f2b_world.specs.declared.answer.Look.{Look}
use Rattle.f2b_world.specs.declared.answer.Look.TheVariants.{File, Absent, Failed as LookFailed, NoMemory as LookNoMemory}
use Rattle.f2b_world.specs.declared.answer.MakeAnswer.{MakeAnswer}
use Rattle.f2b_world.specs.declared.answer.MakeAnswer.TheVariants.{Built, Syntax as WasSyntax, TooBig as WasTooBig}
use Rattle.f2b_world.specs.declared.answer.Piece.{Piece}
use Rattle.f2b_world.specs.declared.answer.Piece.TheVariants.{Bytes as PieceIs, Failed as PieceFailed, NoMemory as PieceNoMemory}
use Rattle.f2b_world.specs.declared.answer.PollAnswer.{PollAnswer}
use Rattle.f2b_world.specs.declared.answer.PollAnswer.TheVariants.{Running, Ended as PollEnded, Failed as PollFailed}
use Rattle.f2b_world.specs.declared.answer.Said.TheVariants.{Done as SayDone, Failed as SayFailed}
use Rattle.f2b_world.specs.declared.answer.StartAnswer.{StartAnswer}
use Rattle.f2b_world.specs.declared.answer.StartAnswer.TheVariants.{Started, Failed as StartFailed, NoMemory as StartNoMemory}
use Rattle.f2b_world.specs.declared.answer.Synced.TheVariants.{Done as SyncDone, Failed as SyncFailed}
use Rattle.f2b_world.specs.declared.answer.Wrote.TheVariants.{Done as WroteDone, Failed as WroteFailed, NoMemory as WroteNoMemory}
use Rattle.f2b_world.specs.declared.event.Event.{Event}
use Rattle.f2b_world.specs.declared.event.Event.TheVariants.{Say, DiskLen, DiskRead, DiskWrite, DiskSync, Make, Clock, Config, StoreAt, Names, Look as LookAt, ChildStart, ChildPoll, ChildKill, GateListen, GateAccept, GateRead, GateWrite, GateClose, Pause}
use Rattle.f2b_world.proofs.AddsLemmas.{grown_none, grown_twice}
use Rattle.filter_regex.specs.declared.error.BuildKind.TheVariants.{Syntax, TooBig}
use Rattle.child_table.specs.Late.{is_late}
use Rattle.child_table.specs.declared.child.Child.{Child}
use Rattle.jail_conf.specs.Conf.{conf}
use Rattle.jail_conf.specs.declared.conf_error.ConfError.{ConfError}
use Rattle.jail_conf.specs.declared.settings.Settings.{Settings}
use Rattle.journal_slots.specs.Tops.{Stored}
use Rattle.journal_slots.specs.declared.head.Head.{Head}
use Rattle.journal_slots.specs.declared.head.Head.TheVariants.{Short, Ajar, Shut}
use Rattle.log_set.specs.Logs.{Watching}
use Rattle.record_fields.proofs.CodecLemmas.{split}
use Rattle.run_law.specs.Calls.{AskWrite, Call, IsNext, Makes}
use Rattle.run_law.specs.Clock.{tick_news}
use Rattle.run_law.specs.Disk.{IsLoading, broken, measured, piece_read}
use Rattle.run_law.specs.Law.{Ends, Free, IsOver, MayCome, begin, begin_with, call_behind, call_of, feed, moved, next_call, turns}
use Rattle.reconcile.specs.Loads.{Loaded, loaded, loaded_as, view_after}
use Rattle.run_law.specs.Looks.{look_news, look_taken, looked, looked_at, now_is, unread_news}
use Rattle.run_law.specs.News.{News, brings, brings_by, entered, entering, goes_to, inputs_of, owing, refused, said_number, taking, writing}
use Rattle.run_law.specs.Paths.{Naming, Path, first_naming, named, with_paths}
use Rattle.run_law.specs.Patterns.{Pattern, patterns_of}
use Rattle.run_law.specs.Pause.{turned}
use Rattle.run_law.specs.Points.{Place, AtClock, AtLook, AtPoll, AtKill, AtAccept, AtClient, AtClose, Rereading, OfTree, OfMakes, OfNames, AtReload, AtStart, AtPause, Point, AtTree, AtMakes, AtStore, AtListen, AtFirst, AtNames, AtTurn, Over, Run}
use Rattle.run_law.specs.Polls.{end_news, ended_as, gone, gone_passed, has_succeeded, killed_at, polled_at, still_point}
use Rattle.run_law.specs.Refusals.{status_lines}
use Rattle.run_law.specs.Served.{KeepsInputs, run_after}
use Rattle.run_law.specs.Server.{Server, behind_entry, begun, entry_in, following, input_at, is_spent, read_at, taken}
use Rattle.run_law.specs.Serving.{Service, closes, lets_in, point_on, reads, serves, with_clients, writes}
use Rattle.run_law.specs.Reading.{names_in, names_next, unread_by}
use Rattle.run_law.specs.Reload.{left_for, names_for, reload_news, reloaded, reloads, taken_for, tells_taken, tells_untaken, untaken_for}
use Rattle.run_law.specs.Start.{defined, first_turn, listened, loads, made, makes_on, start_news, to_makes, to_names, tree_read}
use Rattle.run_law.specs.Starts.{child_started, with_child, without_child}
use Rattle.run_law.specs.Stops.{BeginsOn, ComesInOrder, ComesTo, IsKept, IsOverAt, IsRegular, IsStored, IsWrite, held_in}
use Rattle.run_law.specs.Turn.{to_logs, to_looks, to_polls, to_starts}
use Rattle.run_law.specs.Words.{plan_of}
use Rattle.run_law.specs.declared.plan.Plan.{Plan}
use Rattle.run_law.proofs.ReadingLemmas.{makes_by, names_by, tree_by}
use Rattle.run_law.specs.declared.status.Status.{Status}
use Rattle.run_law.specs.declared.status.Status.TheVariants.{Stopped, TurnsSpent, ConfFault, ConfRefused, DiskFault, GateFault, JournalFull, SinkFault, ConfTooLarge, PatternRefused, NumbersSpent}
use Rattle.run_law.proofs.DiskLemmas.{IsBeside, call_no_write, next_beside, none_left, written_call}
use Rattle.run_law.proofs.KeptLemmas.{IsFine, IsLive, fine_back, fine_stored, fine_steps, steps_more}
use Rattle.run_law.proofs.LoadLemmas.{Loads, loads_stored}
use Rattle.run_law.proofs.RestLemmas.{Keeps, entry_image, entry_is, entry_keeps, keeps_held, keeps_image, keeps_settled, keeps_still, slot_still}
use Rattle.run_law.proofs.SaidLemmas.{may_at}
use Rattle.run_law.proofs.TurnLemmas.{IsOfTurn, behind_of_turn, logs_of_turn, looks_of_turn, onward_of_turn, place_of_turn, polls_of_turn, starts_of_turn, still_of_turn, turn_by}
use Rattle.run_law.proofs.WordLemmas.{planned}
use Rattle.slot_writes.specs.Entries.{Entry, Written, Full, Spent, body, entry, entry_of, fresh_slot, fresh_start, turn_calls}
use Rattle.slot_writes.specs.Rests.{PermitsBoth}
use Rattle.slot_writes.specs.Writes.{IsPart, Put, Sync, Write, done_event, done_events, failed_event}
use Rattle.slot_writes.specs.declared.position.Position.{Position}

-- an input that is written has calls
entry_some : (p : Position) (v : View) (i : Input) (next : Position) (ws : List Write) → entry_of p v i ≡ Written next ws → (one : Write) × (more : List Write) × (ws ≡ one ∷ more)
entry_some p v i next ws is = elim (entry_is p v i next ws is) [
  | inl a ↦ (_, _, a.calls)
  | inr t ↦ (let some = turn_some p.other in (some.0, some.1, t.calls ∙ some.2))
]
  where
    turn_some : (head : Head) → (one : Write) × (more : List Write) × (turn_calls (fresh_slot p) head (body (fresh_start p v)) (entry i) ≡ one ∷ more)
    turn_some Short = (_, _, refl)
    turn_some Ajar = (_, _, refl)
    turn_some Shut = (_, _, refl)

-- the status of a run that is over as it was asked to
abbrev IsRegularAt : Point → Type 0
IsRegularAt (Over status) = IsRegular status
IsRegularAt p = ⊥

whole : (es : List Event) → take (length es) es ≡ es
whole [] = refl
whole (event ∷ es) = ap (λ rest. event ∷ rest) (whole es)

-- ---- what a point knows

-- the server has this position and this state
abbrev Has : Position → State → Server → Type 0
Has p s t = (t.position ≡ p) × (t.state ≡ s)

-- the run has a server, or it is over as it was asked to
abbrev IsServing : Point → Type 0
IsServing (AtNames settings naming t) = Unit {0}
IsServing (AtTurn place t) = Unit {0}
IsServing (Over Stopped) = Unit {0}
IsServing _ = ⊥

-- its slots are not read
serving_quiet : (p : Point) (owed : List (List ℕ)) → IsServing p → IsLoading p owed → ⊥
serving_quiet (AtNames settings naming t) owed serving loading = loading
serving_quiet (AtTurn place t) owed serving loading = loading
serving_quiet (Over Stopped) owed serving loading = loading
serving_quiet p owed serving loading = serving

module _ (v : View) (first : History) (limit : ℕ) (l : Loaded) (is_loaded : loaded limit (held_in first) ≡ Ok l) where
  -- The point knows where the journal stands, and the state, or what will be loaded does.
  abbrev Knows : Position → State → Point → Type 0
  Knows p s AtTree = (l.position ≡ p) × (l.state ≡ s)
  Knows p s (AtMakes settings left) = (l.position ≡ p) × (l.state ≡ s)
  Knows p s (AtStore settings) = (l.position ≡ p) × (l.state ≡ s)
  Knows p s (AtListen settings k) = (k.position ≡ p) × (k.state ≡ s)
  Knows p s (AtFirst settings k) = (k.position ≡ p) × (k.state ≡ s)
  Knows p s (AtNames settings naming t) = Has p s t
  Knows p s (AtTurn place t) = Has p s t
  Knows p s (Over status) = Unit {0}

  -- the state after the closed inputs
  abbrev state_of : Run → State
  state_of r = steps (back v) r.closed

  -- all inputs are closed, and the journal is at rest
  record IsCalm (r : Run) (g : History) : Type 0 where
    pub position : Position
    pub written : r.writes ≡ []
    pub closed : r.unclosed ≡ None
    pub limited : r.plan.limit ≡ limit
    pub slots : r.slots ≡ held_in first
    pub keeps : Keeps position (state_of r) g
    pub knows : Knows position (state_of r) r.point

  -- an input is being written: these calls were done, and the others are left
  record IsWriting (r : Run) (g : History) : Type 0 where
    pub input : Input
    pub begun_at : History
    pub before : Position
    pub behind : Position
    pub done : List Write
    pub one : Write
    pub more : List Write
    pub unclosed : r.unclosed ≡ Some input
    pub limited : r.plan.limit ≡ limit
    pub slots : r.slots ≡ held_in first
    pub keeps : Keeps before (state_of r) begun_at
    pub live : IsLive (state_of r)
    pub entry : entry_of before (view_of (state_of r)) input ≡ Written behind (done ++ one ∷ more)
    pub writes : r.writes ≡ one ∷ more
    pub grown_is : g ≡ grown begun_at (done_events done)
    pub stored : (done ≡ []) ⊎ IsStorableInput input
    pub knows : Knows behind (step (state_of r) input) r.point
    pub serving : IsServing r.point

  -- the run is over, and its last input is not closed
  record IsCut (r : Run) (g : History) : Type 0 where
    pub input : Input
    pub unclosed : r.unclosed ≡ Some input
    pub written : r.writes ≡ []
    pub status : Status
    pub over : r.point ≡ Over status
    pub irregular : IsRegular status → ⊥
    pub unread : (owed : List (List ℕ)) → IsLoading (Over status) owed → ⊥
    pub kept : IsKept v r g

  abbrev Is : Run → History → Type 0
  Is r g = IsCalm r g ⊎ (IsWriting r g ⊎ IsCut r g)

  -- ---- in each case a stop leaves the closed inputs, or all

  all_steps : (r : Run) (input : Input) → r.unclosed ≡ Some input → steps (back v) (inputs_of r) ≡ step (state_of r) input
  all_steps r input is = ap (λ (o : Option Input). steps (back v) (r.closed ++ option_to_list o)) is ∙ steps_more (back v) r.closed input

  kept_calm : (r : Run) (g : History) → IsCalm r g → IsKept v r g
  kept_calm r g c = record { each = λ image permits. inl (keeps_image c.position (state_of r) g c.keeps image permits) }

  kept_either : (r : Run) (g : History) (input : Input) → r.unclosed ≡ Some input
      → ((image : ℕ → List ℕ) → PermitsBoth g image → ComesTo (view_of (state_of r)) image ⊎ ComesTo (view_of (step (state_of r) input)) image) → IsKept v r g
  kept_either r g input is each = record {
    each = λ image permits.
        let P : State → Type 0 = λ s. ComesTo (view_of (state_of r)) image ⊎ ComesTo (view_of s) image in
        subst P (sym (all_steps r input is)) (each image permits);
  }

  first_part : (done left : List Write) → IsPart (done ++ left) (done_events done)
  first_part done left = inl (record { first = done; left = left; parts = refl; done = refl })

  kept_writing : (r : Run) (g : History) → IsWriting r g → IsKept v r g
  kept_writing r g w = kept_either r g w.input w.unclosed (λ image permits.
      let at : PermitsBoth (grown w.begun_at (done_events w.done)) image = subst (λ (h : History). PermitsBoth h image) w.grown_is permits in
      elim w.stored [
        | inl none ↦
            let same : grown w.begun_at (done_events w.done) ≡ w.begun_at = ap (λ (ws : List Write). grown w.begun_at (done_events ws)) none ∙ grown_none w.begun_at in
            inl (keeps_image w.before (state_of r) w.begun_at w.keeps image (subst (λ (h : History). PermitsBoth h image) same at))
        | inr storable ↦
            entry_image w.before (state_of r) w.begun_at w.input w.keeps w.live storable w.behind (w.done ++ w.one ∷ w.more) w.entry (done_events w.done) (first_part w.done (w.one ∷ w.more)) image at
      ])

  kept_by : (r : Run) (g : History) → Is r g → IsKept v r g
  kept_by r g (inl c) = kept_calm r g c
  kept_by r g (inr (inl w)) = kept_writing r g w
  kept_by r g (inr (inr c)) = c.kept

  open_not : (r : Run) (input : Input) → r.unclosed ≡ Some input → r.unclosed ≡ None → ⊥
  open_not r input is none = let e : Some input ≡ None = sym is ∙ none in cc

  -- where all inputs are closed reads give the view
  stored_by : (r : Run) (g : History) → Is r g → r.unclosed ≡ None → IsStored v r g
  stored_by r g (inl c) none = record { settled = keeps_settled c.position (state_of r) g c.keeps; comes = keeps_held c.position (state_of r) g c.keeps }
  stored_by r g (inr (inl w)) none = absurd (open_not r w.input w.unclosed none)
  stored_by r g (inr (inr c)) none = absurd (open_not r c.input c.unclosed none)

  -- ---- what an event brings

  abbrev Passes : (Server → Point) → Type 0
  Passes next = (p : Position) (s : State) (t : Server) → Has p s t → Knows p s (next t) × IsServing (next t)

  turn_passes : (next : Server → Point) → ((t : Server) → IsOfTurn (next t) t) → Passes next
  turn_passes next turn p s t has = let P : Point → Type 0 = λ q. Knows p s q × IsServing q in turn_by P (next t) t (turn t) (λ place. (has, tt)) (tt, tt)

  module _ (r : Run) (g : History) (c : IsCalm r g) where
    -- the run goes to a point, with other lines
    goes_is : (lines : List (List ℕ)) (p : Point) → Knows c.position (state_of r) p → Is (owing lines (goes_to p r)) g
    goes_is lines p knows = inl (record { position = c.position; written = c.written; closed = c.closed; limited = c.limited; slots = c.slots; keeps = c.keeps; knows = knows })

    plain_is : (p : Point) → Knows c.position (state_of r) p → Is (goes_to p r) g
    plain_is p knows = inl (record { position = c.position; written = c.written; closed = c.closed; limited = c.limited; slots = c.slots; keeps = c.keeps; knows = knows })

    -- an input that is not written ends the run
    cut_is : (now : ℕ) (status : Status) (input : Input) → (IsRegular status → ⊥) → ((owed : List (List ℕ)) → IsLoading (Over status) owed → ⊥) → Is (refused now status (entering input r)) g
    cut_is now status input irregular unread =
        inr (inr (record {
          input = input;
          unclosed = refl;
          written = c.written;
          status = status;
          over = refl;
          irregular = irregular;
          unread = unread;
          kept = record { each = λ image permits. inl (keeps_image c.position (state_of r) g c.keeps image permits) };
        }))

    module _ (news : News) (next : Server → Point) (passes : Passes next) (t : Server) (has : Has c.position (state_of r) t) (what : What) where
      abbrev input : Input
      input = input_at t what

      -- an input that is written
      written_is : (behind : Position) (ws : List Write) → entry_in t what ≡ Written behind ws → Is (writing ws (taking news what next t r)) g
      written_is behind ws is = elim (split (is_spent t) _ _ _ is) [
        | inl spent ↦ absurd (let e : Spent ≡ Written behind ws = spent.1 in cc)
        | inr live ↦
            let P : Position → Type 0 = λ p. entry_of p (view_of t.state) input ≡ Written behind ws in
            let Q : State → Type 0 = λ s. entry_of c.position (view_of s) input ≡ Written behind ws in
            let entry : entry_of c.position (view_of (state_of r)) input ≡ Written behind ws = subst Q has.1 (subst P has.0 live.1) in
            let some = entry_some c.position (view_of (state_of r)) input behind ws entry in
            let after_has : Has behind (step (state_of r) input) (taken what t) = (ap (behind_entry t.position) is, ap (λ (s : State). step s input) has.1) in
            let there = passes behind (step (state_of r) input) (taken what t) after_has in
            let R : List Write → Type 0 = λ vs. Is (writing vs (taking news what next t r)) g in
            let E : List Write → Type 0 = λ vs. entry_of c.position (view_of (state_of r)) input ≡ Written behind vs in
            subst R (sym some.2) (inr (inl (record {
              input = input;
              begun_at = g;
              before = c.position;
              behind = behind;
              done = [];
              one = some.0;
              more = some.1;
              unclosed = refl;
              limited = c.limited;
              slots = c.slots;
              keeps = c.keeps;
              live = subst IsLive has.1 live.0;
              entry = subst E some.2 entry;
              writes = refl;
              grown_is = sym (grown_none g);
              stored = inl refl;
              knows = there.0;
              serving = there.1;
            })))
      ]

      entered_is : (e : Entry) → entry_in t what ≡ e → Is (entered e news what next t r) g
      entered_is (Written behind ws) is = written_is behind ws is
      entered_is (Full need) is = cut_is t.now (JournalFull (said_number need) t.position.limit) input (λ regular. regular) (λ owed loading. loading)
      entered_is Spent is = cut_is t.now NumbersSpent input (λ regular. regular) (λ owed loading. loading)

    by_is : (o : Option What) (news : News) (next : Server → Point) → Passes next → (t : Server) → Has c.position (state_of r) t → Is (brings_by o news next t r) g
    by_is None news next passes t has = goes_is (news.before ++ news.behind) (next t) (passes c.position (state_of r) t has).0
    by_is (Some what) news next passes t has = entered_is news next passes t has what (entry_in t what) refl

    brings_is : (news : News) (next : Server → Point) → Passes next → (t : Server) → Has c.position (state_of r) t → Is (brings news next t r) g
    unfolding brings
    brings_is news next passes t has = by_is news.what news next passes t has

    -- ---- the start

    refused_is : (status : Status) → Is (refused 0 status r) g
    refused_is status = goes_is (status_lines 0 status) (Over status) tt

    makes_are : (settings : Settings) (left : List Pattern) → (l.position ≡ c.position) × (l.state ≡ state_of r) → Is (goes_to (to_makes settings left) r) g
    makes_are settings [] knows = plain_is (AtStore settings) knows
    makes_are settings (p ∷ ps) knows = plain_is (AtMakes settings (p ∷ ps)) knows

    defined_is : (o : Result Settings ConfError) → (l.position ≡ c.position) × (l.state ≡ state_of r) → Is (defined o r) g
    defined_is (Ok settings) knows = makes_are settings (patterns_of settings.defs) knows
    defined_is (Err error) knows = refused_is (ConfRefused error)

    tree_is : (answer : TreeAnswer) → (l.position ≡ c.position) × (l.state ≡ state_of r) → Is (tree_read answer r) g
    tree_is (Tree tree) knows = defined_is (conf tree) knows
    tree_is TreeFailed knows = refused_is ConfFault
    tree_is TreeTooLarge knows = refused_is ConfTooLarge
    tree_is TreeNoMemory knows = inl c

    made_is : (answer : MakeAnswer) (settings : Settings) (p : Pattern) (ps : List Pattern) → (l.position ≡ c.position) × (l.state ≡ state_of r) → Is (made answer settings p ps r) g
    made_is Built settings p ps knows = makes_are settings ps knows
    made_is WasSyntax settings p ps knows = refused_is (PatternRefused p.jail p.place Syntax)
    made_is WasTooBig settings p ps knows = refused_is (PatternRefused p.jail p.place TooBig)

    makes_on_is : (left : List Pattern) (answer : MakeAnswer) (settings : Settings) → (l.position ≡ c.position) × (l.state ≡ state_of r) → Is (makes_on left answer settings r) g
    makes_on_is [] answer settings knows = inl c
    makes_on_is (p ∷ ps) answer settings knows = made_is answer settings p ps knows

    -- what is loaded is what the slots held as the run began
    loads_is : (settings : Settings) → (l.position ≡ c.position) × (l.state ≡ state_of r) → Is (loads (loaded r.plan.limit r.slots) settings r) g
    loads_is settings knows =
        let P : Result Loaded (ℕ × ℕ) → Type 0 = λ o. Is (loads o settings r) g in
        let own : loaded r.plan.limit r.slots ≡ Ok l = (λ i. loaded (c.limited i) (c.slots i)) ∙ is_loaded in
        subst P (sym own) (plain_is (AtListen settings l) knows)

    listened_is : (answer : Listen) (settings : Settings) (k : Loaded) → (k.position ≡ c.position) × (k.state ≡ state_of r) → Is (listened answer settings k r) g
    listened_is Listening settings k knows = plain_is (AtFirst settings k) knows
    listened_is ListenFailed settings k knows = refused_is GateFault

    names_are : (before : List (List ℕ)) (settings : Settings) (naming : Naming) (left : List Path) (t : Server) → Has c.position (state_of r) t → Is (to_names before settings naming left t r) g
    names_are before settings naming [] t has = brings_is (start_news before (with_paths settings.defs naming.found) t) first_turn (λ p s u h. (h, tt)) t has
    names_are before settings naming (p ∷ ps) t has = brings_is (record { before = before; what = None; behind = [] }) (AtNames settings naming) (λ p s u h. (h, tt)) t has

    -- ---- a turn

    module _ (t : Server) (has : Has c.position (state_of r) t) where
      of_turn_is : (p : Point) (u : Server) → IsOfTurn p u → Has c.position (state_of r) u → Is (goes_to p r) g
      of_turn_is p u turn there = let P : Point → Type 0 = λ q. Is (goes_to q r) g in turn_by P p u turn (λ place. plain_is (AtTurn place u) there) (plain_is (Over Stopped) tt)

      looked_is : (answer : Look) (a : Watching) (i : ℕ) → Is (looked answer a i t r) g
      looked_is (File file) a i = brings_is (look_news t.now a (look_taken t a file)) (to_looks (i + 1)) (turn_passes (to_looks (i + 1)) (looks_of_turn (i + 1))) (now_is i a file t) has
      looked_is Absent a i = of_turn_is (to_looks (i + 1) t) t (looks_of_turn (i + 1) t) has
      looked_is LookFailed a i = brings_is (unread_news t a) (to_looks (i + 1)) (turn_passes (to_looks (i + 1)) (looks_of_turn (i + 1))) t has
      looked_is LookNoMemory a i = inl c

      looked_at_is : (o : Option Watching) (answer : Look) (i : ℕ) → Is (looked_at o answer i t r) g
      looked_at_is None answer i = inl c
      looked_at_is (Some a) answer i = looked_is answer a i

      ended_is : (passed : Bool) (outcome : Outcome) (child : Child) (i : ℕ) → Is (ended_as passed outcome child i t r) g
      ended_is true outcome child i = of_turn_is (to_polls i (gone_passed child.job i t)) (gone_passed child.job i t) (polls_of_turn i (gone_passed child.job i t)) has
      ended_is false outcome child i = brings_is (end_news child outcome) (to_polls i) (turn_passes (to_polls i) (polls_of_turn i)) (gone i t) has

      polled_is : (o : Option Child) (answer : PollAnswer) (i : ℕ) → Is (polled_at o answer i t r) g
      polled_is None answer i = inl c
      polled_is (Some child) (PollEnded status) i = ended_is (has_succeeded child.task (EndedWith status)) (EndedWith status) child i
      polled_is (Some child) Running i = of_turn_is (still_point (is_late t.now child) i t) t (still_of_turn (is_late t.now child) i t) has
      polled_is (Some child) PollFailed i = of_turn_is (still_point (is_late t.now child) i t) t (still_of_turn (is_late t.now child) i t) has

      killed_is : (o : Option Child) (i : ℕ) → Is (killed_at o i t r) g
      killed_is None i = inl c
      killed_is (Some child) i = ended_is (has_succeeded child.task TimedOut) TimedOut child i

      started_is : (answer : StartAnswer) (child : Child) → Is (child_started answer child t r) g
      started_is Started child = of_turn_is (to_starts (with_child child t)) (with_child child t) (starts_of_turn (with_child child t)) has
      started_is StartFailed child = brings_is (end_news child NotStarted) to_starts (turn_passes to_starts starts_of_turn) (without_child child t) has
      started_is StartNoMemory child = inl c

      serves_is : (x : Service) → Is (serves x t r) g
      serves_is x = brings_is x.news (point_on x.onward) (turn_passes (point_on x.onward) (onward_of_turn x.onward)) (with_clients x.clients t) has

      -- with the logs of the jails that there are then
      follow_passes : (i : ℕ) → Passes (reloaded i)
      follow_passes i p st u h = let P : Point → Type 0 = λ q. Knows p st q × IsServing q in turn_by P (reloaded i u) (following u) (behind_of_turn i (following u)) (λ place. (h, tt)) (tt, tt)

      renames_are : (before : List (List ℕ)) (settings : Settings) (naming : Naming) (left : List Path) (i : ℕ) → Is (names_next (names_for i) (taken_for i) before settings naming left t r) g
      renames_are before settings naming left i = names_by (λ (x : Run). Is x g) (names_for i) (taken_for i) t r
          (λ lines defined at. brings_is (record { before = lines; what = None; behind = [] }) (names_for i defined at) (turn_passes (names_for i defined at) (λ u. place_of_turn (AtReload (OfNames defined at) i) u)) t has)
          (λ lines defs. brings_is (reload_news lines defs t) (reloaded i) (follow_passes i) (tells_taken i t) has) before settings naming left

      remakes_are : (i : ℕ) (settings : Settings) (ps : List Pattern) → Is (left_for i t settings ps r) g
      remakes_are i settings [] = renames_are [] settings (first_naming settings.defs) (first_naming settings.defs).left i
      remakes_are i settings (p ∷ ps) = plain_is (AtTurn (AtReload (OfMakes settings (p ∷ ps)) i) t) has

      untaken_is : (i : ℕ) (status : Status) → Is (untaken_for i t status r) g
      untaken_is i status = serves_is (tells_untaken status i t)

      reloads_are : (reading : Rereading) (event : Event) (i : ℕ) → Is (reloads reading event i t r) g
      reloads_are OfTree (Config root answer) i = tree_by (λ (x : Run). Is x g) (left_for i t) (untaken_for i t) r (remakes_are i) (λ status is. untaken_is i status) (inl c) answer
      reloads_are (OfMakes settings left) (Make text answer) i = makes_by (λ (x : Run). Is x g) (left_for i t) (untaken_for i t) r (remakes_are i) (λ status is. untaken_is i status) (inl c) left answer settings
      reloads_are (OfNames settings naming) (Names dir answer) i =
          let next = named (names_in answer) naming in renames_are (unread_by answer t.now naming.left) settings next next.left i
      reloads_are _ _ i = inl c

      turned_is : (n : ℕ) → Is (goes_to (turned n t) r) g
      turned_is zero = plain_is (Over TurnsSpent) tt
      turned_is (suc n) = plain_is (AtTurn AtClock (record t { left = suc n })) has

      turns_are : (place : Place) (event : Event) → Is (turns place event t r) g
      turns_are AtClock (Clock answer) = brings_is (tick_news (read_at answer t)) to_logs (turn_passes to_logs logs_of_turn) (read_at answer t) has
      turns_are (AtLook i) (LookAt path head from max answer) = looked_at_is (slice_get t.logs i) answer i
      turns_are (AtPoll i) (ChildPoll job answer) = polled_is (slice_get t.children.running i) answer i
      turns_are (AtKill i) (ChildKill job) = killed_is (slice_get t.children.running i) i
      turns_are AtAccept (GateAccept answer) = serves_is (lets_in answer t)
      turns_are (AtClient i) (GateRead conn max answer) = serves_is (reads answer i t)
      turns_are (AtClient i) (GateWrite conn bytes answer) = serves_is (writes answer i t)
      turns_are (AtClose i) (GateClose conn) = serves_is (closes i t)
      turns_are (AtReload reading i) event = reloads_are reading event i
      turns_are (AtStart child text) (ChildStart job command answer) = started_is answer child
      turns_are AtPause (Pause ms) = turned_is (t.left - 1)
      turns_are _ _ = inl c

    moved_is : (p : Point) (event : Event) → Knows c.position (state_of r) p → Is (moved p event r) g
    moved_is AtTree (Config root answer) knows = tree_is answer knows
    moved_is (AtMakes settings left) (Make text answer) knows = makes_on_is left answer settings knows
    moved_is (AtStore settings) (StoreAt socket answer) knows = loads_is settings knows
    moved_is (AtListen settings k) (GateListen socket answer) knows = listened_is answer settings k knows
    moved_is (AtFirst settings k) (Clock answer) knows =
        names_are [] settings (first_naming settings.defs) (first_naming settings.defs).left (begun r.plan.turns k answer) knows
    moved_is (AtNames settings naming t) (Names dir answer) knows =
        let next = named (names_in answer) naming in names_are (unread_by answer t.now naming.left) settings next next.left t knows
    moved_is (AtTurn place t) event knows = turns_are t knows place event
    moved_is _ _ knows = inl c

    -- ---- a call on the disk

    broken_is : Is (broken r) g
    broken_is = inl (record { position = c.position; written = refl; closed = c.closed; limited = c.limited; slots = c.slots; keeps = c.keeps; knows = tt })

    measured_is : (answer : Len) → Is (measured answer r) g
    measured_is (LenIs n) = inl c
    measured_is LenFailed = broken_is

    piece_is : (answer : Piece) → Is (piece_read answer r) g
    piece_is (PieceIs bytes) = inl c
    piece_is PieceFailed = broken_is
    piece_is PieceNoMemory = inl c

    said_is : Is (record r { said = r.said ++ r.owed; owed = [] }) g
    said_is = inl (record { position = c.position; written = c.written; closed = c.closed; limited = c.limited; slots = c.slots; keeps = c.keeps; knows = c.knows })

  -- ---- one event

  -- where nothing is left to write no call writes
  no_write : (r : Run) (event : Event) → r.writes ≡ [] → IsNext (next_call r) event → IsBeside event
  no_write r event none next =
      let call = call_of r.plan r.point r.owed in
      next_beside call event (call_no_write r.plan r.point r.owed) (subst (λ (o : Option Call). IsNext o event) (written_call r.writes call none) next)

  calm_still : (r : Run) (g : History) (event : Event) → (IsWrite event → ⊥) → IsCalm r g → IsCalm r (grown g (event ∷ []))
  calm_still r g event other c = record {
    position = c.position;
    written = c.written;
    closed = c.closed;
    limited = c.limited;
    slots = c.slots;
    keeps = keeps_still c.position (state_of r) g event other c.keeps;
    knows = c.knows;
  }

  calm_step : (r : Run) (g : History) (event : Event) → IsCalm r g → MayCome r event → Is (feed r event) (grown g (event ∷ []))
  calm_step r g (DiskLen slot answer) c may = measured_is r _ (calm_still r g (DiskLen slot answer) (λ w. w) c) answer
  calm_step r g (DiskRead slot at len answer) c may = piece_is r _ (calm_still r g (DiskRead slot at len answer) (λ w. w) c) answer
  calm_step r g (DiskWrite slot at bytes WroteNoMemory) c may = absurd may
  calm_step r g (DiskWrite slot at bytes answer) c may = absurd (no_write r (DiskWrite slot at bytes answer) c.written may.0)
  calm_step r g (DiskSync slot answer) c may = absurd (no_write r (DiskSync slot answer) c.written may.0)
  calm_step r g (Say bytes SayDone) c may = said_is r _ (calm_still r g (Say bytes SayDone) (λ w. w) c)
  calm_step r g (Say bytes SayFailed) c may = plain_is r _ (calm_still r g (Say bytes SayFailed) (λ w. w) c) (Over SinkFault) tt
  calm_step r g event c may = let d = calm_still r g event (λ w. w) c in moved_is r _ d r.point event d.knows

  permits_before : (g : History) (event : Event) (image : ℕ → List ℕ) → (IsWrite event → ⊥) → PermitsBoth (grown g (event ∷ [])) image → PermitsBoth g image
  permits_before g event image other permits slot small = subst (λ (s : Slot). Permits s (image slot)) (slot_still g event other slot) (permits slot small)

  cut_still : (r t : Run) (g : History) (event : Event) (status : Status) → (IsWrite event → ⊥) → (IsRegular status → ⊥) → ((owed : List (List ℕ)) → IsLoading (Over status) owed → ⊥)
      → (c : IsCut r g) → t.unclosed ≡ r.unclosed → t.closed ≡ r.closed → t.writes ≡ [] → t.point ≡ Over status → Is t (grown g (event ∷ []))
  cut_still r t g event status other irregular unread c unclosed closed written over =
      inr (inr (record {
        input = c.input;
        unclosed = unclosed ∙ c.unclosed;
        written = written;
        status = status;
        over = over;
        irregular = irregular;
        unread = unread;
        kept = record {
          each = λ image permits.
              let P : List Input → Type 0 = λ is. ComesTo (view_after v is) image ⊎ ComesTo (view_after v (is ++ option_to_list t.unclosed)) image in
              let Q : Option Input → Type 0 = λ o. ComesTo (view_after v r.closed) image ⊎ ComesTo (view_after v (r.closed ++ option_to_list o)) image in
              subst P (sym closed) (subst Q (sym unclosed) (c.kept.each image (permits_before g event image other permits)));
        };
      }))

  moved_over : (p : Point) (status : Status) (event : Event) (r : Run) → p ≡ Over status → moved p event r ≡ r
  moved_over p status event r is = ap (λ (q : Point). moved q event r) is

  cut_step : (r : Run) (g : History) (event : Event) → IsCut r g → MayCome r event → Is (feed r event) (grown g (event ∷ []))
  cut_step r g (DiskLen slot answer) c may = absurd (c.unread r.owed (subst (λ (p : Point). IsLoading p r.owed) c.over may.0))
  cut_step r g (DiskRead slot at len answer) c may = absurd (c.unread r.owed (subst (λ (p : Point). IsLoading p r.owed) c.over may.0))
  cut_step r g (DiskWrite slot at bytes WroteNoMemory) c may = absurd may
  cut_step r g (DiskWrite slot at bytes answer) c may = absurd (no_write r (DiskWrite slot at bytes answer) c.written may.0)
  cut_step r g (DiskSync slot answer) c may = absurd (no_write r (DiskSync slot answer) c.written may.0)
  cut_step r g (Say bytes SayDone) c may = cut_still r _ g (Say bytes SayDone) c.status (λ w. w) c.irregular c.unread c refl refl c.written c.over
  cut_step r g (Say bytes SayFailed) c may = cut_still r _ g (Say bytes SayFailed) SinkFault (λ w. w) (λ regular. regular) (λ owed loading. loading) c refl refl c.written refl
  cut_step r g event c may =
      let P : Run → Type 0 = λ t. Is t (grown g (event ∷ [])) in
      subst P (sym (moved_over r.point c.status event r c.over)) (cut_still r r g event c.status (λ w. w) c.irregular c.unread c refl refl c.written c.over)

  -- ---- one call more of an input

  done_more : (xs ys : List Write) → done_events (xs ++ ys) ≡ done_events xs ++ done_events ys
  done_more [] ys = refl
  done_more (x ∷ xs) ys = ap (λ (es : List Event). done_event x ∷ es) (done_more xs ys)

  module _ (r : Run) (g : History) (w : IsWriting r g) (storable : IsStorableInput w.input) where
    grown_then : (event : Event) → grown g (event ∷ []) ≡ grown w.begun_at (done_events w.done ++ event ∷ [])
    grown_then event = ap (λ (h : History). grown h (event ∷ [])) w.grown_is ∙ grown_twice w.begun_at (done_events w.done) (event ∷ [])

    failed_is : (event : Event) → event ≡ failed_event w.one → Is (broken r) (grown g (event ∷ []))
    failed_is event is =
        let events : List Event = done_events w.done ++ failed_event w.one ∷ [] in
        let there : grown g (event ∷ []) ≡ grown w.begun_at events = grown_then event ∙ ap (λ (e : Event). grown w.begun_at (done_events w.done ++ e ∷ [])) is in
        let part : IsPart (w.done ++ w.one ∷ w.more) events = inr (record { first = w.done; one = w.one; left = w.more; parts = refl; done = refl }) in
        let P : History → Type 0 = λ h. IsKept v (broken r) h in
        inr (inr (record {
          input = w.input;
          unclosed = w.unclosed;
          written = refl;
          status = DiskFault;
          over = refl;
          irregular = λ regular. regular;
          unread = λ owed loading. loading;
          kept = subst P (sym there) (kept_either (broken r) (grown w.begun_at events) w.input w.unclosed
              (entry_image w.before (state_of r) w.begun_at w.input w.keeps w.live storable w.behind (w.done ++ w.one ∷ w.more) w.entry events part));
        }))

    module _ (event : Event) (is : event ≡ done_event w.one) where
      there : grown g (event ∷ []) ≡ grown w.begun_at (done_events (w.done ++ w.one ∷ []))
      there =
          grown_then event ∙ ap (λ (e : Event). grown w.begun_at (done_events w.done ++ e ∷ [])) is
          ∙ ap (λ (es : List Event). grown w.begun_at es) (sym (done_more w.done (w.one ∷ [])))

      left_is : (left : List Write) → w.more ≡ left → Is (writing left r) (grown g (event ∷ []))
      left_is [] none =
          let all : List Write = w.done ++ w.one ∷ [] in
          let E : List Write → Type 0 = λ ws. entry_of w.before (view_of (state_of r)) w.input ≡ Written w.behind (w.done ++ w.one ∷ ws) in
          let keeps = entry_keeps w.before (state_of r) w.begun_at w.input w.keeps w.live storable w.behind all (subst E none w.entry) (done_events all) refl in
          let H : History → Type 0 = λ h. Keeps w.behind (step (state_of r) w.input) h in
          let S : State → Type 0 = λ s. Keeps w.behind s (grown g (event ∷ [])) × Knows w.behind s r.point in
          let both = subst S (sym (all_steps r w.input w.unclosed)) (subst H (sym there) keeps, w.knows) in
          inl (record { position = w.behind; written = refl; closed = refl; limited = w.limited; slots = w.slots; keeps = both.0; knows = both.1 })
      left_is (x ∷ xs) some =
          let E : List Write → Type 0 = λ ws. entry_of w.before (view_of (state_of r)) w.input ≡ Written w.behind ws in
          inr (inl (record {
            input = w.input;
            begun_at = w.begun_at;
            before = w.before;
            behind = w.behind;
            done = w.done ++ w.one ∷ [];
            one = x;
            more = xs;
            unclosed = w.unclosed;
            limited = w.limited;
            slots = w.slots;
            keeps = w.keeps;
            live = w.live;
            entry = subst E (ap (λ (ws : List Write). w.done ++ w.one ∷ ws) some ∙ sym (append_assoc w.done (w.one ∷ []) (x ∷ xs))) w.entry;
            writes = refl;
            grown_is = there;
            stored = inr storable;
            knows = w.knows;
            serving = w.serving;
          }))

      done_is : Is (writing (drop 1 r.writes) r) (grown g (event ∷ []))
      done_is =
          let P : List Write → Type 0 = λ ws. Is (writing (drop 1 ws) r) (grown g (event ∷ [])) in
          subst P (sym w.writes) (left_is w.more refl)

  written_so : (w : Write) (slot at : ℕ) (bytes : List ℕ) → Makes (AskWrite w) (DiskWrite slot at bytes WroteDone) → DiskWrite slot at bytes WroteDone ≡ done_event w
  written_so (Put own place all) slot at bytes makes = λ i. DiskWrite (makes.0 i) (makes.1 i) (makes.2 i) WroteDone
  written_so (Sync own) slot at bytes makes = absurd makes

  failed_so : (w : Write) (slot at : ℕ) (bytes : List ℕ) → Makes (AskWrite w) (DiskWrite slot at bytes WroteFailed) → DiskWrite slot at bytes WroteFailed ≡ failed_event w
  failed_so (Put own place all) slot at bytes makes = λ i. DiskWrite (makes.0 i) (makes.1 i) (makes.2 i) WroteFailed
  failed_so (Sync own) slot at bytes makes = absurd makes

  synced_so : (w : Write) (slot : ℕ) → Makes (AskWrite w) (DiskSync slot SyncDone) → DiskSync slot SyncDone ≡ done_event w
  synced_so (Put own place all) slot makes = absurd makes
  synced_so (Sync own) slot makes = ap (λ (n : ℕ). DiskSync n SyncDone) makes

  unsynced_so : (w : Write) (slot : ℕ) → Makes (AskWrite w) (DiskSync slot SyncFailed) → DiskSync slot SyncFailed ≡ failed_event w
  unsynced_so (Put own place all) slot makes = absurd makes
  unsynced_so (Sync own) slot makes = ap (λ (n : ℕ). DiskSync n SyncFailed) makes

  next_write : (r : Run) (g : History) (w : IsWriting r g) (event : Event) → IsNext (next_call r) event → Makes (AskWrite w.one) event
  next_write r g w event next = subst (λ (ws : List Write). IsNext (call_behind ws (call_of r.plan r.point r.owed)) event) w.writes next

  can_store : (r : Run) (g : History) (w : IsWriting r g) → IfSome r.unclosed IsStorableInput → IsStorableInput w.input
  can_store r g w some = let P : Option Input → Type 0 = λ o. IfSome o IsStorableInput in subst P w.unclosed some

  never_left : (r : Run) (g : History) (w : IsWriting r g) → r.writes ≡ [] → ⊥
  never_left r g w none = let e : w.one ∷ w.more ≡ [] = sym w.writes ∙ none in cc

  writing_step : (r : Run) (g : History) (event : Event) → IsWriting r g → MayCome r event → Is (feed r event) (grown g (event ∷ []))
  writing_step r g (DiskLen slot answer) w may = absurd (serving_quiet r.point r.owed w.serving may.0)
  writing_step r g (DiskRead slot at len answer) w may = absurd (serving_quiet r.point r.owed w.serving may.0)
  writing_step r g (DiskWrite slot at bytes WroteNoMemory) w may = absurd may
  writing_step r g (DiskWrite slot at bytes WroteDone) w may =
      let event = DiskWrite slot at bytes WroteDone in done_is r g w (can_store r g w may.1) event (written_so w.one slot at bytes (next_write r g w event may.0))
  writing_step r g (DiskWrite slot at bytes WroteFailed) w may =
      let event = DiskWrite slot at bytes WroteFailed in failed_is r g w (can_store r g w may.1) event (failed_so w.one slot at bytes (next_write r g w event may.0))
  writing_step r g (DiskSync slot SyncDone) w may =
      let event = DiskSync slot SyncDone in done_is r g w (can_store r g w may.1) event (synced_so w.one slot (next_write r g w event may.0))
  writing_step r g (DiskSync slot SyncFailed) w may =
      let event = DiskSync slot SyncFailed in failed_is r g w (can_store r g w may.1) event (unsynced_so w.one slot (next_write r g w event may.0))
  writing_step r g (Say bytes answer) w may = absurd (never_left r g w (none_left r.writes (call_of r.plan r.point r.owed) (Say bytes answer) tt may))
  writing_step r g event w may = absurd (never_left r g w (none_left r.writes (call_of r.plan r.point r.owed) event tt may))

  -- ---- whole runs

  is_step : (r : Run) (g : History) (event : Event) → Is r g → MayCome r event → Is (feed r event) (grown g (event ∷ []))
  is_step r g event (inl c) may = calm_step r g event c may
  is_step r g event (inr (inl w)) may = writing_step r g event w may
  is_step r g event (inr (inr c)) may = cut_step r g event c may

  is_none : (r : Run) (g : History) → Is r g → Is r (grown g [])
  is_none r g is = let P : History → Type 0 = λ h. Is r h in subst P (sym (grown_none g)) is

  is_along : (r : Run) (g : History) (es : List Event) → Is r g → Along feed MayCome Free r g es → (k : ℕ) → Is (after feed MayCome Free r (take k es)) (grown g (take k es))
  is_along r g [] is along zero = is_none r g is
  is_along r g [] is along (suc k) = is_none r g is
  is_along r g (event ∷ es) is along zero = is_none r g is
  is_along r g (event ∷ es) is along (suc k) =
      let P : History → Type 0 = λ h. Is (after feed MayCome Free (feed r event) (take k es)) h in
      subst P (grown_twice g (event ∷ []) (take k es)) (is_along (feed r event) (grown g (event ∷ [])) es (is_step r g event is along.0.allowed) along.1 k)

  -- ---- the order of calls

  in_order : (r : Run) (g : History) (event : Event) → Is r g → MayCome r event → ComesInOrder r event
  in_order r g event (inl c) may = inl c.closed
  in_order r g event (inr (inl w)) may = inr (inl (writes_so event may))
    where
      writes_so : (event : Event) → MayCome r event → IsWrite event
      writes_so (DiskLen slot answer) may = absurd (serving_quiet r.point r.owed w.serving may.0)
      writes_so (DiskRead slot at len answer) may = absurd (serving_quiet r.point r.owed w.serving may.0)
      writes_so (DiskWrite slot at bytes answer) may = tt
      writes_so (DiskSync slot answer) may = tt
      writes_so event may = absurd (never_left r g w (none_left r.writes (call_of r.plan r.point r.owed) event tt may))
  in_order r g event (inr (inr c)) may = inr (inr (let P : Point → Type 0 = λ p. IsOverAt p in subst P (sym c.over) tt))

  -- ---- a regular end

  over_of : (status : Status) (r : Run) → IsRegular status → Ends status r → IsOver status r
  over_of Stopped r regular ends = ends
  over_of TurnsSpent r regular ends = ends
  over_of status r regular ends = absurd regular

  closes_by : (status : Status) (r : Run) (g : History) → Is r g → Ends status r → IsRegular status → r.unclosed ≡ None
  closes_by status r g (inl c) ends regular = c.closed
  closes_by status r g (inr (inl w)) ends regular =
      let P : List Write → Type 0 = λ ws. call_behind ws (call_of r.plan r.point r.owed) ≡ None in
      absurd (let e : Some (AskWrite w.one) ≡ None = subst P w.writes (over_of status r regular ends).none in cc)
  closes_by status r g (inr (inr c)) ends regular =
      let same : Over status ≡ Over c.status = sym (over_of status r regular ends).point ∙ c.over in
      absurd (c.irregular (let P : Point → Type 0 = λ p. IsRegularAt p in subst P same regular))

-- ---- where a run begins

-- the limit of the words' plan
limit_small : (words : List (List ℕ)) (slots : ℕ → List ℕ) → (begin words slots).plan.limit < 2 ^ 64
limit_small words slots = by_plan (plan_of words) refl
  where
    by_plan : (o : Option Plan) → plan_of words ≡ o → (begin_with o slots).plan.limit < 2 ^ 64
    by_plan None is = omega arith
    by_plan (Some plan) is = (planned words plan is).limit

module _ (v : View) (g : History) (limit : ℕ) (limited : limit < 2 ^ 64) (begins : BeginsOn v g) where
  abbrev stored : Stored
  stored = begins.comes.stored

  loaded_there : Loads limit g begins.settled begins.bytes begins.held stored
  loaded_there = loads_stored limit g begins.settled begins.bytes begins.held stored begins.comes.means

  own_fine : IsFine (steps (back stored.view) stored.inputs)
  own_fine = fine_steps (back stored.view) stored.inputs loaded_there.inputs (fine_stored stored.view begins.comes.sound loaded_there.recorded)

  begins_keeping : Keeps loaded_there.position (back v) g
  begins_keeping =
      let P : View → Type 0 = λ w. IsFine (back w) × (w ≡ view_of (back w)) in
      let there = subst P begins.comes.comes (fine_back (steps (back stored.view) stored.inputs) own_fine, sym (view_again (steps (back stored.view) stored.inputs) own_fine.sound)) in
      record {
        stored = stored;
        rests = loaded_there.rests;
        viewed = begins.comes.sound;
        own = own_fine;
        comes = begins.comes.comes ∙ there.1;
        fine = there.0;
        limited = (let Q : ℕ → Type 0 = λ n. n < 2 ^ 64 in subst Q (sym loaded_there.limited) limited);
      }

-- a run begins with the journal at rest
begins_calm : (v : View) (g : History) (limit : ℕ) (l : Loaded) (is_loaded : loaded limit (held_in g) ≡ Ok l) → Keeps l.position (back v) g → l.state ≡ back v
    → (o : Option Plan) → limit ≡ (begin_with o (held_in g)).plan.limit → IsCalm v g limit l is_loaded (begin_with o (held_in g)) g
begins_calm v g limit l is_loaded keeps state None is = record { position = l.position; written = refl; closed = refl; limited = sym is; slots = refl; keeps = keeps; knows = tt }
begins_calm v g limit l is_loaded keeps state (Some plan) is = record { position = l.position; written = refl; closed = refl; limited = sym is; slots = refl; keeps = keeps; knows = (refl, state) }

-- A run that obeys the law keeps its inputs.
pub keeps_inputs : (words : List (List ℕ)) (status : Status) (v : View) (g : History) (es : List Event) → BeginsOn v g → Along feed MayCome Free (begin words (held_in g)) g es
    → Ends status (run_after words (held_in g) es) → KeepsInputs words status v g es
keeps_inputs words status v g es begins along ends =
    let slots = held_in g in
    let limit = (begin words slots).plan.limit in
    let limited = limit_small words slots in
    let there = loaded_there v g limit limited begins in
    let l : Loaded = loaded_as begins.comes.stored there.position in
    let keeping = begins_keeping v g limit limited begins in
    let first = begins_calm v g limit l there.is keeping (ap back begins.comes.comes) (plan_of words) refl in
    let at = is_along v g limit l there.is (begin words slots) g es (inl first) along in
    record {
      stops = λ k. kept_by v g limit l there.is (run_after words slots (take k es)) (grown g (take k es)) (at k);
      reads = λ k closed. stored_by v g limit l there.is (run_after words slots (take k es)) (grown g (take k es)) (at k) closed;
      ended = λ regular. closes_by v g limit l there.is status (run_after words slots es) (grown g es) (subst (λ (xs : List Event). Is v g limit l there.is (run_after words slots xs) (grown g xs)) (whole es) (at (length es))) ends regular;
      first = λ k event is. in_order v g limit l there.is (run_after words slots (take k es)) (grown g (take k es)) event (at k) (may_at (begin words slots) g es k event along is);
    }
