-- One event of a run: a client goes on with its life.
use Rattle.std.proofs.Common.{ℕ, ◌≡◌, ◌⊎◌, inl, inr, Bool, true, false, ◌==◌, if◌then◌else◌, List, [], ◌∷◌, ◌++◌, length, take, drop, Option, Some, None, refl, sym, ap, append-nil, ◌∙◌, subst}
use Rattle.std.specs.Prelude.{slice_get}
use Rattle.std.specs.Option.{option_map_or}
use Rattle.std.proofs.lemmas.Bool.{eq-eqb, ne_eqb}
use Rattle.std.proofs.lemmas.List.{take-append-drop}
use Rattle.client_frames.specs.Comes.{Heard, Part, Is, heard, wanted_of}
use Rattle.client_frames.proofs.FrameLemmas.{fed, within_fed}
use Rattle.client_frames.specs.Frames.{reply}
use Rattle.client_frames.specs.declared.answer.Answer.{Answer}
use Rattle.client_table.specs.Clients.{Asks, Client, AnswersRead, Nothing, Reads, Writes, accepted, after_read, after_write, answered, asks, asks_at, asks_to_read, changed_at, conn_at, heard_at, heard_in}
use Rattle.client_table.proofs.AskLemmas.{is_read, is_received, read_answered}
use Rattle.client_table.proofs.PlaceLemmas.{get-changed_at, map_at}
use Rattle.f2b_world.specs.Bounds.{IsBounded}
use Rattle.f2b_world.specs.Told.{History, IsReceived, connected_after, grown, is_in}
use Rattle.f2b_world.specs.Walks.{Comes}
use Rattle.f2b_world.specs.declared.answer.Accept.{Accept}
use Rattle.f2b_world.specs.declared.answer.Accept.TheVariants.{Conn}
use Rattle.f2b_world.specs.declared.answer.GateRead.{GateRead}
use Rattle.f2b_world.specs.declared.answer.GateRead.TheVariants as read
use Rattle.f2b_world.specs.declared.answer.GateWrite.{GateWrite}
use Rattle.f2b_world.specs.declared.answer.GateWrite.TheVariants as write
use Rattle.f2b_world.specs.declared.event.Event.{Event}
use Rattle.f2b_world.specs.declared.event.Event.TheVariants.{GateAccept, GateRead as ReadFrom, GateWrite as WriteTo, GateClose}
use Rattle.run_law.specs.Law.{Free, MayCome, feed, moved}
use Rattle.run_law.specs.News.{brings, nothing}
use Rattle.run_law.specs.Points.{AtAccept, AtClient, AtClose, AtReload, AtTurn, OfTree, Point, Rereading, Run}
use Rattle.run_law.specs.Requests.{Answers, ReadsAgain, Response, to_heard}
use Rattle.run_law.specs.Served.{run_after}
use Rattle.run_law.specs.Server.{Server}
use Rattle.run_law.specs.Serving.{Rereads, closes, lets_in, point_on, reads, reads_by, responded, serves, with_clients, writes}
use Rattle.run_law.specs.Stages.{IsStill}
use Rattle.run_replies.specs.Replied.{waiting}
use Rattle.run_replies.specs.Talks.{came_by, closes_it, taken_by}
use Rattle.run_replies.proofs.CallLemmas.{AcceptsAt, ClosesAt, ReadsAt, WritesAt, accepts_at, closes_at, read_still, reads_at, writes_at}
use Rattle.run_replies.proofs.HeardLemmas.{heard_fits}
use Rattle.run_replies.proofs.LifeLemmas.{IsResponded, Lived, Waits, bytes_append, lived_heard, lived_on, waits_answered, waits_on}
use Rattle.run_replies.proofs.NumberLemmas.{AreNumbered, client_at, client_of, none_of, numbered_changed, other_added, other_changed, other_removed, own_changed, same_or_not}
use Rattle.run_replies.proofs.PlaceLemmas.{HasClients, IsNoTalk, IsStable, Stands, has_fed, has_served, has_weaker}
use Rattle.run_replies.proofs.RereadLemmas.{IsAnswered, IsQuiet, Leads, ReadsOn, by_rest, leads_by}
use Rattle.run_replies.proofs.InUseLemmas.{HasNumbers, IsNew, Numbered, is_new, keeps_read, keeps_write, numbered_on, there_by}

-- ---- a client that asks

-- the client at a place, which asks so
record AsksThere (place : ℕ) (cs : List Client) (a : Asks) : Type 0 where
  pub client : Client
  pub at : slice_get cs place ≡ Some client
  pub asks_so : asks client ≡ a

asks_there : (place : ℕ) (cs : List Client) (a : Asks) → (Nothing ≡ a → ⊥) → asks_at place cs ≡ a → AsksThere place cs a
asks_there place cs a some is = by_client (slice_get cs place) refl is
  where
    by_client : (o : Option Client) → slice_get cs place ≡ o → option_map_or asks o Nothing ≡ a → AsksThere place cs a
    by_client None at is = absurd (some is)
    by_client (Some c) at is = record { client = c; at = at; asks_so = is }

reads_some : (max : ℕ) → Nothing ≡ Reads max → ⊥
reads_some max e = absurd (cc)

writes_some : (bytes : List ℕ) → Nothing ≡ Writes bytes → ⊥
writes_some bytes e = absurd (cc)

-- what is offered is all that is unwritten
offers_all : (c : Client) (bytes : List ℕ) → asks c ≡ Writes bytes → bytes ≡ c.unwritten
offers_all c bytes is = by_length (length c.unwritten == 0) is
  where
    to_read : (refused : Bool) (came : List ℕ) → asks_to_read (record { came = came; refused = refused }) ≡ Writes bytes → ⊥
    to_read true came e = let nothing : Nothing ≡ Writes bytes = e in absurd (cc)
    to_read false came e = let some : Reads (wanted_of came false) ≡ Writes bytes = e in absurd (cc)

    by_length : (b : Bool) → (if b then asks_to_read c.hearing else Writes c.unwritten) ≡ Writes bytes → bytes ≡ c.unwritten
    by_length true e = absurd (to_read c.hearing.refused c.hearing.came e)
    by_length false e = let same : Writes c.unwritten ≡ Writes bytes = e in cc

-- ---- the life of one client

-- a response is put in, if there is one
abbrev replied_by : Option Response → Client → Client
replied_by (Some (Answers given news)) c = answered given c
replied_by _ c = c

module _ (used : List ℕ) (place : ℕ) (cs : List Client) (d : Client) (are : AreNumbered used cs) (at : slice_get cs place ≡ Some d) (change : Client → Client) (keeps : (c : Client) → (change c).conn ≡ c.conn) where
  own_responded : (o : Option Response) → client_of d.conn (responded o place (changed_at place change cs)) ≡ Some (replied_by o (change d))
  own_responded (Some (Answers given news)) =
      ap (λ (n : ℕ). client_of n (changed_at place (answered given) (changed_at place change cs))) (sym (keeps d))
      ∙ own_changed (answered given) (λ c. refl) used place (changed_at place change cs) (change d) (numbered_changed change keeps used place cs are) (get-changed_at place change cs d at)
  own_responded _ = own_changed change keeps used place cs d are at

  other_responded : (conn : ℕ) → (d.conn ≡ conn → ⊥) → (o : Option Response) → client_of conn (responded o place (changed_at place change cs)) ≡ client_of conn cs
  other_responded conn not (Some (Answers given news)) =
      other_changed (answered given) (λ c. refl) conn place (changed_at place change cs) (change d) (get-changed_at place change cs d at) (λ e. not (sym (keeps d) ∙ e))
      ∙ other_changed change keeps conn place cs d at not
  other_responded conn not _ = other_changed change keeps conn place cs d at not

-- where nothing is brought the run is at its point, and still as it was
nothing_brought : (next : Server → Point) (s : Server) (r : Run) → (brings nothing next s r).point ≡ next s
unfolding brings
nothing_brought next s r = refl

still_brought : (next : Server → Point) (s : Server) (r : Run) → IsStill r → IsStill (brings nothing next s r)
unfolding brings
still_brought next s r still = record { written = still.written; paid = append-nil r.owed ∙ still.paid }

abbrev IsReload : Point → Type 0
IsReload (AtTurn (AtReload reading i) s) = Unit {0}
IsReload _ = ⊥

module _ (words : List (List ℕ)) (slots : ℕ → List ℕ) (conn : ℕ) (start : List Event) where
  abbrev LivedAs : List Event → Client → Type 0
  LivedAs life c = Lived words slots conn start life c.hearing.came c.hearing.refused c.unwritten 0

  -- the client with its number is this one
  abbrev pub Of : Client → List Client → Type 0
  Of c cs = client_of conn cs ≡ Some c

  -- another one stands at that place
  abbrev pub IsOther : ℕ → List Client → Type 0
  IsOther i cs = (c : Client) × (slice_get cs i ≡ Some c) × (c.conn ≡ conn → ⊥)

  -- No configuration is read again for it: all its requests are answered.
  pub record IsSettled (life : List Event) (r : Run) : Type 0 where
    pub client : Client
    pub here : HasClients (Of client) IsOther r.point
    pub lived : LivedAs life client

  -- A configuration is read again for it: its last request waits.
  pub record IsWaiting (life : List Event) (r : Run) : Type 0 where
    pub reading : Rereading
    pub place : ℕ
    pub server : Server
    pub at : r.point ≡ AtTurn (AtReload reading place) server
    pub quiet : IsQuiet reading r
    pub client : Client
    pub here : slice_get server.clients place ≡ Some client
    pub number : client.conn ≡ conn
    pub unrefused : client.hearing.refused ≡ false
    pub waits : Waits words slots conn start life client.hearing.came reading

  abbrev pub Goes : List Event → Run → Type 0
  Goes life r = IsSettled life r ⊎ IsWaiting life r

  -- how many of its requests wait
  pub settled_waiting : (c : Client) (point : Point) → HasClients (Of c) IsOther point → waiting conn point ≡ 0
  settled_waiting c (AtTurn (AtReload reading i) s) has =
      let other = has.1 in rw (ne_eqb (conn_at i s.clients) conn (λ e. other.2 (sym (map_at (λ (d : Client). d.conn) 0 s.clients i other.0 other.1) ∙ e))) refl
  settled_waiting c point has = refl

  pub one_waiting : (life : List Event) (r : Run) → IsWaiting life r → waiting conn r.point ≡ 1
  one_waiting life r w =
      let number : conn_at w.place w.server.clients ≡ conn = map_at (λ (d : Client). d.conn) 0 w.server.clients w.place w.client w.here ∙ w.number in
      ap (waiting conn) w.at ∙ rw (eq-eqb (conn_at w.place w.server.clients) conn number) refl

  -- Behind these events since its accept.
  pub record Lives (life : List Event) (g : History) (r : Run) : Type 0 where
    pub numbers : Numbered g r
    pub goes : Goes life r

  -- at any other point none is read again
  settled_there : (life : List Event) (r : Run) (p : Point) → r.point ≡ p → (IsReload p → ⊥) → Goes life r → IsSettled life r
  settled_there life r p at none (inl settled) = settled
  settled_there life r p at none (inr w) = absurd (none (subst IsReload (sym w.at ∙ at) tt))

  -- ---- what a read of it comes to

  -- the client as it was read, and what is replied to that
  abbrev IsReadAs : Option Response → List Event → Client → Type 0
  IsReadAs (Some ReadsAgain) life c = Waits words slots conn start life c.hearing.came OfTree × (c.hearing.refused ≡ false)
  IsReadAs o life c = LivedAs life (replied_by o c)

  replied_lived : (life : List Event) (o : Option Response) (c : Client) → c.unwritten ≡ [] → IsResponded words slots conn start life c.hearing o → IsReadAs o life c
  replied_lived life None c none lived = subst (λ (b : List ℕ). Lived words slots conn start life c.hearing.came c.hearing.refused b 0) (sym none) lived
  replied_lived life (Some (Answers given news)) c none lived = lived
  replied_lived life (Some ReadsAgain) c none waits = waits

  module _ (life : List Event) (r : Run) (is : r ≡ run_after words slots (start ++ life)) where
    module _ (max place : ℕ) (s : Server) (at : r.point ≡ AtTurn (AtClient place) s) (c : Client) (asks_so : asks c ≡ Reads max) (lived : LivedAs life c) where
      -- nothing came
      quiet_lived : (event : Event) → came_by conn event ≡ [] → taken_by conn event ≡ [] → LivedAs (life ++ event ∷ []) c
      quiet_lived event came took =
          lived_on words slots conn start life event c.hearing.came c.hearing.refused c.unwritten c.unwritten 0 came (ap (λ (t : List ℕ). t ++ c.unwritten) (sym took)) lived

      read_lived : (there : ℕ) (answer : GateRead) → there ≡ conn → IsReceived max answer → IsBounded (ReadFrom there max answer)
          → IsReadAs (to_heard s.now s.state (heard_in answer c)) (life ++ ReadFrom there max answer ∷ []) (after_read s.now answer c)
      unfolding to_heard
      read_lived there (read.Bytes bytes) same within bounded =
          let event : Event = ReadFrom there max (read.Bytes bytes) in
          let front : List ℕ = c.hearing.came in
          let asked : AnswersRead (asks c) (read.Bytes bytes) = read_answered (asks c) max (read.Bytes bytes) (sym asks_so) within in
          let calm = is_read c (read.Bytes bytes) asked in
          let received : IsReceived (wanted_of front c.hearing.refused) (read.Bytes bytes) = is_received c (read.Bytes bytes) asked in
          let wants = fed front bytes c.hearing.refused received.0 received.1 in
          let what : Is (heard (front ++ bytes)) (front ++ bytes) = heard_fits (front ++ bytes) (bytes_append front bytes lived.bytes bounded) (within_fed front bytes wants.some wants.few) in
          let comes : came_by conn event ≡ bytes = rw (eq-eqb there conn same) refl in
          let before : Lived words slots conn start life front false [] 0 =
          subst (λ (b : List ℕ). Lived words slots conn start life front false b 0) calm.none (subst (λ (b : Bool). Lived words slots conn start life front b c.unwritten 0) calm.unrefused lived) in
          let stands : (run_after words slots (start ++ life)).point ≡ AtTurn (AtClient place) s = ap (λ (x : Run). x.point) (sym is) ∙ at in
          replied_lived (life ++ event ∷ []) (to_heard s.now s.state (heard (front ++ bytes))) (after_read s.now (read.Bytes bytes) c) calm.none
          (lived_heard words slots conn start life event front bytes comes refl bounded before place s stands (heard (front ++ bytes)) what)
      read_lived there read.Quiet same within bounded = quiet_lived (ReadFrom there max read.Quiet) refl refl
      read_lived there read.End same within bounded = quiet_lived (ReadFrom there max read.End) refl refl
      read_lived there read.Failed same within bounded = quiet_lived (ReadFrom there max read.Failed) refl refl
      read_lived there read.NoMemory same within bounded = quiet_lived (ReadFrom there max read.NoMemory) refl refl

    -- the run behind that
    read_goes : (used : List ℕ) (place : ℕ) (s : Server) (answer : GateRead) (d : Client) → AreNumbered used s.clients → slice_get s.clients place ≡ Some d → d.conn ≡ conn → IsStill r
        → (event : Event) (o : Option Response) → IsReadAs o (life ++ event ∷ []) (after_read s.now answer d) → Goes (life ++ event ∷ []) (serves (reads_by o answer place s) s r)
    read_goes used place s answer d are at number still event (Some ReadsAgain) waits =
        let cs : List Client = changed_at place (after_read s.now answer) s.clients in
        inr (record {
          reading = OfTree;
          place = place;
          server = with_clients cs s;
          at = nothing_brought (point_on (Rereads place)) (with_clients cs s) r;
          quiet = still_brought (point_on (Rereads place)) (with_clients cs s) r still;
          client = after_read s.now answer d;
          here = get-changed_at place (after_read s.now answer) s.clients d at;
          number = keeps_read s.now answer d ∙ number;
          unrefused = waits.1;
          waits = waits.0;
        })
    read_goes used place s answer d are at number still event o lived =
        let next : Client = replied_by o (after_read s.now answer d) in
        let there_is : client_of conn (reads_by o answer place s).clients ≡ Some next =
        ap (λ (n : ℕ). client_of n (reads_by o answer place s).clients) (sym number) ∙ own_responded used place s.clients d are at (after_read s.now answer) (keeps_read s.now answer) o in
        inl (record { client = next; here = has_served (Of next) IsOther (reads_by o answer place s) s r there_is tt; lived = lived })

    -- a read of another one
    other_came : (there max : ℕ) (answer : GateRead) → (there ≡ conn → ⊥) → came_by conn (ReadFrom there max answer) ≡ []
    other_came there max (read.Bytes bytes) not = rw (ne_eqb there conn not) refl
    other_came there max answer not = refl

    -- ---- a write to it

    write_lived : (there now : ℕ) (bytes : List ℕ) (answer : GateWrite) (c : Client) → there ≡ conn → bytes ≡ c.unwritten → LivedAs life c → LivedAs (life ++ WriteTo there bytes answer ∷ []) (after_write now answer c)
    write_lived there now bytes (write.Took count) c same all lived =
        let event : Event = WriteTo there bytes (write.Took count) in
        let took : taken_by conn event ≡ take count c.unwritten = rw (eq-eqb there conn same) (ap (take count) all) in
        let takes : c.unwritten ≡ taken_by conn event ++ drop count c.unwritten =
        sym (take-append-drop count c.unwritten) ∙ ap (λ (t : List ℕ). t ++ drop count c.unwritten) (sym took) in
        lived_on words slots conn start life event c.hearing.came c.hearing.refused c.unwritten (drop count c.unwritten) 0 refl takes lived
    write_lived there now bytes write.Quiet c same all lived = lived_on words slots conn start life (WriteTo there bytes write.Quiet) c.hearing.came c.hearing.refused c.unwritten c.unwritten 0 refl refl lived
    write_lived there now bytes write.Failed c same all lived = lived_on words slots conn start life (WriteTo there bytes write.Failed) c.hearing.came c.hearing.refused c.unwritten c.unwritten 0 refl refl lived

    other_taken : (there : ℕ) (bytes : List ℕ) (answer : GateWrite) → (there ≡ conn → ⊥) → taken_by conn (WriteTo there bytes answer) ≡ []
    other_taken there bytes (write.Took count) not = rw (ne_eqb there conn not) refl
    other_taken there bytes answer not = refl

    -- ---- each event

    -- one more has a number that is not in use, so that it is another one
    let_in : (used : List ℕ) (answer : Accept) (s : Server) (c : Client) → IsNew used (GateAccept answer) → AreNumbered used s.clients → client_of conn s.clients ≡ Some c
        → HasClients (Of c) IsOther (serves (lets_in answer s) s r).point
    let_in used (Conn new) s c fresh are same =
        let not : new ≡ conn → ⊥ =
        λ e. let none : client_of conn s.clients ≡ None = none_of used conn s.clients are (ap (λ (n : ℕ). is_in n used) (sym e) ∙ fresh) in
        absurd (let both : Some c ≡ None = sym same ∙ none in cc) in
        has_served (Of c) IsOther (lets_in (Conn new) s) s r (other_added (accepted new s.now) conn s.clients not ∙ same) tt
    let_in used answer s c fresh are same = has_served (Of c) IsOther (lets_in answer s) s r same tt

    -- the life is the same but for the events
    same_lived : (event : Event) (c : Client) → came_by conn event ≡ [] → taken_by conn event ≡ [] → LivedAs life c → LivedAs (life ++ event ∷ []) c
    same_lived event c came took lived =
        lived_on words slots conn start life event c.hearing.came c.hearing.refused c.unwritten c.unwritten 0 came (ap (λ (t : List ℕ). t ++ c.unwritten) (sym took)) lived

    -- another one may be answered
    stable : (c : Client) (point : Point) → HasClients (Of c) IsOther point → IsStable (Of c) point
    stable c (AtTurn (AtReload reading i) s) has = λ given. other_changed (answered given) (λ d. refl) conn i s.clients has.1.0 has.1.1 has.1.2 ∙ has.0
    stable c point has = tt

    settled_on : (event : Event) → IsNoTalk event → came_by conn event ≡ [] → taken_by conn event ≡ [] → IsSettled life r → Goes (life ++ event ∷ []) (feed r event)
    settled_on event none came took settled =
        let c : Client = settled.client in
        inl (record { client = c; here = has_fed (Of c) IsOther r event none (stable c r.point settled.here) settled.here; lived = same_lived event c came took settled.lived })

    -- ---- an event while a configuration is read again for it

    module _ (event : Event) (came : came_by conn event ≡ []) (took : taken_by conn event ≡ []) (w : IsWaiting life r) where
      reads_on : (to : Run) → ReadsOn (λ later. by_rest w.reading (event ∷ later)) w.place w.server to → Goes (life ++ event ∷ []) to
      reads_on to on = inr (record {
        reading = on.reading;
        place = w.place;
        server = w.server;
        at = on.at;
        quiet = on.quiet;
        client = w.client;
        here = w.here;
        number = w.number;
        unrefused = w.unrefused;
        waits = waits_on words slots conn start life event w.client.hearing.came w.reading came took w.waits on.reading on.same;
      })

      is_answered : (used : List ℕ) (to : Run) → AreNumbered used w.server.clients → IsAnswered (λ later. by_rest w.reading (event ∷ later)) w.place w.server to → Goes (life ++ event ∷ []) to
      is_answered used to are answers =
          let given : Answer = answers.given in
          let next : Client = answered given w.client in
          let cs : List Client = changed_at w.place (answered given) w.server.clients in
          let there : Of next cs = ap (λ (n : ℕ). client_of n cs) (sym w.number) ∙ own_changed (answered given) (λ c. refl) used w.place w.server.clients w.client are w.here in
          inl (record {
            client = next;
            here = has_weaker (λ ds. ds ≡ cs) (Of next) (λ j ds. ⊥) IsOther (λ ds same. ap (client_of conn) same ∙ there) (λ j ds none. absurd none) to.point answers.clients;
            lived = subst (λ (b : Bool). Lived words slots conn start (life ++ event ∷ []) w.client.hearing.came b (reply given) 0) (sym w.unrefused)
                (waits_answered words slots conn start life event w.client.hearing.came w.reading came took w.waits given answers.same);
          })

      waiting_by : (used : List ℕ) (to : Run) → AreNumbered used w.server.clients → Leads (λ later. by_rest w.reading (event ∷ later)) w.place w.server to → Goes (life ++ event ∷ []) to
      waiting_by used to are (inl on) = reads_on to on
      waiting_by used to are (inr answers) = is_answered used to are answers

      waiting_on : (g : History) → Numbered g r → MayCome r event → Goes (life ++ event ∷ []) (feed r event)
      waiting_on g numbers may =
          let used : List ℕ = connected_after [] g.events in
          let are : AreNumbered used w.server.clients × Unit {0} = subst (λ (p : Point). HasNumbers used p) w.at numbers in
          waiting_by used (feed r event) are.0 (leads_by w.place w.server r w.reading event w.at w.quiet may)

    module _ (g : History) (lives : Lives life g r) where
      abbrev uses : List ℕ
      uses = connected_after [] g.events

      read_on : (there max : ℕ) (answer : GateRead) → Comes feed MayCome Free r g (ReadFrom there max answer) → ReadsAt r.point there max answer
          → Goes (life ++ ReadFrom there max answer ∷ []) (feed r (ReadFrom there max answer))
      read_on there max answer comes reads_there =
          let event : Event = ReadFrom there max answer in
          let place : ℕ = reads_there.place in
          let s : Server = reads_there.server in
          let cs : List Client = s.clients in
          let settled = settled_there life r (AtTurn (AtClient place) s) reads_there.at (λ none. none) lives.goes in
          let asked = asks_there place cs (Reads max) (reads_some max) reads_there.asks in
          let d : Client = asked.client in
          let number : there ≡ d.conn = reads_there.number ∙ map_at (λ (c : Client). c.conn) 0 cs place d asked.at in
          let are : AreNumbered uses cs = subst (λ (p : Point). HasNumbers uses p) reads_there.at lives.numbers in
          let mine : client_of conn cs ≡ Some settled.client = subst (λ (p : Point). HasClients (Of settled.client) IsOther p) reads_there.at settled.here in
          let o : Option Response = to_heard s.now s.state (heard_at answer place cs) in
          subst (λ (p : Point). Goes (life ++ event ∷ []) (moved p event r)) (sym reads_there.at) (elim (same_or_not there conn) [
            | inl same ↦
                let found : Some d ≡ Some settled.client = sym (client_at uses cs place d are asked.at) ∙ ap (λ (n : ℕ). client_of n cs) (sym number ∙ same) ∙ mine in
                let client_is : settled.client ≡ d = cc in
                let was : LivedAs life d = subst (λ (c : Client). LivedAs life c) client_is settled.lived in
                read_goes uses place s answer d are asked.at (sym number ∙ same) (read_still r there max answer comes.allowed) event o
                (subst (λ (h : Heard). IsReadAs (to_heard s.now s.state h) (life ++ event ∷ []) (after_read s.now answer d)) (sym (map_at (heard_in answer) Part cs place d asked.at))
                (read_lived max place s reads_there.at d asked.asks_so was there answer same reads_there.within comes.bounded))
            | inr not ↦
                let other : d.conn ≡ conn → ⊥ = λ e. not (number ∙ e) in
                let still : client_of conn (reads answer place s).clients ≡ Some settled.client =
                other_responded uses place cs d are asked.at (after_read s.now answer) (keeps_read s.now answer) conn other o ∙ mine in
                let d_there : IsOther place (changed_at place (after_read s.now answer) cs) = (after_read s.now answer d, get-changed_at place (after_read s.now answer) cs d asked.at, λ e. other (sym (keeps_read s.now answer d) ∙ e)) in
                inl (record {
                  client = settled.client;
                  here = has_served (Of settled.client) IsOther (reads answer place s) s r still (there_by IsOther o place (changed_at place (after_read s.now answer) cs) d_there);
                  lived = same_lived event settled.client (other_came there max answer not) refl settled.lived;
                })
          ])

      write_on : (there : ℕ) (bytes : List ℕ) (answer : GateWrite) → Comes feed MayCome Free r g (WriteTo there bytes answer) → WritesAt r.point there bytes
          → Goes (life ++ WriteTo there bytes answer ∷ []) (feed r (WriteTo there bytes answer))
      write_on there bytes answer comes writes_there =
          let event : Event = WriteTo there bytes answer in
          let place : ℕ = writes_there.place in
          let s : Server = writes_there.server in
          let cs : List Client = s.clients in
          let settled = settled_there life r (AtTurn (AtClient place) s) writes_there.at (λ none. none) lives.goes in
          let asked = asks_there place cs (Writes bytes) (writes_some bytes) writes_there.asks in
          let d : Client = asked.client in
          let number : there ≡ d.conn = writes_there.number ∙ map_at (λ (c : Client). c.conn) 0 cs place d asked.at in
          let are : AreNumbered uses cs = subst (λ (p : Point). HasNumbers uses p) writes_there.at lives.numbers in
          let mine : client_of conn cs ≡ Some settled.client = subst (λ (p : Point). HasClients (Of settled.client) IsOther p) writes_there.at settled.here in
          subst (λ (p : Point). Goes (life ++ event ∷ []) (moved p event r)) (sym writes_there.at) (elim (same_or_not there conn) [
            | inl same ↦
                let found : Some d ≡ Some settled.client = sym (client_at uses cs place d are asked.at) ∙ ap (λ (n : ℕ). client_of n cs) (sym number ∙ same) ∙ mine in
                let client_is : settled.client ≡ d = cc in
                let next : Client = after_write s.now answer d in
                let there_is : client_of conn (writes answer place s).clients ≡ Some next =
                ap (λ (n : ℕ). client_of n (writes answer place s).clients) (sym same ∙ number) ∙ own_changed (after_write s.now answer) (keeps_write s.now answer) uses place cs d are asked.at in
                let was : LivedAs life d = subst (λ (c : Client). LivedAs life c) client_is settled.lived in
                inl (record { client = next; here = has_served (Of next) IsOther (writes answer place s) s r there_is tt; lived = write_lived there s.now bytes answer d same (offers_all d bytes asked.asks_so) was })
            | inr not ↦
                let still : client_of conn (writes answer place s).clients ≡ Some settled.client =
                other_changed (after_write s.now answer) (keeps_write s.now answer) conn place cs d asked.at (λ e. not (number ∙ e)) ∙ mine in
                inl (record {
                  client = settled.client;
                  here = has_served (Of settled.client) IsOther (writes answer place s) s r still tt;
                  lived = same_lived event settled.client refl (other_taken there bytes answer not) settled.lived;
                })
          ])

      close_on : (there : ℕ) → Comes feed MayCome Free r g (GateClose there) → (there == conn) ≡ false → ClosesAt r.point there → Goes (life ++ GateClose there ∷ []) (feed r (GateClose there))
      close_on there comes other closes_there =
          let event : Event = GateClose there in
          let s : Server = closes_there.server in
          let place : ℕ = closes_there.place in
          let settled = settled_there life r (AtTurn (AtClose place) s) closes_there.at (λ none. none) lives.goes in
          let not : there ≡ conn → ⊥ = λ e. let both : true ≡ false = sym (eq-eqb there conn e) ∙ other in absurd (cc) in
          let mine : (client_of conn s.clients ≡ Some settled.client) × Stands place s.clients = subst (λ (p : Point). HasClients (Of settled.client) IsOther p) closes_there.at settled.here in
          let number : there ≡ mine.1.0.conn = closes_there.number ∙ map_at (λ (c : Client). c.conn) 0 s.clients place mine.1.0 mine.1.1 in
          let still : client_of conn (closes place s).clients ≡ Some settled.client = other_removed conn place s.clients mine.1.0 mine.1.1 (λ e. not (number ∙ e)) ∙ mine.0 in
          inl (record {
            client = settled.client;
            here = subst (λ (p : Point). HasClients (Of settled.client) IsOther (moved p event r).point) (sym closes_there.at) (has_served (Of settled.client) IsOther (closes place s) s r still tt);
            lived = same_lived event settled.client refl refl settled.lived;
          })

      accept_on : (answer : Accept) → Comes feed MayCome Free r g (GateAccept answer) → AcceptsAt r.point → Goes (life ++ GateAccept answer ∷ []) (feed r (GateAccept answer))
      accept_on answer comes there =
          let s : Server = there.server in
          let settled = settled_there life r (AtTurn AtAccept s) there.at (λ none. none) lives.goes in
          let are : AreNumbered uses s.clients = subst (λ (p : Point). HasNumbers uses p) there.at lives.numbers in
          let mine : client_of conn s.clients ≡ Some settled.client = subst (λ (p : Point). HasClients (Of settled.client) IsOther p) there.at settled.here in
          inl (record {
            client = settled.client;
            here = subst (λ (p : Point). HasClients (Of settled.client) IsOther (moved p (GateAccept answer) r).point) (sym there.at) (let_in uses answer s settled.client (is_new g (GateAccept answer) comes.honest) are mine);
            lived = same_lived (GateAccept answer) settled.client refl refl settled.lived;
          })

      -- no call on a client
      quiet_on : (event : Event) → IsNoTalk event → came_by conn event ≡ [] → taken_by conn event ≡ [] → MayCome r event → Goes life r → Goes (life ++ event ∷ []) (feed r event)
      quiet_on event none came took may (inl settled) = settled_on event none came took settled
      quiet_on event none came took may (inr w) = waiting_on event came took w g lives.numbers may

      goes_on : (event : Event) → Comes feed MayCome Free r g event → closes_it conn event ≡ false → Goes (life ++ event ∷ []) (feed r event)
      goes_on (GateAccept answer) comes other = accept_on answer comes (accepts_at r answer comes.allowed)
      goes_on (ReadFrom there max answer) comes other = read_on there max answer comes (reads_at r there max answer comes.allowed)
      goes_on (WriteTo there bytes answer) comes other = write_on there bytes answer comes (writes_at r there bytes answer comes.allowed)
      goes_on (GateClose there) comes other = close_on there comes other (closes_at r there comes.allowed)
      goes_on event comes other = quiet_on event tt refl refl comes.allowed lives.goes

      -- whatever comes but its own close
      pub lives_on : (event : Event) → Comes feed MayCome Free r g event → closes_it conn event ≡ false → Lives (life ++ event ∷ []) (grown g (event ∷ [])) (feed r event)
      lives_on event comes other = record { numbers = numbered_on g r event comes lives.numbers; goes = goes_on event comes other }
