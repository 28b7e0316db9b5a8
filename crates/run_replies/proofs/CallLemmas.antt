-- Where calls on clients come: at the place of a turn that asks for them.
use Rattle.std.proofs.Common.{ℕ, ◌≡◌, List, [], ◌∷◌, Option, Some, None, refl, sym, subst}
use Rattle.std.specs.Prelude.{slice_get, option_map}
use Rattle.child_table.specs.declared.child.Child.{Child}
use Rattle.client_table.specs.Clients.{Asks, Nothing, Reads, Writes, asks_at, conn_at}
use Rattle.f2b_world.specs.Told.{IsReceived}
use Rattle.f2b_world.specs.declared.answer.Accept.{Accept}
use Rattle.f2b_world.specs.declared.answer.GateRead.{GateRead}
use Rattle.f2b_world.specs.declared.answer.GateWrite.{GateWrite}
use Rattle.f2b_world.specs.declared.event.Event.{Event}
use Rattle.f2b_world.specs.declared.event.Event.TheVariants.{Say, Make, Names, Look as LookAt, ChildPoll, ChildKill, GateAccept, GateRead as ReadFrom, GateWrite as WriteTo, GateClose}
use Rattle.log_set.specs.Logs.{Watching}
use Rattle.run_law.specs.Calls.{Call, AskKill, AskPoll, AskSay, IsNext, Makes}
use Rattle.run_law.specs.Law.{MayCome, call_of, point_call}
use Rattle.run_law.specs.Looks.{log_call}
use Rattle.run_law.specs.Paths.{Path}
use Rattle.run_law.specs.Patterns.{Pattern}
use Rattle.run_law.specs.Points.{AtLook, AtPoll, AtKill, AtAccept, AtClient, AtClose, AtReload, Point, AtMakes, AtNames, AtTurn, Over, Run}
use Rattle.run_law.specs.Reading.{make_call, names_call}
use Rattle.run_law.specs.Said.{joined}
use Rattle.run_law.specs.Server.{Server}
use Rattle.run_law.specs.Serving.{asked_call}
use Rattle.run_law.specs.Stages.{IsStill}
use Rattle.run_law.specs.declared.plan.Plan.{Plan}
use Rattle.run_law.specs.declared.status.Status.TheVariants.{SinkFault}
use Rattle.run_law.proofs.DiskLemmas.{next_behind, none_left}
use Rattle.run_law.proofs.PointLemmas.{paid_call}
use Rattle.run_law.proofs.ReadingLemmas.{reload_none}

-- ---- calls on clients are none of the others

abbrev IsTalk : Event → Type 0
IsTalk (GateAccept answer) = Unit {0}
IsTalk (ReadFrom conn max answer) = Unit {0}
IsTalk (WriteTo conn bytes answer) = Unit {0}
IsTalk (GateClose conn) = Unit {0}
IsTalk _ = ⊥

no_say : (line : List ℕ) (event : Event) → IsTalk event → Makes (AskSay line) event → ⊥
no_say line (Say bytes answer) talk makes = talk
no_say line event talk makes = makes

no_make : (left : List Pattern) (event : Event) → IsTalk event → IsNext (make_call left) event → ⊥
no_make [] event talk next = next
no_make (p ∷ ps) (Make text answer) talk next = talk
no_make (p ∷ ps) event talk next = next

no_names : (left : List Path) (event : Event) → IsTalk event → IsNext (names_call left) event → ⊥
no_names [] event talk next = next
no_names (p ∷ ps) (Names dir answer) talk next = talk
no_names (p ∷ ps) event talk next = next

no_look : (o : Option Watching) (event : Event) → IsTalk event → IsNext (option_map log_call o) event → ⊥
no_look None event talk next = next
no_look (Some l) (LookAt path head from max answer) talk next = talk
no_look (Some l) event talk next = next

no_poll : (o : Option Child) (event : Event) → IsTalk event → IsNext (option_map (λ (c : Child). AskPoll c.job) o) event → ⊥
no_poll None event talk next = next
no_poll (Some c) (ChildPoll job answer) talk next = talk
no_poll (Some c) event talk next = next

no_kill : (o : Option Child) (event : Event) → IsTalk event → IsNext (option_map (λ (c : Child). AskKill c.job) o) event → ⊥
no_kill None event talk next = next
no_kill (Some c) (ChildKill job) talk next = talk
no_kill (Some c) event talk next = next

-- ---- the call of a point, once all lines are said

said_alone : (plan : Plan) (point : Point) (line : List ℕ) (lines : List (List ℕ)) (event : Event) → IsTalk event → IsNext (call_of plan point (line ∷ lines)) event → ⊥
said_alone plan (Over SinkFault) line lines event talk next = next
said_alone plan point line lines event talk next = no_say (joined (line ∷ lines)) event talk next

at_point : (plan : Plan) (point : Point) (owed : List (List ℕ)) (event : Event) → IsTalk event → IsNext (call_of plan point owed) event → IsNext (point_call plan point) event
at_point plan point [] event talk next = subst (λ (c : Option Call). IsNext c event) (paid_call plan point) next
at_point plan point (line ∷ lines) event talk next = absurd (said_alone plan point line lines event talk next)

none_owed : (plan : Plan) (point : Point) (owed : List (List ℕ)) (event : Event) → IsTalk event → IsNext (call_of plan point owed) event → owed ≡ []
none_owed plan point [] event talk next = refl
none_owed plan point (line ∷ lines) event talk next = absurd (said_alone plan point line lines event talk next)

-- ---- accepts

pub record AcceptsAt (point : Point) : Type 0 where
  pub server : Server
  pub at : point ≡ AtTurn AtAccept server

accept_by : (plan : Plan) (point : Point) (answer : Accept) → IsNext (point_call plan point) (GateAccept answer) → AcceptsAt point
accept_by plan (AtMakes settings left) answer next = absurd (no_make left (GateAccept answer) tt next)
accept_by plan (AtNames settings naming s) answer next = absurd (no_names naming.left (GateAccept answer) tt next)
accept_by plan (AtTurn (AtLook i) s) answer next = absurd (no_look (slice_get s.logs i) (GateAccept answer) tt next)
accept_by plan (AtTurn (AtPoll i) s) answer next = absurd (no_poll (slice_get s.children.running i) (GateAccept answer) tt next)
accept_by plan (AtTurn (AtKill i) s) answer next = absurd (no_kill (slice_get s.children.running i) (GateAccept answer) tt next)
accept_by plan (AtTurn AtAccept s) answer next = record { server = s; at = refl }
accept_by plan (AtTurn (AtClient i) s) answer next = absurd (by_asks (conn_at i s.clients) (asks_at i s.clients) next)
  where
    by_asks : (conn : ℕ) (a : Asks) → IsNext (asked_call conn a) (GateAccept answer) → ⊥
    by_asks conn (Writes bytes) next = next
    by_asks conn (Reads most) next = next
    by_asks conn Nothing next = next
accept_by plan (AtTurn (AtReload reading i) s) answer next = absurd (reload_none (GateAccept answer) (λ root is. is) (λ text is. is) (λ dir is. is) plan reading next)
accept_by plan point answer next = absurd next

pub accepts_at : (r : Run) (answer : Accept) → MayCome r (GateAccept answer) → AcceptsAt r.point
accepts_at r answer may = accept_by r.plan r.point answer (at_point r.plan r.point r.owed (GateAccept answer) tt (next_behind r.writes (call_of r.plan r.point r.owed) (GateAccept answer) tt may))

-- ---- reads

-- a client at a place is read: it has that number, asks for that much, and is given no more
pub record ReadsAt (point : Point) (conn max : ℕ) (answer : GateRead) : Type 0 where
  pub place : ℕ
  pub server : Server
  pub at : point ≡ AtTurn (AtClient place) server
  pub number : conn ≡ conn_at place server.clients
  pub asks : asks_at place server.clients ≡ Reads max
  pub within : IsReceived max answer

read_by : (plan : Plan) (point : Point) (conn max : ℕ) (answer : GateRead) → IsNext (point_call plan point) (ReadFrom conn max answer) → ReadsAt point conn max answer
read_by plan (AtMakes settings left) conn max answer next = absurd (no_make left (ReadFrom conn max answer) tt next)
read_by plan (AtNames settings naming s) conn max answer next = absurd (no_names naming.left (ReadFrom conn max answer) tt next)
read_by plan (AtTurn (AtLook i) s) conn max answer next = absurd (no_look (slice_get s.logs i) (ReadFrom conn max answer) tt next)
read_by plan (AtTurn (AtPoll i) s) conn max answer next = absurd (no_poll (slice_get s.children.running i) (ReadFrom conn max answer) tt next)
read_by plan (AtTurn (AtKill i) s) conn max answer next = absurd (no_kill (slice_get s.children.running i) (ReadFrom conn max answer) tt next)
read_by plan (AtTurn (AtClient i) s) conn max answer next = by_asks (asks_at i s.clients) refl next
  where
    by_asks : (a : Asks) → asks_at i s.clients ≡ a → IsNext (asked_call (conn_at i s.clients) a) (ReadFrom conn max answer) → ReadsAt (AtTurn (AtClient i) s) conn max answer
    by_asks (Writes bytes) is next = absurd next
    by_asks (Reads most) is next = record {
      place = i;
      server = s;
      at = refl;
      number = next.0;
      asks = subst (λ (n : ℕ). asks_at i s.clients ≡ Reads n) (sym next.1) is;
      within = subst (λ (n : ℕ). IsReceived n answer) (sym next.1) next.2;
    }
    by_asks Nothing is next = absurd next
read_by plan (AtTurn (AtReload reading i) s) conn max answer next = absurd (reload_none (ReadFrom conn max answer) (λ root is. is) (λ text is. is) (λ dir is. is) plan reading next)
read_by plan point conn max answer next = absurd next

pub reads_at : (r : Run) (conn max : ℕ) (answer : GateRead) → MayCome r (ReadFrom conn max answer) → ReadsAt r.point conn max answer
reads_at r conn max answer may =
    let event : Event = ReadFrom conn max answer in
    read_by r.plan r.point conn max answer (at_point r.plan r.point r.owed event tt (next_behind r.writes (call_of r.plan r.point r.owed) event tt may))

-- nothing is left to write then, and all lines are said
pub read_still : (r : Run) (conn max : ℕ) (answer : GateRead) → MayCome r (ReadFrom conn max answer) → IsStill r
read_still r conn max answer may =
    let event : Event = ReadFrom conn max answer in
    let call : Option Call = call_of r.plan r.point r.owed in
    record { written = none_left r.writes call event tt may; paid = none_owed r.plan r.point r.owed event tt (next_behind r.writes call event tt may) }

-- ---- writes

-- a client at a place is written to: it has that number, and asks for these bytes
pub record WritesAt (point : Point) (conn : ℕ) (bytes : List ℕ) : Type 0 where
  pub place : ℕ
  pub server : Server
  pub at : point ≡ AtTurn (AtClient place) server
  pub number : conn ≡ conn_at place server.clients
  pub asks : asks_at place server.clients ≡ Writes bytes

write_by : (plan : Plan) (point : Point) (conn : ℕ) (bytes : List ℕ) (answer : GateWrite) → IsNext (point_call plan point) (WriteTo conn bytes answer) → WritesAt point conn bytes
write_by plan (AtMakes settings left) conn bytes answer next = absurd (no_make left (WriteTo conn bytes answer) tt next)
write_by plan (AtNames settings naming s) conn bytes answer next = absurd (no_names naming.left (WriteTo conn bytes answer) tt next)
write_by plan (AtTurn (AtLook i) s) conn bytes answer next = absurd (no_look (slice_get s.logs i) (WriteTo conn bytes answer) tt next)
write_by plan (AtTurn (AtPoll i) s) conn bytes answer next = absurd (no_poll (slice_get s.children.running i) (WriteTo conn bytes answer) tt next)
write_by plan (AtTurn (AtKill i) s) conn bytes answer next = absurd (no_kill (slice_get s.children.running i) (WriteTo conn bytes answer) tt next)
write_by plan (AtTurn (AtClient i) s) conn bytes answer next = by_asks (asks_at i s.clients) refl next
  where
    by_asks : (a : Asks) → asks_at i s.clients ≡ a → IsNext (asked_call (conn_at i s.clients) a) (WriteTo conn bytes answer) → WritesAt (AtTurn (AtClient i) s) conn bytes
    by_asks (Writes sent) is next = record { place = i; server = s; at = refl; number = next.0; asks = subst (λ (b : List ℕ). asks_at i s.clients ≡ Writes b) (sym next.1) is }
    by_asks (Reads most) is next = absurd next
    by_asks Nothing is next = absurd next
write_by plan (AtTurn (AtReload reading i) s) conn bytes answer next = absurd (reload_none (WriteTo conn bytes answer) (λ root is. is) (λ text is. is) (λ dir is. is) plan reading next)
write_by plan point conn bytes answer next = absurd next

pub writes_at : (r : Run) (conn : ℕ) (bytes : List ℕ) (answer : GateWrite) → MayCome r (WriteTo conn bytes answer) → WritesAt r.point conn bytes
writes_at r conn bytes answer may =
    let event : Event = WriteTo conn bytes answer in
    write_by r.plan r.point conn bytes answer (at_point r.plan r.point r.owed event tt (next_behind r.writes (call_of r.plan r.point r.owed) event tt may))

-- ---- closes

pub record ClosesAt (point : Point) (conn : ℕ) : Type 0 where
  pub place : ℕ
  pub server : Server
  pub at : point ≡ AtTurn (AtClose place) server
  pub number : conn ≡ conn_at place server.clients

close_by : (plan : Plan) (point : Point) (conn : ℕ) → IsNext (point_call plan point) (GateClose conn) → ClosesAt point conn
close_by plan (AtMakes settings left) conn next = absurd (no_make left (GateClose conn) tt next)
close_by plan (AtNames settings naming s) conn next = absurd (no_names naming.left (GateClose conn) tt next)
close_by plan (AtTurn (AtLook i) s) conn next = absurd (no_look (slice_get s.logs i) (GateClose conn) tt next)
close_by plan (AtTurn (AtPoll i) s) conn next = absurd (no_poll (slice_get s.children.running i) (GateClose conn) tt next)
close_by plan (AtTurn (AtKill i) s) conn next = absurd (no_kill (slice_get s.children.running i) (GateClose conn) tt next)
close_by plan (AtTurn (AtClient i) s) conn next = absurd (by_asks (conn_at i s.clients) (asks_at i s.clients) next)
  where
    by_asks : (there : ℕ) (a : Asks) → IsNext (asked_call there a) (GateClose conn) → ⊥
    by_asks there (Writes bytes) next = next
    by_asks there (Reads most) next = next
    by_asks there Nothing next = next
close_by plan (AtTurn (AtClose i) s) conn next = record { place = i; server = s; at = refl; number = next }
close_by plan (AtTurn (AtReload reading i) s) conn next = absurd (reload_none (GateClose conn) (λ root is. is) (λ text is. is) (λ dir is. is) plan reading next)
close_by plan point conn next = absurd next

pub closes_at : (r : Run) (conn : ℕ) → MayCome r (GateClose conn) → ClosesAt r.point conn
closes_at r conn may = close_by r.plan r.point conn (at_point r.plan r.point r.owed (GateClose conn) tt (next_behind r.writes (call_of r.plan r.point r.owed) (GateClose conn) tt may))
