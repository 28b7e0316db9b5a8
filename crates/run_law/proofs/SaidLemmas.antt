-- From the law alone: at every point what was said is a beginning of the lines.
use Rattle.std.proofs.Common.{ℕ, zero, suc, ◌≡◌, ◌⊎◌, inl, inr, ◌++◌, List, [], ◌∷◌, length, take, Option, Some, None, refl, sym, ap, ◌∙◌, append-nil, append_assoc, subst}
use Rattle.std.specs.Prelude.{slice_get, option_map}
use Rattle.f2b_world.specs.Told.{History, grown}
use Rattle.f2b_world.specs.Walks.{after, Along}
use Rattle.f2b_world.specs.declared.answer.PollAnswer.{PollAnswer}
use Rattle.f2b_world.specs.declared.answer.Said.{Said}
use Rattle.f2b_world.specs.declared.answer.Said.TheVariants.{Done, Failed as SayFailed}
use Rattle.f2b_world.specs.declared.answer.StartAnswer.{StartAnswer}
use Rattle.f2b_world.specs.declared.event.Event.{Event}
use Rattle.f2b_world.specs.declared.event.Event.TheVariants.{Say, ChildStart, ChildPoll, Pause}
use Rattle.child_table.specs.declared.child.Child.{Child}
use Rattle.log_set.specs.Logs.{Watching}
use Rattle.client_table.specs.Clients.{asks_at, conn_at}
use Rattle.run_law.specs.Calls.{Call, AskKill, AskPoll, AskSay, IsNext}
use Rattle.run_law.specs.Law.{Free, Ends, IsOver, MayCome, begin, begin_with, call_of, feed, point_call, turn_call}
use Rattle.run_law.specs.Looks.{log_call}
use Rattle.run_law.specs.Paths.{Path}
use Rattle.run_law.specs.Patterns.{Pattern}
use Rattle.run_law.specs.Points.{Place, AtClock, AtLook, AtPoll, AtKill, AtAccept, AtClient, AtClose, AtReload, AtStart, AtPause, Point, AtTree, AtMakes, AtStore, AtListen, AtFirst, AtNames, AtTurn, Over, Run}
use Rattle.run_law.specs.Said.{joined}
use Rattle.run_law.specs.Served.{SaysAll, SaysInOrder, lines_by, run_after, said_by}
use Rattle.run_law.specs.Server.{Server}
use Rattle.run_law.specs.Stages.{IsSaying}
use Rattle.run_law.specs.Reading.{make_call, names_call}
use Rattle.run_law.specs.Words.{plan_of}
use Rattle.run_law.proofs.DiskLemmas.{next_behind, none_behind}
use Rattle.run_law.proofs.ReadingLemmas.{reload_none}
use Rattle.run_law.proofs.ServingLemmas.{asked_none}
use Rattle.run_law.proofs.PointLemmas.{paid_call, saying_call}
use Rattle.run_law.specs.declared.plan.Plan.{Plan}
use Rattle.run_law.specs.declared.status.Status.{Status}
use Rattle.run_law.specs.declared.status.Status.TheVariants.{Stopped, TurnsSpent, WorkloadDone, Usage, ConfFault, ConfRefused, DiskFault, NotAJournal, JournalFull, GateFault, SinkFault, ConfTooLarge, PatternRefused, NumbersSpent, NoMemory}
use Rattle.run_law.proofs.FieldLemmas.{feed_says}

-- ---- what comes next

make_says_none : (left : List Pattern) (bytes : List ℕ) (answer : Said) → IsNext (make_call left) (Say bytes answer) → ⊥
make_says_none [] bytes answer next = next
make_says_none (p ∷ ps) bytes answer next = next

names_say_none : (left : List Path) (bytes : List ℕ) (answer : Said) → IsNext (names_call left) (Say bytes answer) → ⊥
names_say_none [] bytes answer next = next
names_say_none (p ∷ ps) bytes answer next = next

look_says_none : (o : Option Watching) (bytes : List ℕ) (answer : Said) → IsNext (option_map log_call o) (Say bytes answer) → ⊥
look_says_none None bytes answer next = next
look_says_none (Some l) bytes answer next = next

poll_says_none : (o : Option Child) (bytes : List ℕ) (answer : Said) → IsNext (option_map (λ (c : Child). AskPoll c.job) o) (Say bytes answer) → ⊥
poll_says_none None bytes answer next = next
poll_says_none (Some c) bytes answer next = next

kill_says_none : (o : Option Child) (bytes : List ℕ) (answer : Said) → IsNext (option_map (λ (c : Child). AskKill c.job) o) (Say bytes answer) → ⊥
kill_says_none None bytes answer next = next
kill_says_none (Some c) bytes answer next = next

turn_says_none : (plan : Plan) (place : Place) (s : Server) (bytes : List ℕ) (answer : Said) → IsNext (turn_call plan place s) (Say bytes answer) → ⊥
turn_says_none plan AtClock s bytes answer next = next
turn_says_none plan (AtLook i) s bytes answer next = look_says_none (slice_get s.logs i) bytes answer next
turn_says_none plan (AtPoll i) s bytes answer next = poll_says_none (slice_get s.children.running i) bytes answer next
turn_says_none plan (AtKill i) s bytes answer next = kill_says_none (slice_get s.children.running i) bytes answer next
turn_says_none plan AtAccept s bytes answer next = next
turn_says_none plan (AtClient i) s bytes answer next = asked_none (Say bytes answer) (conn_at i s.clients) (asks_at i s.clients) (λ sent is. is) (λ most is. is) next
turn_says_none plan (AtClose i) s bytes answer next = next
turn_says_none plan (AtReload reading i) s bytes answer next = reload_none (Say bytes answer) (λ root is. is) (λ text is. is) (λ dir is. is) plan reading next
turn_says_none plan (AtStart c text) s bytes answer next = next
turn_says_none plan AtPause s bytes answer next = next

-- a say is no call of a point
point_says_none : (plan : Plan) (point : Point) (bytes : List ℕ) (answer : Said) → IsNext (point_call plan point) (Say bytes answer) → ⊥
point_says_none plan AtTree bytes answer next = next
point_says_none plan (AtMakes settings left) bytes answer next = make_says_none left bytes answer next
point_says_none plan (AtStore settings) bytes answer next = next
point_says_none plan (AtListen settings l) bytes answer next = next
point_says_none plan (AtFirst settings l) bytes answer next = next
point_says_none plan (AtNames settings naming s) bytes answer next = names_say_none naming.left bytes answer next
point_says_none plan (AtTurn place s) bytes answer next = turn_says_none plan place s bytes answer next
point_says_none plan (Over status) bytes answer next = next

-- the call while lines are owed: none once a line could not be said, and else all of them
owed_call : (plan : Plan) (point : Point) (line : List ℕ) (lines : List (List ℕ)) → (call_of plan point (line ∷ lines) ≡ None) ⊎ (call_of plan point (line ∷ lines) ≡ Some (AskSay (joined (line ∷ lines))))
owed_call plan AtTree line lines = inr refl
owed_call plan (AtMakes settings left) line lines = inr refl
owed_call plan (AtStore settings) line lines = inr refl
owed_call plan (AtListen settings l) line lines = inr refl
owed_call plan (AtFirst settings l) line lines = inr refl
owed_call plan (AtNames settings naming s) line lines = inr refl
owed_call plan (AtTurn place s) line lines = inr refl
owed_call plan (Over Stopped) line lines = inr refl
owed_call plan (Over TurnsSpent) line lines = inr refl
owed_call plan (Over WorkloadDone) line lines = inr refl
owed_call plan (Over Usage) line lines = inr refl
owed_call plan (Over ConfFault) line lines = inr refl
owed_call plan (Over (ConfRefused error)) line lines = inr refl
owed_call plan (Over DiskFault) line lines = inr refl
owed_call plan (Over (NotAJournal slot at)) line lines = inr refl
owed_call plan (Over (JournalFull need limit)) line lines = inr refl
owed_call plan (Over GateFault) line lines = inr refl
owed_call plan (Over SinkFault) line lines = inl refl
owed_call plan (Over ConfTooLarge) line lines = inr refl
owed_call plan (Over (PatternRefused jail place kind)) line lines = inr refl
owed_call plan (Over NumbersSpent) line lines = inr refl
owed_call plan (Over NoMemory) line lines = inr refl

-- what is said is all that is owed
said_next : (plan : Plan) (point : Point) (owed : List (List ℕ)) (bytes : List ℕ) (answer : Said) → IsNext (call_of plan point owed) (Say bytes answer) → bytes ≡ joined owed
said_next plan point [] bytes answer next =
    let P : Option Call → Type 0 = λ c. IsNext c (Say bytes answer) in
    absurd (point_says_none plan point bytes answer (subst P (paid_call plan point) next))
said_next plan point (line ∷ lines) bytes answer next =
    let P : Option Call → Type 0 = λ c. IsNext c (Say bytes answer) in
    elim (owed_call plan point line lines) [ inl none ↦ absurd (subst P none next) | inr says ↦ subst P says next ]

-- a pause comes where nothing is owed
pub pause_next : (plan : Plan) (point : Point) (owed : List (List ℕ)) (ms : ℕ) → IsNext (call_of plan point owed) (Pause ms) → owed ≡ []
pause_next plan point [] ms next = refl
pause_next plan point (line ∷ lines) ms next =
    let P : Option Call → Type 0 = λ c. IsNext c (Pause ms) in
    elim (owed_call plan point line lines) [ inl none ↦ absurd (subst P none next) | inr says ↦ absurd (subst P says next) ]

-- so does a start of a command
pub start_next : (plan : Plan) (point : Point) (owed : List (List ℕ)) (job : ℕ) (text : List ℕ) (answer : StartAnswer) → IsNext (call_of plan point owed) (ChildStart job text answer) → owed ≡ []
start_next plan point [] job text answer next = refl
start_next plan point (line ∷ lines) job text answer next =
    let P : Option Call → Type 0 = λ c. IsNext c (ChildStart job text answer) in
    elim (owed_call plan point line lines) [ inl none ↦ absurd (subst P none next) | inr says ↦ absurd (subst P says next) ]

-- and a poll of one
pub poll_next : (plan : Plan) (point : Point) (owed : List (List ℕ)) (job : ℕ) (answer : PollAnswer) → IsNext (call_of plan point owed) (ChildPoll job answer) → owed ≡ []
poll_next plan point [] job answer next = refl
poll_next plan point (line ∷ lines) job answer next =
    let P : Option Call → Type 0 = λ c. IsNext c (ChildPoll job answer) in
    elim (owed_call plan point line lines) [ inl none ↦ absurd (subst P none next) | inr says ↦ absurd (subst P says next) ]

-- ---- lines that were said

-- so much was said
record Stands (r : Run) (said : List ℕ) : Type 0 where
  pub is : said ≡ joined r.said

joined-append : (xs ys : List (List ℕ)) → joined (xs ++ ys) ≡ joined xs ++ joined ys
joined-append [] ys = refl
joined-append (x ∷ xs) ys = ap (λ b. x ++ b) (joined-append xs ys) ∙ sym (append_assoc x (joined xs) (joined ys))

stands_step : (r : Run) (said : List ℕ) (event : Event) → Stands r said → MayCome r event → Stands (feed r event) (said ++ said_by (event ∷ []))
stands_step r said (Say bytes Done) st may = record {
  is =
      ap (λ b. said ++ b) (append-nil bytes ∙ said_next r.plan r.point r.owed bytes Done (next_behind r.writes (call_of r.plan r.point r.owed) (Say bytes Done) tt may))
      ∙ ap (λ b. b ++ joined r.owed) st.is
      ∙ sym (joined-append r.said r.owed);
}
stands_step r said (Say bytes SayFailed) st may = record { is = append-nil said ∙ st.is }
stands_step r said event st may = record { is = append-nil said ∙ st.is ∙ ap joined (sym (feed_says r event tt)) }

said_on : (event : Event) (es : List Event) → said_by (event ∷ es) ≡ said_by (event ∷ []) ++ said_by es
said_on (Say bytes Done) es = ap (λ b. b ++ said_by es) (sym (append-nil bytes))
said_on event es = refl

-- ---- whole runs

walk : (r : Run) (said : List ℕ) (g : History) (es : List Event) → Stands r said → Along feed MayCome Free r g es → (k : ℕ) → Stands (after feed MayCome Free r (take k es)) (said ++ said_by (take k es))
walk r said g es st along zero = record { is = append-nil said ∙ st.is }
walk r said g [] st along (suc k) = record { is = append-nil said ∙ st.is }
walk r said g (event ∷ es) st along (suc k) =
    let rest = walk (feed r event) (said ++ said_by (event ∷ [])) (grown g (event ∷ [])) es (stands_step r said event st along.0.allowed) along.1 k in
    let P : List ℕ → Type 0 = λ b. Stands (after feed MayCome Free (feed r event) (take k es)) b in
    subst P (append_assoc said (said_by (event ∷ [])) (said_by (take k es)) ∙ ap (λ b. said ++ b) (sym (said_on event (take k es)))) rest

pub may_at : (r : Run) (g : History) (es : List Event) (k : ℕ) (event : Event) → Along feed MayCome Free r g es → slice_get es k ≡ Some event → MayCome (after feed MayCome Free r (take k es)) event
may_at r g [] k event along is = absurd (cc)
may_at r g (first ∷ es) zero event along is = let same : first ≡ event = cc in let P : Event → Type 0 = λ e. MayCome r e in subst P same along.0.allowed
may_at r g (first ∷ es) (suc k) event along is = may_at (feed r first) (grown g (first ∷ [])) es k event along.1 is

begin_stands : (o : Option Plan) (slots : ℕ → List ℕ) → Stands (begin_with o slots) []
begin_stands None slots = record { is = refl }
begin_stands (Some plan) slots = record { is = refl }

stands_at : (words : List (List ℕ)) (slots : ℕ → List ℕ) (g : History) (es : List Event) → Along feed MayCome Free (begin words slots) g es → (k : ℕ)
    → Stands (run_after words slots (take k es)) (said_by (take k es))
stands_at words slots g es along k = walk (begin words slots) [] g es (begin_stands (plan_of words) slots) along k

-- ---- the end

-- where no call is left nothing is owed, unless a line could not be said
none_owed : (plan : Plan) (status : Status) (owed : List (List ℕ)) → IsSaying (Over status) → call_of plan (Over status) owed ≡ None → owed ≡ []
none_owed plan status [] saying none = refl
none_owed plan status (line ∷ lines) saying none = absurd (let e : Some (AskSay (joined (line ∷ lines))) ≡ None = sym (saying_call plan (Over status) line lines saying) ∙ none in cc)

all_said : (words : List (List ℕ)) (slots : ℕ → List ℕ) (es : List Event) → Stands (run_after words slots es) (said_by es) → (run_after words slots es).owed ≡ [] → said_by es ≡ lines_by words slots es
all_said words slots es st none =
    let at = run_after words slots es in
    st.is ∙ ap joined (sym (append-nil at.said)) ∙ ap (λ (ls : List (List ℕ)). joined (at.said ++ ls)) (sym none)

over_all : (words : List (List ℕ)) (slots : ℕ → List ℕ) (status : Status) (es : List Event) → IsSaying (Over status) → Stands (run_after words slots es) (said_by es) → IsOver status (run_after words slots es) → said_by es ≡ lines_by words slots es
over_all words slots status es saying st over =
    let at = run_after words slots es in
    let P : Point → Type 0 = λ point. call_of at.plan point at.owed ≡ None in
    all_said words slots es st (none_owed at.plan status at.owed saying (subst P over.point (none_behind at.writes (call_of at.plan at.point at.owed) over.none)))

says_all : (words : List (List ℕ)) (slots : ℕ → List ℕ) (status : Status) (es : List Event) → Stands (run_after words slots es) (said_by es) → Ends status (run_after words slots es) → SaysAll words slots status es
says_all words slots Stopped es st over = over_all words slots Stopped es tt st over
says_all words slots TurnsSpent es st over = over_all words slots TurnsSpent es tt st over
says_all words slots WorkloadDone es st over = over_all words slots WorkloadDone es tt st over
says_all words slots Usage es st over = over_all words slots Usage es tt st over
says_all words slots ConfFault es st over = over_all words slots ConfFault es tt st over
says_all words slots (ConfRefused error) es st over = over_all words slots (ConfRefused error) es tt st over
says_all words slots DiskFault es st over = over_all words slots DiskFault es tt st over
says_all words slots (NotAJournal slot at) es st over = over_all words slots (NotAJournal slot at) es tt st over
says_all words slots (JournalFull need limit) es st over = over_all words slots (JournalFull need limit) es tt st over
says_all words slots GateFault es st over = over_all words slots GateFault es tt st over
says_all words slots SinkFault es st over = tt
says_all words slots ConfTooLarge es st over = over_all words slots ConfTooLarge es tt st over
says_all words slots (PatternRefused jail place kind) es st over = over_all words slots (PatternRefused jail place kind) es tt st over
says_all words slots NumbersSpent es st over = over_all words slots NumbersSpent es tt st over
says_all words slots NoMemory es st over = tt

whole : (es : List Event) → take (length es) es ≡ es
whole [] = refl
whole (event ∷ es) = ap (λ rest. event ∷ rest) (whole es)

-- a run that obeys the law says its lines in their order
pub says_in_order : (words : List (List ℕ)) (slots : ℕ → List ℕ) (status : Status) (g : History) (es : List Event) → Along feed MayCome Free (begin words slots) g es → Ends status (run_after words slots es) → SaysInOrder words slots status es
says_in_order words slots status g es along ends =
    let P : List Event → Type 0 = λ xs. Stands (run_after words slots xs) (said_by xs) in
    record {
      begins = λ k.
          let at = run_after words slots (take k es) in
          (joined at.owed, joined-append at.said at.owed ∙ ap (λ b. b ++ joined at.owed) (sym (stands_at words slots g es along k).is));
      paused = λ k ms is.
          let at = run_after words slots (take k es) in
          all_said words slots (take k es) (stands_at words slots g es along k) (pause_next at.plan at.point at.owed ms (next_behind at.writes (call_of at.plan at.point at.owed) (Pause ms) tt (may_at (begin words slots) g es k (Pause ms) along is)));
      ended = says_all words slots status es (subst P (whole es) (stands_at words slots g es along (length es))) ends;
    }
