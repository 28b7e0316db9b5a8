-- How a run goes on from a point, and how lines are said there.
use Rattle.std.proofs.Common.{ℕ, ◌≡◌, ◌≤◌, ◌++◌, List, [], ◌∷◌, length, Option, Some, None, refl, sym, ap, ◌∙◌, append-nil, subst, arith}
use Rattle.f2b_world.specs.declared.event.Event.{Event}
use Rattle.f2b_world.specs.declared.event.Event.TheVariants.{Say}
use Rattle.f2b_world.specs.declared.answer.Said.TheVariants.{Done as SayDone, Failed as SayFailed}
use Rattle.f2b_world.specs.Told.{History, Standing, Called}
use Rattle.f2b_world.proofs.WalkLemmas.{walks_refl, walks_trans, walks_call}
use Rattle.run_law.specs.Calls.{Call, AskSay, IsNext}
use Rattle.run_law.specs.Law.{Free, Goes, Halts, Ends, IsOver, MayCome, call_of, feed, moved, next_call, point_call, turn_call, turns}
use Rattle.run_law.specs.News.{refused}
use Rattle.run_law.specs.Points.{Place, Point, AtTree, AtMakes, AtStore, AtListen, AtFirst, AtNames, AtTurn, Over, Run}
use Rattle.run_law.specs.Refusals.{status_lines}
use Rattle.run_law.specs.Said.{joined}
use Rattle.run_law.specs.Server.{Server}
use Rattle.run_law.specs.Stages.{IsAt, IsRefusal, IsSaying, IsStill, Owes, Refuses, Says, SayFails}
use Rattle.run_law.proofs.DiskLemmas.{may_beside, next_beside, point_no_write, written_call}
use Rattle.run_law.specs.declared.plan.Plan.{Plan}
use Rattle.run_law.specs.declared.status.Status.{Status}
use Rattle.run_law.specs.declared.status.Status.TheVariants.{Stopped, TurnsSpent, WorkloadDone, Usage, ConfFault, ConfRefused, DiskFault, NotAJournal, JournalFull, GateFault, SinkFault, ConfTooLarge, PatternRefused, NumbersSpent, NoMemory}

-- ---- walks of a run

-- where nothing happens the run stays
pub goes_refl : (told : Option History) (r : Run) → Goes told told r r
goes_refl told r = walks_refl feed MayCome Free told r (λ g is. tt)

-- from a point to a second, and from there to a third
pub goes_trans : (a b c : Option History) (r s t : Run) → Goes a b r s → Goes b c s t → Goes a c r t
goes_trans a b c r s t p q = walks_trans feed MayCome Free a b c r s t p q

-- a call that may come leads where the law says
pub goes_call : (old new : Standing) (event : Event) (r : Run) → Called old event new → MayCome r event → Goes old.told new.told r (feed r event)
goes_call old new event r call allowed = walks_call feed MayCome Free old new event r call allowed (λ g is honest. (tt, tt))

-- want of memory may end a run where it is
pub halts_here : (told : Option History) (r : Run) → Halts told told r NoMemory
halts_here told r = record { last = r; goes = goes_refl told r; ends = tt }

-- what ends behind a walk ends before it too
pub halts_after : (old mid new : Option History) (r s : Run) (status : Status) → Goes old mid r s → Halts mid new s status → Halts old new r status
halts_after old mid new r s status goes halts = record { last = halts.last; goes = goes_trans old mid new r s halts.last goes halts.goes; ends = halts.ends }

-- ---- a call of a point

-- where no line is owed the call is that of the point
pub paid_call : (plan : Plan) (point : Point) → call_of plan point [] ≡ point_call plan point
paid_call plan AtTree = refl
paid_call plan (AtMakes settings left) = refl
paid_call plan (AtStore settings) = refl
paid_call plan (AtListen settings l) = refl
paid_call plan (AtFirst settings l) = refl
paid_call plan (AtNames settings naming s) = refl
paid_call plan (AtTurn place s) = refl
paid_call plan (Over Stopped) = refl
paid_call plan (Over TurnsSpent) = refl
paid_call plan (Over WorkloadDone) = refl
paid_call plan (Over Usage) = refl
paid_call plan (Over ConfFault) = refl
paid_call plan (Over (ConfRefused error)) = refl
paid_call plan (Over DiskFault) = refl
paid_call plan (Over (NotAJournal slot at)) = refl
paid_call plan (Over (JournalFull need limit)) = refl
paid_call plan (Over GateFault) = refl
paid_call plan (Over SinkFault) = refl
paid_call plan (Over ConfTooLarge) = refl
paid_call plan (Over (PatternRefused jail place kind)) = refl
paid_call plan (Over NumbersSpent) = refl
paid_call plan (Over NoMemory) = refl

pub next_at : (r : Run) (there : Point) → IsAt r there → next_call r ≡ point_call r.plan there
next_at r there at =
    written_call r.writes (call_of r.plan r.point r.owed) at.still.written ∙ ap (λ (lines : List (List ℕ)). call_of r.plan r.point lines) at.still.paid ∙ paid_call r.plan r.point ∙ ap (λ (p : Point). point_call r.plan p) at.point

-- an event that is the call of its point leads where the law says
pub point_goes : (a b : Standing) (event : Event) (r : Run) (there : Point) → Called a event b → IsAt r there → IsNext (point_call r.plan there) event
    → feed r event ≡ moved r.point event r → Goes a.told b.told r (moved there event r)
point_goes a b event r there call at next plain =
    let P : Option Call → Type 0 = λ c. IsNext c event in
    let Q : Run → Type 0 = λ x. Goes a.told b.told r x in
    let beside = next_beside (point_call r.plan there) event (point_no_write r.plan there) next in
    subst Q (plain ∙ ap (λ (p : Point). moved p event r) at.point) (goes_call a b event r call (may_beside r event beside (subst P (sym (next_at r there at)) next)))

-- an event of a turn that is the call of its place
pub turn_goes : (a b : Standing) (event : Event) (r : Run) (place : Place) (s : Server) → Called a event b → IsAt r (AtTurn place s) → IsNext (turn_call r.plan place s) event
    → feed r event ≡ moved r.point event r → Goes a.told b.told r (turns place event s r)
turn_goes a b event r place s call at next plain = point_goes a b event r (AtTurn place s) call at next plain

-- ---- lines

-- where lines are owed the call says them all, as long as lines may be said
pub saying_call : (plan : Plan) (point : Point) (line : List ℕ) (lines : List (List ℕ)) → IsSaying point → call_of plan point (line ∷ lines) ≡ Some (AskSay (joined (line ∷ lines)))
saying_call plan AtTree line lines saying = refl
saying_call plan (AtMakes settings left) line lines saying = refl
saying_call plan (AtStore settings) line lines saying = refl
saying_call plan (AtListen settings l) line lines saying = refl
saying_call plan (AtFirst settings l) line lines saying = refl
saying_call plan (AtNames settings naming s) line lines saying = refl
saying_call plan (AtTurn place s) line lines saying = refl
saying_call plan (Over Stopped) line lines saying = refl
saying_call plan (Over TurnsSpent) line lines saying = refl
saying_call plan (Over WorkloadDone) line lines saying = refl
saying_call plan (Over Usage) line lines saying = refl
saying_call plan (Over ConfFault) line lines saying = refl
saying_call plan (Over (ConfRefused error)) line lines saying = refl
saying_call plan (Over DiskFault) line lines saying = refl
saying_call plan (Over (NotAJournal slot at)) line lines saying = refl
saying_call plan (Over (JournalFull need limit)) line lines saying = refl
saying_call plan (Over GateFault) line lines saying = refl
saying_call plan (Over SinkFault) line lines saying = absurd saying
saying_call plan (Over ConfTooLarge) line lines saying = refl
saying_call plan (Over (PatternRefused jail place kind)) line lines saying = refl
saying_call plan (Over NumbersSpent) line lines saying = refl
saying_call plan (Over NoMemory) line lines saying = refl

-- lines that are owed are what may be said
may_say : (r : Run) (lines : List (List ℕ)) → 1 ≤ length lines → Owes r lines → next_call r ≡ Some (AskSay (joined lines))
may_say r [] some owes = absurd (let none : ⊥ = omega (arith, some) in none)
may_say r (line ∷ lines) some owes = written_call r.writes (call_of r.plan r.point r.owed) owes.written ∙ ap (λ (ls : List (List ℕ)). call_of r.plan r.point ls) owes.owed ∙ saying_call r.plan r.point line lines owes.saying

-- all lines that are owed are said in one call
pub says_lines : (old new : Standing) (lines : List (List ℕ)) (bytes : List ℕ) → 1 ≤ length lines → bytes ≡ joined lines → Called old (Say bytes SayDone) new → Says old new lines
says_lines old new lines bytes some is call = record {
  runs = λ r owes.
      let P : Option Call → Type 0 = λ c. IsNext c (Say bytes SayDone) in
      let Q : Run → Type 0 = λ x. Goes old.told new.told r x in
      let to : feed r (Say bytes SayDone) ≡ record r { said = r.said ++ lines; owed = [] } =
      ap (λ (ls : List (List ℕ)). let t : Run = record r { said = r.said ++ ls; owed = [] } in t) owes.owed in
      subst Q to (goes_call old new (Say bytes SayDone) r call (subst P (sym (may_say r lines some owes)) is));
}

-- where that call fails the run is over
pub fails_lines : (old new : Standing) (lines : List (List ℕ)) (bytes : List ℕ) → 1 ≤ length lines → bytes ≡ joined lines → Called old (Say bytes SayFailed) new
    → SayFails old new lines SinkFault
fails_lines old new lines bytes some is call = record {
  runs = λ r owes.
      let P : Option Call → Type 0 = λ c. IsNext c (Say bytes SayFailed) in
      record {
        last = feed r (Say bytes SayFailed);
        goes = goes_call old new (Say bytes SayFailed) r call (subst P (sym (may_say r lines some owes)) is);
        ends = record { point = refl; none = written_call r.writes None owes.written };
      };
}

-- no call is made where no line is owed
pub says_none : (s : Standing) → Says s s []
says_none s = record {
  runs = λ r owes.
      let Q : Run → Type 0 = λ x. Goes s.told s.told r x in
      let to : r ≡ record r { said = r.said ++ []; owed = [] } = λ i. record r { said = sym (append-nil r.said) i; owed = owes.owed i } in
      subst Q to (goes_refl s.told r);
}

-- memory may run out before they are said
pub fails_memory : (s : Standing) (lines : List (List ℕ)) → SayFails s s lines NoMemory
fails_memory s lines = record { runs = λ r owes. halts_here s.told r }

pub ruleset saying = (says_lines, fails_lines, says_none, fails_memory)

-- ---- refusals

refusal_says : (status : Status) → IsRefusal status → IsSaying (Over status)
refusal_says Stopped is = absurd is
refusal_says TurnsSpent is = absurd is
refusal_says WorkloadDone is = absurd is
refusal_says Usage is = tt
refusal_says ConfFault is = tt
refusal_says (ConfRefused error) is = tt
refusal_says DiskFault is = tt
refusal_says (NotAJournal slot at) is = tt
refusal_says (JournalFull need limit) is = tt
refusal_says GateFault is = tt
refusal_says SinkFault is = absurd is
refusal_says ConfTooLarge is = tt
refusal_says (PatternRefused jail place kind) is = tt
refusal_says NumbersSpent is = tt
refusal_says NoMemory is = absurd is

-- a run that is over ends with its status
pub over_ends : (status : Status) (r : Run) → IsOver status r → Ends status r
over_ends Stopped r over = over
over_ends TurnsSpent r over = over
over_ends WorkloadDone r over = over
over_ends Usage r over = over
over_ends ConfFault r over = over
over_ends (ConfRefused error) r over = over
over_ends DiskFault r over = over
over_ends (NotAJournal slot at) r over = over
over_ends (JournalFull need limit) r over = over
over_ends GateFault r over = over
over_ends SinkFault r over = over
over_ends ConfTooLarge r over = over
over_ends (PatternRefused jail place kind) r over = over
over_ends NumbersSpent r over = over
over_ends NoMemory r over = tt

owes_refusal : (now : ℕ) (status : Status) (r : Run) → IsRefusal status → IsStill r → Owes (refused now status r) (status_lines now status)
owes_refusal now status r is still = record { written = still.written; owed = ap (λ (ls : List (List ℕ)). ls ++ status_lines now status) still.paid; saying = refusal_says status is }

-- a refusal whose line was said
pub refuses : (old new : Standing) (now : ℕ) (status : Status) → IsRefusal status → Says old new (status_lines now status) → Refuses old new now status status
refuses old new now status is says = record {
  runs = λ r still.
      let over : Run = record (refused now status r) { said = r.said ++ status_lines now status; owed = [] } in
      let none : next_call over ≡ None = written_call r.writes (call_of r.plan (Over status) []) still.written ∙ paid_call r.plan (Over status) in
      record { last = over; goes = says.runs (refused now status r) (owes_refusal now status r is still); ends = over_ends status over (record { point = refl; none = none }) };
}

-- a refusal whose line could not be said
pub refuses_fault : (old new : Standing) (now : ℕ) (status fault : Status) → IsRefusal status → SayFails old new (status_lines now status) fault → Refuses old new now status fault
refuses_fault old new now status fault is fails = record { runs = λ r still. fails.runs (refused now status r) (owes_refusal now status r is still) }

-- memory may run out before it is said
pub refuses_memory : (s : Standing) (now : ℕ) (status : Status) → Refuses s s now status NoMemory
refuses_memory s now status = record { runs = λ r still. halts_here s.told (refused now status r) }

pub ruleset refusing = (refuses, refuses_fault, refuses_memory)
