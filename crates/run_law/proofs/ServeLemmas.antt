-- A whole run, from where it halts.
use Rattle.std.proofs.Common.{ℕ, ◌≡◌, List, [], Option, Some, None, refl, sym, ap, subst}
use Rattle.f2b_base.specs.declared.view.View.{View}
use Rattle.f2b_world.specs.Told.{History, Standing, Adds}
use Rattle.f2b_world.specs.Walks.{after, Along}
use Rattle.f2b_world.specs.declared.event.Event.{Event}
use Rattle.f2b_world.proofs.AddsLemmas.{adds_weaker}
use Rattle.run_law.specs.Ended.{IsEndedBy}
use Rattle.run_law.specs.Law.{Ends, Free, Halts, MayCome, begin, begin_with, feed, opening}
use Rattle.run_law.specs.Points.{Run}
use Rattle.run_law.specs.Served.{CountsTurns, IsCaused, IsRun, KeepsInputs, PollsEachOnce, SaysInOrder, StartsInTurn}
use Rattle.run_law.specs.Stages.{HasCause, IsSteady, Refuses}
use Rattle.run_law.specs.Stops.{BeginsOn, held_in}
use Rattle.run_law.specs.Words.{plan_of}
use Rattle.run_law.specs.declared.plan.Plan.{Plan}
use Rattle.run_law.specs.declared.status.Status.{Status}
use Rattle.run_law.specs.declared.status.Status.TheVariants.{Stopped, TurnsSpent, WorkloadDone, Usage, ConfFault, ConfRefused, DiskFault, NotAJournal, JournalFull, GateFault, SinkFault, ConfTooLarge, PatternRefused, NumbersSpent, NoMemory}
use Rattle.run_law.proofs.EndedLemmas.{ended_by}
use Rattle.run_law.proofs.LongLemmas.{Any, goes_none}
use Rattle.run_law.proofs.PointLemmas.{halts_here}
use Rattle.run_law.proofs.PolledLemmas.{polls_each_once}
use Rattle.run_law.proofs.SaidLemmas.{says_in_order}
use Rattle.run_law.proofs.StartedLemmas.{starts_in_turn}
use Rattle.run_law.proofs.StopLemmas.{keeps_inputs}
use Rattle.run_law.proofs.TurnLemmas.{counts_turns}
use Rattle.run_law.proofs.WordLemmas.{plan_turns}

-- the run obeys the law to the end
abbrev Obeyed : List (List ℕ) → Status → History → List Event → Type 0
Obeyed words status g es = Along feed MayCome Free (begin words (held_in g)) g es × Ends status (after feed MayCome Free (begin words (held_in g)) es)

-- where a run halts its events obey the law
halted : (words : List (List ℕ)) (status : Status) (g : History) (r last : Run) (es : List Event) → begin words (held_in g) ≡ r → Ends status last
    → Along feed MayCome Free r g es × (after feed MayCome Free r es ≡ last) → Obeyed words status g es
halted words status g r last es is ends walk =
    let P : Run → Type 0 = λ x. Along feed MayCome Free x g es × Ends status (after feed MayCome Free x es) in
    let Q : Run → Type 0 = λ x. Ends status x in
    subst P (sym is) (walk.0, subst Q (sym walk.1) ends)

obeyed : (old new : Option History) (words : List (List ℕ)) (status : Status) → Adds old new Any → ((g : History) → old ≡ Some g → Halts old new (begin words (held_in g)) status)
    → Adds old new (λ g es. Obeyed words status g es)
obeyed old None words status on halts = tt
obeyed None (Some h) words status on halts = absurd (let e : None ≡ Some on.0 = on.2 in cc)
obeyed (Some own) (Some h) words status on halts =
    let r : Halts (Some own) (Some h) (begin words (held_in own)) status = halts own refl in
    let adds = r.goes.events in
    let same : own ≡ adds.0 = (let e : Some own ≡ Some adds.0 = adds.2 in cc) in
    let begins : begin words (held_in adds.0) ≡ begin words (held_in own) = ap (λ (g : History). begin words (held_in g)) (sym same) in
    (adds.0, adds.1, adds.2, adds.3, halted words status adds.0 (begin words (held_in own)) r.last adds.1 begins r.ends adds.4)

-- a run that was planned makes as many turns as were asked for
turns_counted : (words : List (List ℕ)) (plan : Plan) (status : Status) (g : History) (es : List Event) → plan_of words ≡ Some plan → Obeyed words status g es → CountsTurns plan.turns status es
turns_counted words plan status g es is o =
    let P : Run → Type 0 = λ r. Along feed MayCome Free r g es × Ends status (after feed MayCome Free r es) in
    let begins : begin words (held_in g) ≡ opening plan (held_in g) = ap (λ (x : Option Plan). begin_with x (held_in g)) is in
    let opened : P (opening plan (held_in g)) = subst P begins o in
    counts_turns plan (held_in g) status g es (plan_turns words plan is) opened.0 opened.1

run_is : (old new : Option History) (words : List (List ℕ)) (status : Status) → Adds old new Any → ((g : History) → old ≡ Some g → Halts old new (begin words (held_in g)) status) → IsRun old new words status
run_is old new words status on halts =
    let P = λ (g : History) (es : List Event). Obeyed words status g es in
    let law = obeyed old new words status on halts in
    record {
      law = law;
      ended = adds_weaker P (λ g es. IsEndedBy words (held_in g) status es) old new law (λ g es o. ended_by words (held_in g) status es o.1);
      turns = adds_weaker P (λ g es. (plan : Plan) → plan_of words ≡ Some plan → CountsTurns plan.turns status es) old new law (λ g es o plan is. turns_counted words plan status g es is o);
      lines = adds_weaker P (λ g es. SaysInOrder words (held_in g) status es) old new law (λ g es o. says_in_order words (held_in g) status g es o.0 o.1);
      commands = adds_weaker P (λ g es. StartsInTurn words (held_in g) es) old new law (λ g es o. starts_in_turn words (held_in g) g es o.0);
      polls = adds_weaker P (λ g es. PollsEachOnce words (held_in g) es) old new law (λ g es o. polls_each_once words (held_in g) g es o.0);
      inputs = adds_weaker P (λ g es. (v : View) → BeginsOn v g → KeepsInputs words status v g es) old new law (λ g es o v begins. keeps_inputs words status v g es begins o.0 o.1);
    }

-- a run that was planned
pub run_planned : (a b : Standing) (words : List (List ℕ)) (plan : Plan) (status : Status) → plan_of words ≡ Some plan → IsSteady a b
    → ((g : History) → a.told ≡ Some g → Halts a.told b.told (opening plan (held_in g)) status) → IsRun a.told b.told words status
run_planned a b words plan status is steady halts = run_is a.told b.told words status steady.history (λ g told.
    let P : Run → Type 0 = λ r. Halts a.told b.told r status in
    subst P (sym (ap (λ (o : Option Plan). begin_with o (held_in g)) is)) (halts g told))

-- a run of words outside the table
pub run_refused : (a b : Standing) (words : List (List ℕ)) (status : Status) → plan_of words ≡ None → IsSteady a b → Refuses a b 0 Usage status → IsRun a.told b.told words status
run_refused a b words status is steady refuses = run_is a.told b.told words status steady.history (λ g told.
    let P : Run → Type 0 = λ r. Halts a.told b.told r status in
    subst P (sym (ap (λ (o : Option Plan). begin_with o (held_in g)) is)) (refuses.runs (opening (record { root = []; turns = 0; limit = 0 }) (held_in g)) (record { written = refl; paid = refl })))

-- memory may run out before anything happens
pub run_memory : (s : Standing) (words : List (List ℕ)) → IsRun s.told s.told words NoMemory
run_memory s words = run_is s.told s.told words NoMemory (goes_none s.told) (λ g told. halts_here s.told (begin words (held_in g)))

-- the cause of a run is that of its end behind the words
pub caused : (words : List (List ℕ)) (old new : Standing) (status : Status) → HasCause old new status → IsCaused words old new status
caused words old new Stopped cause = cause
caused words old new TurnsSpent cause = tt
caused words old new WorkloadDone cause = cause
caused words old new Usage cause = absurd cause
caused words old new ConfFault cause = cause
caused words old new (ConfRefused error) cause = cause
caused words old new DiskFault cause = cause
caused words old new (NotAJournal slot at) cause = cause
caused words old new (JournalFull need limit) cause = cause
caused words old new GateFault cause = cause
caused words old new SinkFault cause = cause
caused words old new ConfTooLarge cause = cause
caused words old new (PatternRefused jail place kind) cause = cause
caused words old new NumbersSpent cause = cause
caused words old new NoMemory cause = cause

pub ruleset running = (run_memory)
