-- How a listing is told.
use Rattle.std.proofs.Common.{ℕ, ◌≡◌, ◌≤◌, Bool, true, false, if◌then◌else◌, Option, Some, None, IsTrue, List, refl, sym, subst, arith}
use Rattle.std.proofs.lemmas.Grind.{common_steps}
use Rattle.f2b_world.specs.declared.answer.NamesAnswer.{NamesAnswer}
use Rattle.f2b_world.specs.declared.answer.NamesAnswer.TheVariants.{Names as NamesGiven, Absent as NamesAbsent, Failed as NamesFailed, NoMemory as NamesNoMemory}
use Rattle.f2b_world.specs.declared.event.Event.{Event}
use Rattle.f2b_world.specs.declared.event.Event.TheVariants.{Names}
use Rattle.f2b_world.specs.declared.faults.Faults.{Faults}
use Rattle.f2b_world.specs.Bounds.{FitsNames}
use Rattle.f2b_world.specs.Faults.{Fault, OfLogs, Counted}
use Rattle.f2b_world.specs.Told.{Asked, Called, History, Standing, fault_of, names_event}
use Rattle.f2b_mem.specs.Script.{counted}
use Rattle.f2b_mem.specs.Stages.{Tells}
use Rattle.f2b_mem.specs.Worlds.{counts}

log_counts : (f : Faults) (next : ℕ) (failing : Bool) → next ≡ counted f.logs failing → f.logs ≤ next → Counted (if failing then Some OfLogs else None) (counts f) (counts (record f { logs = next }))
log_counts f next true is up = record { steady = grind (arith, common_steps); cause = grind (arith, common_steps); once = grind (arith, common_steps); still = grind (arith, common_steps) }
log_counts f next false is up = record { steady = grind (arith, common_steps); cause = tt; once = tt; still = grind (arith, common_steps) }

abbrev standing : Option History → Faults → Standing
standing told f = record { told = told; talk = None; shelf = None; faults = counts f }

called : (told told' : Option History) (f : Faults) (next : ℕ) (dir : List ℕ) (answer : NamesAnswer) (event : Event) (failing : Bool) → event ≡ Names dir answer
    → fault_of (Names dir answer) ≡ (if failing then Some OfLogs else None) → FitsNames answer → Tells told event told' → next ≡ counted f.logs failing → f.logs ≤ next
    → Called (standing told f) (Names dir answer) (standing told' (record f { logs = next }))
called told told' f next dir answer event failing same fault fits tells is up =
    let P : Event → Type 0 = λ e. Tells told e told' in
    let Q : Option Fault → Type 0 = λ x. Counted x (counts f) (counts (record f { logs = next })) in
    record {
      adds = subst P same tells;
      bounded = fits;
      leaves = record { talk = refl; shelf = refl };
      counts = subst Q (sym fault) (log_counts f next failing is up);
    }

not_failed : (failing : Bool) (answer : NamesAnswer) (dir : List ℕ) → (IsTrue failing → answer ≡ NamesFailed) → fault_of (Names dir answer) ≡ None → fault_of (Names dir answer) ≡ (if failing then Some OfLogs else None)
not_failed false answer dir fails none = none
not_failed true answer dir fails none =
    let is : answer ≡ NamesFailed = fails refl in
    let P : NamesAnswer → Type 0 = λ a. fault_of (Names dir a) ≡ Some OfLogs in
    subst P (sym is) refl

-- a listing is told, and its fault counted
pub lists : (told told' : Option History) (f : Faults) (next : ℕ) (dir : List ℕ) (answer : NamesAnswer) (event : Event) (failing : Bool) → Some event ≡ names_event dir answer
    → (IsTrue failing → answer ≡ NamesFailed) → (answer ≡ NamesFailed → IsTrue failing) → FitsNames answer → Tells told event told' → next ≡ counted f.logs failing → f.logs ≤ next
    → Asked (standing told f) (names_event dir answer) (standing told' (record f { logs = next }))
lists told told' f next dir (NamesGiven names) event failing e fails cause fits tells is up =
    called told told' f next dir (NamesGiven names) event failing (cc) (not_failed failing (NamesGiven names) dir fails refl) fits tells is up
lists told told' f next dir NamesAbsent event failing e fails cause fits tells is up =
    called told told' f next dir NamesAbsent event failing (cc) (not_failed failing NamesAbsent dir fails refl) fits tells is up
lists told told' f next dir NamesFailed event true e fails cause fits tells is up = called told told' f next dir NamesFailed event true (cc) refl fits tells is up
lists told told' f next dir NamesFailed event false e fails cause fits tells is up = absurd (let h : false ≡ true = cause refl in cc)
lists told told' f next dir NamesNoMemory event failing e fails cause fits tells is up = absurd (let h : Some event ≡ None = e in cc)
