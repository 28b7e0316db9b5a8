-- How files in memory tell which patterns were made.
use Rattle.std.proofs.Common.{ℕ, ◌≡◌, ◌≤◌, Bool, true, false, if◌then◌else◌, Option, Some, None, IfSome, List, [], ◌∷◌, ◌++◌, refl, sym, subst, ap, arith}
use Rattle.std.proofs.lemmas.Grind.{common_steps}
use Rattle.f2b_world.specs.declared.answer.MakeAnswer.{MakeAnswer}
use Rattle.f2b_world.specs.declared.answer.MakeAnswer.TheVariants.{Built as WasBuilt, Syntax as WasSyntax, TooBig as WasTooBig}
use Rattle.f2b_world.specs.declared.event.Event.{Event}
use Rattle.f2b_world.specs.declared.event.Event.TheVariants.{Make}
use Rattle.f2b_world.specs.declared.pattern.Made.{Made}
use Rattle.f2b_world.specs.declared.pattern.Made.TheVariants.{Built, Syntax, TooBig, NoMemory}
use Rattle.f2b_world.specs.Faults.{Fault, OfPatterns, Counted}
use Rattle.f2b_world.specs.Shelves.{Shelf}
use Rattle.f2b_world.specs.Told.{Adds, Asked, Called, History, IsHonest, Standing, fault_of, make_event}
use Rattle.f2b_mem.specs.Books.{Grows}
use Rattle.f2b_mem.specs.Script.{counted, is_too_big}
use Rattle.f2b_mem.specs.Shelved.{made_of, file_counts}

tells : (told told' : Option (List Event)) (text : List ℕ) (answer : MakeAnswer) → IfSome told' (λ _. Grows told (Make text answer) told')
    → Adds (made_of told) (made_of told') (λ g es. (es ≡ Make text answer ∷ []) × IsHonest g (Make text answer))
tells told None text answer grows = tt
tells None (Some more) text answer grows = absurd (let e : Some more ≡ None = grows in cc)
tells (Some before) (Some more) text answer grows =
    let e : Some more ≡ Some (before ++ Make text answer ∷ []) = grows in
    let grown : more ≡ before ++ Make text answer ∷ [] = cc in
    let at : List Event → History = λ events. record { first = λ slot. []; events = events } in
    (at before, Make text answer ∷ [], refl, ap at grown, (refl, tt))

-- the count of the patterns that were refused, after one pattern more
counts : (patterns files next : ℕ) (failing : Bool) → next ≡ counted patterns failing → patterns ≤ next → Counted (if failing then Some OfPatterns else None) (file_counts patterns files) (file_counts next files)
counts patterns files next true is up = record { steady = grind (arith, common_steps); cause = grind (arith, common_steps); once = grind (arith, common_steps); still = grind (arith, common_steps) }
counts patterns files next false is up = record { steady = grind (arith, common_steps); cause = tt; once = tt; still = grind (arith, common_steps) }

abbrev standing : Option Shelf → Option (List Event) → ℕ → ℕ → Standing
standing shelf told patterns files = record { told = made_of told; talk = None; shelf = shelf; faults = file_counts patterns files }

called : (shelf : Option Shelf) (told told' : Option (List Event)) (patterns files next : ℕ) (text : List ℕ) (answer : MakeAnswer) (event : Event) (failing : Bool) → event ≡ Make text answer
    → fault_of (Make text answer) ≡ (if failing then Some OfPatterns else None) → IfSome told' (λ _. Grows told event told') → next ≡ counted patterns failing → patterns ≤ next
    → Called (standing shelf told patterns files) (Make text answer) (standing shelf told' next files)
called shelf told told' patterns files next text answer event failing same fault grows is up =
    let P : Event → Type 0 = λ e. IfSome told' (λ _. Grows told e told') in
    let Q : Option Fault → Type 0 = λ f. Counted f (file_counts patterns files) (file_counts next files) in
    record {
      adds = tells told told' text answer (subst P same grows);
      bounded = tt;
      leaves = record { talk = refl; shelf = refl };
      counts = subst Q (sym fault) (counts patterns files next failing is up);
    }

-- a pattern more that was made is told
pub makes : (shelf : Option Shelf) (told told' : Option (List Event)) (patterns files next : ℕ) (text : List ℕ) (made : Made) (event : Event) → Some event ≡ make_event text made
    → IfSome told' (λ _. Grows told event told') → next ≡ counted patterns (is_too_big made) → patterns ≤ next
    → Asked (standing shelf told patterns files) (make_event text made) (standing shelf told' next files)
makes shelf told told' patterns files next text (Built pattern) event e grows is up = called shelf told told' patterns files next text WasBuilt event false (cc) refl grows is up
makes shelf told told' patterns files next text Syntax event e grows is up = called shelf told told' patterns files next text WasSyntax event false (cc) refl grows is up
makes shelf told told' patterns files next text TooBig event e grows is up = called shelf told told' patterns files next text WasTooBig event true (cc) refl grows is up
makes shelf told told' patterns files next text NoMemory event e grows is up = absurd (let f : Some event ≡ None = e in cc)
