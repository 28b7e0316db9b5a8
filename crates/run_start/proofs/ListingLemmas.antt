-- Listing a directory.
use Rattle.std.proofs.Common.{ℕ, ◌≡◌, List, Option, Some, None, refl, sym, subst}
use Rattle.f2b_world.specs.Told.{Asked, Called, Standing, names_event}
use Rattle.f2b_world.specs.declared.answer.NamesAnswer.{NamesAnswer}
use Rattle.f2b_world.specs.declared.answer.NamesAnswer.TheVariants.{Names as NamesGiven, Absent as NamesAbsent, Failed as NamesFailed, NoMemory as NamesNoMemory}
use Rattle.f2b_world.specs.declared.event.Event.{Event}
use Rattle.f2b_world.specs.declared.event.Event.TheVariants.{Names}
use Rattle.run_law.specs.Paths.{Path, directory}
use Rattle.run_law.specs.Stages.{IsSteady}
use Rattle.run_law.proofs.CauseLemmas.{steady_call, steady_refl}
use Rattle.run_start.specs.Listings.{AsksNames, IsListed, Lists}
use Rattle.run_start.specs.declared.listing.Listing.{Listing}

-- an answer other than want of memory is an event
called : (a b : Standing) (dir : List ℕ) (answer : NamesAnswer) → (answer ≡ NamesNoMemory → ⊥) → Asked a (names_event dir answer) b → Called a (Names dir answer) b
called a b dir (NamesGiven names) given asked = asked
called a b dir NamesAbsent given asked = asked
called a b dir NamesFailed given asked = asked
called a b dir NamesNoMemory given asked = absurd (given refl)

pub asks : (a b : Standing) (p : Path) (dir : List ℕ) (answer : NamesAnswer) → dir ≡ directory p.watch.path → Asked a (names_event dir answer) b → AsksNames a b p
asks a b p dir answer is asked =
    let P : List ℕ → Type 0 = λ d. Asked a (names_event d answer) b in
    record { answer = answer; asked = subst P is asked }

pub lists : (a b : Standing) (now : ℕ) (p : Path) (dir : List ℕ) (answer : NamesAnswer) (listing : Listing) → dir ≡ directory p.watch.path → Asked a (names_event dir answer) b
    → IsListed now p answer listing → Lists a b now p listing
lists a b now p dir answer listing is asked listed =
    let P : List ℕ → Type 0 = λ d. Called a (Names d answer) b in
    record { answer = answer; called = subst P is (called a b dir answer listed.given asked); names = listed.names; unread = listed.unread }

pub asked_steady : (a b : Standing) (event : Option Event) → Asked a event b → IsSteady a b
asked_steady a b None asked = let P : Standing → Type 0 = λ s. IsSteady a s in subst P (sym asked) (steady_refl a)
asked_steady a b (Some event) asked = steady_call a b event asked

pub ruleset listing = (asks, lists, asked_steady)
