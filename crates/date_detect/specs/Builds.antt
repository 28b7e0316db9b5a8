-- What building dates does to the outside.
use Rattle.std.specs.Prelude.{◌≡◌, ◌≢◌, ℕ, ◌≤◌, List, [], ◌∷◌, ◌++◌, map, take, Result, Ok, Err, None, Contains}
use Rattle.f2b_world.specs.Faults.{Fault, OfPatterns, Rose}
use Rattle.f2b_world.specs.Told.{Standing, Adds, Called, Leaves}
use Rattle.f2b_world.specs.Reading.{reading}
use Rattle.f2b_world.specs.declared.event.Event.{Event}
use Rattle.f2b_world.specs.declared.event.Event.TheVariants.{Make}
use Rattle.f2b_world.specs.declared.answer.MakeAnswer.{MakeAnswer}
use Rattle.f2b_world.specs.declared.answer.MakeAnswer.TheVariants.{Built as WasBuilt, Syntax as WasSyntax, TooBig as WasTooBig}
use Rattle.date_detect.specs.Forms.{Rule}
use Rattle.date_detect.specs.declared.error.BuildError.{BuildError}
use Rattle.date_detect.specs.declared.error.BuildError.TheVariants.{Syntax, TooBig, NoMemory}

-- one call for a pattern: a text that is refused as Syntax has no reading, and one that is TooBig was counted
abbrev pub Makes : List ℕ → Result (List ℕ) BuildError → Standing → Standing → Type 0
Makes text (Ok pattern) old new = (pattern ≡ text) × Called old (Make text WasBuilt) new
Makes text (Err Syntax) old new = Called old (Make text WasSyntax) new × (reading text ≡ None)
Makes text (Err TooBig) old new =
    Called old (Make text WasTooBig) new × Rose (old.faults OfPatterns) (new.faults OfPatterns)
Makes text (Err NoMemory) old new = new ≡ old

-- the calls for patterns that were built
abbrev pub built : List (List ℕ) → List Event
built = map (λ text. Make text WasBuilt)

-- a text was refused with that answer, after those before it were built
pub record Refuses (texts : List (List ℕ)) (answer : MakeAnswer) (events : List Event) : Type 0 where
  pub before : List (List ℕ)
  pub text : List ℕ
  pub after : List (List ℕ)
  pub order : texts ≡ before ++ text ∷ after
  pub calls : events ≡ built before ++ Make text answer ∷ []

-- one call for each text in order, up to the first that is not built
abbrev pub AreCalls : List (List ℕ) → Result Rule BuildError → List Event → Type 0
AreCalls texts (Ok rule) events = events ≡ built texts
AreCalls texts (Err Syntax) events = Refuses texts WasSyntax events
AreCalls texts (Err TooBig) events = Refuses texts WasTooBig events
AreCalls texts (Err NoMemory) events = (n : ℕ) × (events ≡ built (take n texts))

-- one of the texts is refused: as Syntax only where it has no reading, and as TooBig only where that was counted
abbrev pub HasCause : List (List ℕ) → Result Rule BuildError → Standing → Standing → Type 0
HasCause texts (Err Syntax) old new = (text : List ℕ) × Contains texts text × (reading text ≡ None)
HasCause texts (Err TooBig) old new =
    (text : List ℕ) × Contains texts text × Rose (old.faults OfPatterns) (new.faults OfPatterns)
HasCause texts _ old new = Unit {0}

-- A build of patterns: what it told, that no count of faults fell, and its cause where one was refused. It leaves what was said
-- and what files hold, and all counts but that of patterns.
pub record Builds (texts : List (List ℕ)) (outcome : Result Rule BuildError) (old new : Standing) : Type 0 where
  pub told : Adds old.told new.told (λ g events. AreCalls texts outcome events)
  pub steady : (kind : Fault) → old.faults kind ≤ new.faults kind
  pub cause : HasCause texts outcome old new
  pub leaves : Leaves old new
  pub still : (kind : Fault) → kind ≢ OfPatterns → new.faults kind ≡ old.faults kind
