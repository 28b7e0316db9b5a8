-- What building a filter does to the outside.
use Rattle.std.specs.Prelude.{◌≡◌, ◌≢◌, ℕ, ◌≤◌, List, [], ◌∷◌, ◌++◌, map, take, Result, Ok, Err, None, Contains}
use Rattle.f2b_world.specs.Faults.{Fault, OfPatterns, Rose}
use Rattle.f2b_world.specs.Told.{Standing, Adds, Called, Leaves}
use Rattle.f2b_world.specs.Reading.{reading}
use Rattle.f2b_world.specs.declared.event.Event.{Event}
use Rattle.f2b_world.specs.declared.event.Event.TheVariants.{Make}
use Rattle.f2b_world.specs.declared.answer.MakeAnswer.{MakeAnswer}
use Rattle.f2b_world.specs.declared.answer.MakeAnswer.TheVariants.{Built as WasBuilt, Syntax as WasSyntax, TooBig as WasTooBig}
use Rattle.filter_regex.specs.Rules.{Rules, patterns}
use Rattle.date_detect.specs.declared.error.BuildError.{BuildError}
use Rattle.date_detect.specs.declared.error.BuildError.TheVariants.{Syntax as OfSyntax, TooBig as OfSize, NoMemory as OfMemory}
use Rattle.filter_regex.specs.declared.error.PatternPlace.{PatternPlace}
use Rattle.filter_regex.specs.declared.error.PatternPlace.TheVariants.{Date}
use Rattle.filter_regex.specs.declared.error.BuildKind.{BuildKind}
use Rattle.filter_regex.specs.declared.error.BuildKind.TheVariants.{Syntax, TooBig}
use Rattle.filter_regex.specs.declared.error.PatternError.{PatternError}
use Rattle.filter_regex.specs.declared.error.PatternError.TheVariants.{Refused, NoMemory}

-- why a filter is not built whose dates are not
abbrev pub refusal : BuildError → PatternError
refusal OfSyntax = Refused Date Syntax
refusal OfSize = Refused Date TooBig
refusal OfMemory = NoMemory

abbrev pub answer : BuildKind → MakeAnswer
answer Syntax = WasSyntax
answer TooBig = WasTooBig

-- a text that is refused as Syntax has no reading, and one that is TooBig was counted
abbrev pub IsCause : BuildKind → List ℕ → Standing → Standing → Type 0
IsCause Syntax text old new = reading text ≡ None
IsCause TooBig text old new = Rose (old.faults OfPatterns) (new.faults OfPatterns)

-- one call for a pattern
abbrev pub Makes : PatternPlace → List ℕ → Result (List ℕ) PatternError → Standing → Standing → Type 0
Makes place text (Ok pattern) old new = (pattern ≡ text) × Called old (Make text WasBuilt) new
Makes place text (Err (Refused at kind)) old new = (at ≡ place) × Called old (Make text (answer kind)) new × IsCause kind text old new
Makes place text (Err NoMemory) old new = new ≡ old

-- the calls for patterns that were built
abbrev pub built : List (PatternPlace × List ℕ) → List Event
built = map (λ (p : PatternPlace × List ℕ). Make p.1 WasBuilt)

-- the pattern at a place was refused, after those before it were built
pub record Refuses (all : List (PatternPlace × List ℕ)) (place : PatternPlace) (kind : BuildKind) (events : List Event) : Type 0 where
  pub before : List (PatternPlace × List ℕ)
  pub text : List ℕ
  pub after : List (PatternPlace × List ℕ)
  pub order : all ≡ before ++ (place, text) ∷ after
  pub calls : events ≡ built before ++ Make text (answer kind) ∷ []

-- what is made of these patterns: one call for each in their order, up to the first that is not built
abbrev pub AreMakes : {A : Type 0} → List (PatternPlace × List ℕ) → Result A PatternError → List Event → Type 0
AreMakes all (Ok made) events = events ≡ built all
AreMakes all (Err (Refused place kind)) events = Refuses all place kind events
AreMakes all (Err NoMemory) events = (n : ℕ) × (events ≡ built (take n all))

-- a pattern is refused for a cause
abbrev pub HasCause : {A : Type 0} → List (PatternPlace × List ℕ) → Result A PatternError → Standing → Standing → Type 0
HasCause all (Err (Refused place kind)) old new = (text : List ℕ) × Contains all (place, text) × IsCause kind text old new
HasCause all _ old new = Unit {0}

-- Patterns are made: what that told, that no count of faults fell, and its cause where one was refused. It leaves what was said
-- and what files hold, and all counts but that of patterns.
pub record MakesAll {A : Type 0} (all : List (PatternPlace × List ℕ)) (outcome : Result A PatternError) (old new : Standing) : Type 0 where
  pub told : Adds old.told new.told (λ g events. AreMakes all outcome events)
  pub steady : (kind : Fault) → old.faults kind ≤ new.faults kind
  pub cause : HasCause all outcome old new
  pub leaves : Leaves old new
  pub still : (kind : Fault) → kind ≢ OfPatterns → new.faults kind ≡ old.faults kind

-- the calls of a build, one for each pattern of the rules
abbrev pub AreCalls : Rules → Result Rules PatternError → List Event → Type 0
AreCalls rules outcome events = AreMakes (patterns rules) outcome events

-- a build of these rules
abbrev pub Builds : Rules → Result Rules PatternError → Standing → Standing → Type 0
Builds rules outcome old new = MakesAll (patterns rules) outcome old new
