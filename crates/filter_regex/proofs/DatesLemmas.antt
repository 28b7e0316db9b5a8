-- What building dates comes to, as calls for the patterns of a filter.
use Rattle.std.proofs.Common.{◌≡◌, ℕ, zero, suc, List, [], ◌∷◌, ◌++◌, Ok, Err, refl, sym, ap, ◌∙◌, take, arith}
use Rattle.std.specs.List.{Contains}
use Rattle.f2b_world.specs.declared.event.Event.{Event}
use Rattle.f2b_world.specs.declared.event.Event.TheVariants.{Make}
use Rattle.f2b_world.specs.declared.answer.MakeAnswer.TheVariants.{Built as WasBuilt, Syntax as WasSyntax, TooBig as WasTooBig}
use Rattle.f2b_world.specs.Told.{Standing}
use Rattle.date_detect.specs.Builds as dates
use Rattle.date_detect.specs.Forms.{Rule}
use Rattle.date_detect.specs.declared.error.BuildError.{BuildError}
use Rattle.date_detect.specs.declared.error.BuildError.TheVariants.{Syntax as OfSyntax, TooBig as OfSize, NoMemory as OfMemory}
use Rattle.filter_regex.specs.Builds.{answer, built, refusal, AreMakes, MakesAll, Refuses}
use Rattle.filter_regex.specs.Rules.{date_places}
use Rattle.filter_regex.specs.declared.error.BuildKind.{BuildKind}
use Rattle.filter_regex.specs.declared.error.BuildKind.TheVariants.{Syntax, TooBig}
use Rattle.filter_regex.specs.declared.error.PatternPlace.TheVariants.{Date}
use Rattle.f2b_world.proofs.AddsLemmas.{adds_weaker}
use Rattle.filter_regex.proofs.MakesLemmas.{Placed}

date_places-append : (xs ys : List (List ℕ)) → date_places (xs ++ ys) ≡ date_places xs ++ date_places ys
date_places-append [] ys = refl
date_places-append (x ∷ xs) ys = ap (λ (ps : List Placed). (Date, x) ∷ ps) (date_places-append xs ys)

take-date_places : (n : ℕ) (xs : List (List ℕ)) → take n (date_places xs) ≡ date_places (take n xs)
take-date_places zero xs = refl
take-date_places (suc n) [] = refl
take-date_places (suc n) (x ∷ xs) = ap (λ (ps : List Placed). (Date, x) ∷ ps) (take-date_places n xs)

built_places : (xs : List (List ℕ)) → dates.built xs ≡ built (date_places xs)
built_places [] = refl
built_places (x ∷ xs) = ap (λ (es : List Event). Make x WasBuilt ∷ es) (built_places xs)

-- a text among those of dates is a pattern at the place of dates
contains_place : (xs : List (List ℕ)) (text : List ℕ) → Contains xs text → Contains (date_places xs) (Date, text)
contains_place [] text (k, less, is) = absurd (omega (arith, less))
contains_place (x ∷ xs) text (zero, less, is) = (0, omega arith, ap (λ (t : List ℕ). let p : Placed = (Date, t) in p) is)
contains_place (x ∷ xs) text (suc k, less, is) =
    let rest = contains_place xs text (k, omega (arith, less), is) in (suc rest.0, omega (arith, rest.1), rest.2)

-- a text that was refused, at its place
refused : (all : List (List ℕ)) (kind : BuildKind) (events : List Event) → dates.Refuses all (answer kind) events
    → Refuses (date_places all) Date kind events
refused all kind events r = record {
  before = date_places r.before;
  text = r.text;
  after = date_places r.after;
  order = ap date_places r.order ∙ date_places-append r.before (r.text ∷ r.after);
  calls = r.calls ∙ ap (λ (es : List Event). es ++ (Make r.text (answer kind) ∷ [])) (built_places r.before);
}

-- all were built
pub dates_made : {A : Type 0} (a : A) (all : List (List ℕ)) (rule : Rule) (old new : Standing)
    → dates.Builds all (Ok rule) old new → MakesAll {A = A} (date_places all) (Ok a) old new
dates_made {A} a all rule old new builds = record {
  told = adds_weaker (λ g es. es ≡ dates.built all) (λ g es. AreMakes {A = A} (date_places all) (Ok a) es) _ _ builds.told
      (λ g es p. p ∙ built_places all);
  steady = builds.steady;
  cause = tt;
  leaves = builds.leaves;
  still = builds.still;
}

-- one was not
pub dates_failed : (A : Type 0) (all : List (List ℕ)) (error : BuildError) (old new : Standing)
    → dates.Builds all (Err error) old new → MakesAll {A = A} (date_places all) (Err (refusal error)) old new
dates_failed A all OfSyntax old new builds = record {
  told = adds_weaker (λ g es. dates.Refuses all WasSyntax es) (λ g es. Refuses (date_places all) Date Syntax es) _ _ builds.told
      (λ g es r. refused all Syntax es r);
  steady = builds.steady;
  cause = (builds.cause.0, contains_place all builds.cause.0 builds.cause.1, builds.cause.2);
  leaves = builds.leaves;
  still = builds.still;
}
dates_failed A all OfSize old new builds = record {
  told = adds_weaker (λ g es. dates.Refuses all WasTooBig es) (λ g es. Refuses (date_places all) Date TooBig es) _ _ builds.told
      (λ g es r. refused all TooBig es r);
  steady = builds.steady;
  cause = (builds.cause.0, contains_place all builds.cause.0 builds.cause.1, builds.cause.2);
  leaves = builds.leaves;
  still = builds.still;
}
dates_failed A all OfMemory old new builds = record {
  told = adds_weaker (λ g es. (n : ℕ) × (es ≡ dates.built (take n all)))
      (λ g es. (n : ℕ) × (es ≡ built (take n (date_places all)))) _ _ builds.told
      (λ g es p. (p.0, p.1 ∙ built_places (take p.0 all) ∙ ap built (sym (take-date_places p.0 all))));
  steady = builds.steady;
  cause = tt;
  leaves = builds.leaves;
  still = builds.still;
}
