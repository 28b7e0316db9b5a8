-- What the calls for patterns come to, one list after another.
use Rattle.std.proofs.Common.{◌≡◌, ℕ, zero, suc, ◌+◌, ◌≤◌, List, [], ◌∷◌, ◌++◌, Ok, Err, refl, sym, ap, ap₂, ◌∙◌, subst, length, take, append_assoc, inl, inr, arith}
use Rattle.std.proofs.Math.Seq.{take-append-add, take-length}
use Rattle.std.proofs.lemmas.List.{map-append}
use Rattle.std.proofs.lemmas.List.Elements.{Contains-append_left, Contains-append_right}
use Rattle.f2b_world.specs.declared.event.Event.TheVariants.{Make}
use Rattle.f2b_world.specs.declared.answer.MakeAnswer.TheVariants.{Built as WasBuilt}
use Rattle.f2b_world.specs.Faults.{Fault, OfPatterns}
use Rattle.f2b_world.specs.Told.{Standing, IsHonest}
use Rattle.filter_regex.specs.Builds.{answer, built, Makes, AreMakes, IsCause, MakesAll, Refuses}
use Rattle.filter_regex.specs.declared.error.PatternPlace.{PatternPlace}
use Rattle.filter_regex.specs.declared.error.BuildKind.{BuildKind}
use Rattle.filter_regex.specs.declared.error.BuildKind.TheVariants.{Syntax, TooBig}
use Rattle.filter_regex.specs.declared.error.PatternError.{PatternError}
use Rattle.filter_regex.specs.declared.error.PatternError.TheVariants.{Refused, NoMemory}
use Rattle.f2b_world.proofs.AddsLemmas.{adds_weaker, adds_then, adds_none}
use Rattle.date_detect.proofs.LeavesLemmas.{leaves_none, leaves_then, still_then, call_still}

abbrev pub Placed : Type 0
Placed = PatternPlace × List ℕ

built-append : (xs ys : List Placed) → built (xs ++ ys) ≡ built xs ++ built ys
built-append xs ys = map-append (λ (p : Placed). Make p.1 WasBuilt) xs ys

-- ---- one list

-- no pattern, no call
pub none_made : {A : Type 0} (a : A) (old : Standing) → MakesAll {A = A} [] (Ok a) old old
none_made a old = record {
  told = adds_none old.told;
  steady = λ kind. omega arith;
  cause = tt;
  leaves = leaves_none old;
  still = λ kind other. refl;
}

-- one pattern that was built
pub one_made : {A : Type 0} (a : A) (place : PatternPlace) (text pattern : List ℕ) (old new : Standing)
    → Makes place text (Ok pattern) old new → MakesAll {A = A} ((place, text) ∷ []) (Ok a) old new
one_made {A} a place text pattern old new makes = record {
  told = adds_weaker (λ g es. (es ≡ Make text WasBuilt ∷ []) × IsHonest g (Make text WasBuilt))
      (λ g es. AreMakes {A = A} ((place, text) ∷ []) (Ok a) es) _ _ makes.1.adds (λ g es p. p.0);
  steady = makes.1.counts.steady;
  cause = tt;
  leaves = makes.1.leaves;
  still = call_still text WasBuilt old new makes.1;
}

-- one that was not
pub one_failed : (A : Type 0) (place : PatternPlace) (text : List ℕ) (error : PatternError) (old new : Standing)
    → Makes place text (Err error) old new → MakesAll {A = A} ((place, text) ∷ []) (Err error) old new
one_failed A place text (Refused at kind) old new makes = record {
  told = adds_weaker (λ g es. (es ≡ Make text (answer kind) ∷ []) × IsHonest g (Make text (answer kind)))
      (λ g es. AreMakes {A = A} ((place, text) ∷ []) (Err (Refused at kind)) es) _ _ makes.1.adds
      (λ g es p. record {
        before = [];
        text = text;
        after = [];
        order = ap (λ (p : PatternPlace). (p, text) ∷ []) (sym makes.0);
        calls = p.0;
      });
  steady = makes.1.counts.steady;
  cause = (text, (0, omega arith, ap (λ (p : PatternPlace). (p, text)) (sym makes.0)), makes.2);
  leaves = makes.1.leaves;
  still = call_still text (answer kind) old new makes.1;
}
one_failed A place text NoMemory old new makes =
    let P : Standing → Type 0 = λ s. MakesAll {A = A} ((place, text) ∷ []) (Err NoMemory) old s in
    subst P (sym makes) (record {
      told = adds_weaker (λ g es. es ≡ []) (λ g es. AreMakes {A = A} ((place, text) ∷ []) (Err NoMemory) es) _ _ (adds_none old.told)
          (λ g es p. (0, p));
      steady = λ kind. omega arith;
      cause = tt;
      leaves = leaves_none old;
      still = λ kind other. refl;
    })

-- all were built, and then memory ran out
pub gave_out : {A : Type 0} (B : Type 0) (a : A) (xs : List Placed) (old new : Standing)
    → MakesAll {A = A} xs (Ok a) old new → MakesAll {A = B} xs (Err NoMemory) old new
gave_out B a xs old new made = record {
  told = adds_weaker (λ g es. es ≡ built xs) (λ g es. AreMakes {A = B} xs (Err NoMemory) es) _ _ made.told
      (λ g es p. (length xs, p ∙ ap built (sym (take-length xs))));
  steady = made.steady;
  cause = tt;
  leaves = made.leaves;
  still = made.still;
}

-- ---- a list after another

-- a prefix of the first is one of both
prefix_of_both : (xs ys : List Placed) (n : ℕ) → (m : ℕ) × (take n xs ≡ take m (xs ++ ys))
prefix_of_both [] ys zero = (0, refl)
prefix_of_both [] ys (suc n) = (0, refl)
prefix_of_both (x ∷ xs) ys zero = (0, refl)
prefix_of_both (x ∷ xs) ys (suc n) = let shorter = prefix_of_both xs ys n in (suc shorter.0, ap (λ zs. x ∷ zs) shorter.1)

-- the first was not made whole
pub first_failed : {A : Type 0} (B : Type 0) (xs ys : List Placed) (error : PatternError) (old new : Standing)
    → MakesAll {A = A} xs (Err error) old new → MakesAll {A = B} (xs ++ ys) (Err error) old new
first_failed B xs ys (Refused place kind) old new made = record {
  told = adds_weaker (λ g es. Refuses xs place kind es) (λ g es. Refuses (xs ++ ys) place kind es) _ _ made.told
      (λ g es r. record {
        before = r.before;
        text = r.text;
        after = r.after ++ ys;
        order = ap (λ zs. zs ++ ys) r.order ∙ append_assoc r.before ((place, r.text) ∷ r.after) ys;
        calls = r.calls;
      });
  steady = made.steady;
  cause = (made.cause.0, Contains-append_left xs ys (place, made.cause.0) made.cause.1, made.cause.2);
  leaves = made.leaves;
  still = made.still;
}
first_failed B xs ys NoMemory old new made = record {
  told = adds_weaker (λ g es. (n : ℕ) × (es ≡ built (take n xs))) (λ g es. (n : ℕ) × (es ≡ built (take n (xs ++ ys)))) _ _ made.told
      (λ g es p. let m = prefix_of_both xs ys p.0 in (m.0, p.1 ∙ ap built m.1));
  steady = made.steady;
  cause = tt;
  leaves = made.leaves;
  still = made.still;
}

module _ {A : Type 0} (a : A) (xs ys : List Placed) (old mid new : Standing) (first : MakesAll {A = A} xs (Ok a) old mid) where
  steady_after : ((kind : Fault) → mid.faults kind ≤ new.faults kind) → (kind : Fault) → old.faults kind ≤ new.faults kind
  steady_after later kind = omega (arith, first.steady kind, later kind)

  cause_after : (kind : BuildKind) (text : List ℕ) → IsCause kind text mid new → IsCause kind text old new
  cause_after Syntax text cause = cause
  cause_after TooBig text (inl rose) = inl (omega (arith, first.steady OfPatterns, rose))
  cause_after TooBig text (inr full) = inr full

  pub both_made : {B C : Type 0} (b : B) (c : C) → MakesAll {A = B} ys (Ok b) mid new → MakesAll {A = C} (xs ++ ys) (Ok c) old new
  both_made b c second = record {
    told = adds_then (λ g es. es ≡ built xs) (λ g es. es ≡ built ys) (λ g es. es ≡ built (xs ++ ys)) _ _ _ first.told second.told
        (λ g h us vs p q. ap₂ ◌++◌ p q ∙ sym (built-append xs ys));
    steady = steady_after second.steady;
    cause = tt;
    leaves = leaves_then old mid new first.leaves second.leaves;
    still = still_then old mid new first.still second.still;
  }

  pub second_failed : {B : Type 0} (C : Type 0) (error : PatternError) → MakesAll {A = B} ys (Err error) mid new
      → MakesAll {A = C} (xs ++ ys) (Err error) old new
  second_failed C (Refused place kind) second = record {
    told = adds_then (λ g es. es ≡ built xs) (λ g es. Refuses ys place kind es) (λ g es. Refuses (xs ++ ys) place kind es) _ _ _
        first.told second.told
        (λ g h us vs p r. record {
          before = xs ++ r.before;
          text = r.text;
          after = r.after;
          order = ap (λ zs. xs ++ zs) r.order ∙ sym (append_assoc xs r.before ((place, r.text) ∷ r.after));
          calls = ap₂ ◌++◌ p r.calls ∙ sym (append_assoc (built xs) (built r.before) (Make r.text (answer kind) ∷ []))
              ∙ ap (λ es. es ++ (Make r.text (answer kind) ∷ [])) (sym (built-append xs r.before));
        });
    steady = steady_after second.steady;
    cause = (second.cause.0, Contains-append_right xs ys (place, second.cause.0) second.cause.1, cause_after kind second.cause.0 second.cause.2);
    leaves = leaves_then old mid new first.leaves second.leaves;
    still = still_then old mid new first.still second.still;
  }
  second_failed C NoMemory second = record {
    told = adds_then (λ g es. es ≡ built xs) (λ g es. (n : ℕ) × (es ≡ built (take n ys)))
        (λ g es. (n : ℕ) × (es ≡ built (take n (xs ++ ys)))) _ _ _ first.told second.told
        (λ g h us vs p q. (length xs + q.0, ap₂ ◌++◌ p q.1 ∙ sym (built-append xs (take q.0 ys)) ∙ ap built (sym (take-append-add xs ys q.0))));
    steady = steady_after second.steady;
    cause = tt;
    leaves = leaves_then old mid new first.leaves second.leaves;
    still = still_then old mid new first.still second.still;
  }
