-- What the calls of a build come to, text by text.
use Rattle.std.proofs.Common.{◌≡◌, ℕ, suc, ◌+◌, ◌<◌, ◌≤◌, ◌≢◌, All, Result, IsSome, is_some, true≢false, List, [], ◌∷◌, ◌++◌, Ok, Err, Bool, drop-cons, refl, sym, ap, ap₂, ◌∙◌, subst, length, map, take, drop, get_or, inl, inr, arith}
use Rattle.std.proofs.Math.Seq.{take-append_seam, get_or-append_seam}
use Rattle.std.proofs.lemmas.List.{map-append, length-append, take_more, take-append-drop, take-map}
use Rattle.f2b_world.specs.Reading.{reading}
use Rattle.f2b_world.specs.declared.event.Event.{Event}
use Rattle.f2b_world.specs.declared.event.Event.TheVariants.{Make}
use Rattle.f2b_world.specs.declared.answer.MakeAnswer.TheVariants.{Built as WasBuilt, Syntax as WasSyntax, TooBig as WasTooBig}
use Rattle.f2b_world.specs.Faults.{Fault, OfPatterns, Rose}
use Rattle.f2b_world.specs.Told.{Standing, History, Adds, IsHonest, Leaves}
use Rattle.date_detect.specs.Forms.{Rule, framed, usual_form, usual_rule, texts}
use Rattle.date_detect.specs.Usual.{usual_text}
use Rattle.date_detect.specs.declared.form.Form.{Form}
use Rattle.date_detect.specs.declared.usual.UsualForm.{UsualForm}
use Rattle.date_detect.specs.Builds.{Makes, built, AreCalls, HasCause, Builds}
use Rattle.std.specs.List.{Contains}
use Rattle.date_detect.specs.declared.error.BuildError.{BuildError}
use Rattle.date_detect.specs.declared.error.BuildError.TheVariants.{Syntax, TooBig, NoMemory}
use Rattle.f2b_world.proofs.AddsLemmas.{adds_weaker, adds_then, adds_none}
use Rattle.date_detect.proofs.LeavesLemmas.{leaves_none, leaves_then, still_then, call_still}

-- the texts were built, one after the other
pub record HaveBuilt (texts : List (List ℕ)) (old new : Standing) : Type 0 where
  pub told : Adds old.told new.told (λ g events. events ≡ built texts)
  pub steady : (kind : Fault) → old.faults kind ≤ new.faults kind
  pub leaves : Leaves old new
  pub still : (kind : Fault) → kind ≢ OfPatterns → new.faults kind ≡ old.faults kind

-- the events are the one, whose answer is honest
abbrev IsCall : Event → History → List Event → Type 0
IsCall event g events = (events ≡ event ∷ []) × IsHonest g event

-- memory that is missing ends it too
pub lacks : (all : List (List ℕ)) (n : ℕ) (old new : Standing) → HaveBuilt (take n all) old new → Builds all (Err NoMemory) old new
lacks all n old new have = record {
  told = adds_weaker (λ g events. events ≡ built (take n all)) (λ g events. AreCalls all (Err NoMemory) events) _ _ have.told (λ g events p. (n, p));
  steady = have.steady;
  cause = tt;
  leaves = have.leaves;
  still = have.still;
}

-- a text stands among the others at the length of what is before it
contains : (all before after : List (List ℕ)) (text : List ℕ) → all ≡ before ++ text ∷ after → Contains all text
contains all before after text order = rw order (
  length before,
  simp length-append (omega arith),
  get_or-append_seam before text after text,
)

pub have_none : (s : Standing) → HaveBuilt [] s s
have_none s = record {
  told = adds_none s.told;
  steady = λ kind. omega arith;
  leaves = leaves_none s;
  still = λ kind other. refl;
}

module _ (texts : List (List ℕ)) (old mid new : Standing) (before : HaveBuilt texts old mid) where
  steady_after : ((kind : Fault) → mid.faults kind ≤ new.faults kind) → (kind : Fault) → old.faults kind ≤ new.faults kind
  steady_after later kind = omega (arith, before.steady kind, later kind)

  -- one text more
  pub have_more : (text pattern : List ℕ) → Makes text (Ok pattern) mid new → HaveBuilt (texts ++ text ∷ []) old new
  have_more text pattern makes = record {
    told = adds_then (λ g events. events ≡ built texts) (IsCall (Make text WasBuilt)) _ _ _ _ before.told makes.1.adds
        (λ g h xs ys p q. ap₂ ◌++◌ p q.0 ∙ sym (map-append _ texts (text ∷ [])));
    steady = steady_after makes.1.counts.steady;
    leaves = leaves_then old mid new before.leaves makes.1.leaves;
    still = still_then old mid new before.still (call_still text WasBuilt mid new makes.1);
  }

  rose_after : Rose (mid.faults OfPatterns) (new.faults OfPatterns) → Rose (old.faults OfPatterns) (new.faults OfPatterns)
  rose_after (inl rose) = inl (omega (arith, before.steady OfPatterns, rose))
  rose_after (inr full) = inr full

  -- a text that is refused ends the build
  pub fails : (all after : List (List ℕ)) (text : List ℕ) (error : BuildError) → all ≡ texts ++ text ∷ after → Makes text (Err error) mid new →
      Builds all (Err error) old new
  fails all after text Syntax order makes = record {
    told = adds_then (λ g events. events ≡ built texts) (IsCall (Make text WasSyntax)) _ _ _ _ before.told makes.0.adds
        (λ g h xs ys p q. record { before = texts; text = text; after = after; order = order; calls = ap₂ ◌++◌ p q.0 });
    steady = steady_after makes.0.counts.steady;
    cause = (text, contains all texts after text order, makes.1);
    leaves = leaves_then old mid new before.leaves makes.0.leaves;
    still = still_then old mid new before.still (call_still text WasSyntax mid new makes.0);
  }
  fails all after text TooBig order makes = record {
    told = adds_then (λ g events. events ≡ built texts) (IsCall (Make text WasTooBig)) _ _ _ _ before.told makes.0.adds
        (λ g h xs ys p q. record { before = texts; text = text; after = after; order = order; calls = ap₂ ◌++◌ p q.0 });
    steady = steady_after makes.0.counts.steady;
    cause = (text, contains all texts after text order, rose_after makes.1);
    leaves = leaves_then old mid new before.leaves makes.0.leaves;
    still = still_then old mid new before.still (call_still text WasTooBig mid new makes.0);
  }
  fails all after text NoMemory order makes =
      let P : Standing → Type 0 = λ s. Builds all (Err NoMemory) old s in
      subst P (sym makes) (lacks all (length texts) old mid (rw (order, take-append_seam texts (text ∷ after)) before))

  -- the same, of a text that is the given one
  pub fails_as : (all after : List (List ℕ)) (given text : List ℕ) (error : BuildError) → given ≡ text → all ≡ texts ++ text ∷ after →
      Makes given (Err error) mid new → Builds all (Err error) old new
  fails_as all after given text error same order makes =
      let P : List ℕ → Type 0 = λ t. Makes t (Err error) mid new in fails all after text error order (subst P same makes)

pub ends : (all : List (List ℕ)) (rule : Rule) (old new : Standing) → HaveBuilt all old new → Builds all (Ok rule) old new
ends all rule old new have = record {
  told = have.told;
  steady = have.steady;
  cause = tt;
  leaves = have.leaves;
  still = have.still;
}

-- ---- the texts of usual forms

module _ (anchored : Bool) (usual : List UsualForm) where
  module _ (i : ℕ) (default : UsualForm) (within : i < length usual) where
    -- with the form at i
    pub text_more : texts (usual_rule anchored (take (i + 1) usual))
        ≡ texts (usual_rule anchored (take i usual)) ++ framed anchored (usual_text (get_or usual i default)) ∷ []
    text_more = rw (take_more usual i default within) (simp map-append)

    -- the forms before it, it, and those behind it
    pub text_order : texts (usual_rule anchored usual)
        ≡ texts (usual_rule anchored (take i usual)) ++ framed anchored (usual_text (get_or usual i default)) ∷ texts (usual_rule anchored (drop (suc i) usual))
    text_order =
        let behind : drop i usual ≡ get_or usual i default ∷ drop (suc i) usual = drop-cons usual i default within in
        let parts : usual ≡ take i usual ++ get_or usual i default ∷ drop (suc i) usual =
        sym (take-append-drop i usual) ∙ ap (λ rest. take i usual ++ rest) behind in
        ap (λ u. texts (usual_rule anchored u)) parts ∙ simp map-append

    pub form_more : map (usual_form anchored) (take (i + 1) usual)
        ≡ map (usual_form anchored) (take i usual) ++ usual_form anchored (get_or usual i default) ∷ []
    form_more = rw (take_more usual i default within) (simp map-append)

  pub text_take : (i : ℕ) → take i (texts (usual_rule anchored usual)) ≡ texts (usual_rule anchored (take i usual))
  text_take i = take-map _ i _ ∙ ap (map (λ (f : Form). f.pattern)) (take-map _ i usual)

-- where each text has a reading, none is refused as Syntax
pub never_syntax : (all : List (List ℕ)) (outcome : Result Rule BuildError) (old new : Standing) → All (λ text. IsSome (reading text)) all →
    Builds all outcome old new → outcome ≢ Err Syntax
never_syntax all outcome old new reads builds is =
    let P : Result Rule BuildError → Type 0 = λ o. HasCause all o old new in
    let cause = subst P is builds.cause in
    let read = rw cause.1.2 at (reads cause.1.0 cause.0 cause.1.1) in
    absurd (true≢false (sym read ∙ ap is_some cause.2))
