-- What calls for patterns leave as it was.
use Rattle.std.proofs.Common.{◌≡◌, ◌≢◌, ℕ, List, Some, None, refl, ◌∙◌}
use Rattle.f2b_world.specs.declared.answer.MakeAnswer.{MakeAnswer}
use Rattle.f2b_world.specs.declared.answer.MakeAnswer.TheVariants.{Built as WasBuilt, Syntax as WasSyntax, TooBig as WasTooBig}
use Rattle.f2b_world.specs.declared.event.Event.TheVariants.{Make}
use Rattle.f2b_world.specs.Faults.{Fault, OfPatterns}
use Rattle.f2b_world.specs.Told.{Standing, Called, Leaves}

-- no call
pub leaves_none : (s : Standing) → Leaves s s
leaves_none s = record { talk = refl; shelf = refl }

module _ (old mid new : Standing) where
  -- a call after others
  pub leaves_then : Leaves old mid → Leaves mid new → Leaves old new
  leaves_then first then = record { talk = then.talk ∙ first.talk; shelf = then.shelf ∙ first.shelf }

  -- the counts of all other kinds
  pub still_then : ((kind : Fault) → kind ≢ OfPatterns → mid.faults kind ≡ old.faults kind)
      → ((kind : Fault) → kind ≢ OfPatterns → new.faults kind ≡ mid.faults kind)
      → (kind : Fault) → kind ≢ OfPatterns → new.faults kind ≡ old.faults kind
  still_then first then kind other = then kind other ∙ first kind other

-- one call for a pattern leaves the counts of all other kinds
pub call_still : (text : List ℕ) (answer : MakeAnswer) (old new : Standing) → Called old (Make text answer) new
    → (kind : Fault) → kind ≢ OfPatterns → new.faults kind ≡ old.faults kind
call_still text WasBuilt old new called kind other = called.counts.still kind (λ (e : None ≡ Some kind). cc)
call_still text WasSyntax old new called kind other = called.counts.still kind (λ (e : None ≡ Some kind). cc)
call_still text WasTooBig old new called kind other =
    called.counts.still kind (λ (e : Some OfPatterns ≡ Some kind). let same : kind ≡ OfPatterns = cc in other same)
