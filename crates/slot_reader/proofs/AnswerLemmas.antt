-- Answers that are true of what was before them, one behind the other.
use Rattle.std.proofs.Common.{◌≡◌, Option, Some, None, List, [], ◌∷◌, ◌++◌, sym, ap, subst, ◌∙◌}
use Rattle.std.proofs.lemmas.Option.{none-some, same_Some}
use Rattle.f2b_world.specs.declared.event.Event.{Event}
use Rattle.f2b_world.specs.Told.{History, Standing, Called, Adds, IsHonest, grown}
use Rattle.f2b_world.proofs.AddsLemmas.{adds_none, adds_weaker, grown_none, grown_twice}
use Rattle.slot_reader.specs.Reads.{AreTrue}

-- events, and then others
pub true_append : (g : History) (xs ys : List Event) → AreTrue g xs → AreTrue (grown g xs) ys → AreTrue g (xs ++ ys)
true_append g [] ys first rest = subst (λ (k : History). AreTrue k ys) (grown_none g) rest
true_append g (x ∷ xs) ys first rest =
    (first.0, first.1, true_append (grown g (x ∷ [])) xs ys first.2 (subst (λ (k : History). AreTrue k ys) (sym (grown_twice g (x ∷ []) xs)) rest))

-- the other way round
pub true_split : (g : History) (xs ys : List Event) → AreTrue g (xs ++ ys) → AreTrue g xs × AreTrue (grown g xs) ys
true_split g [] ys all = (tt, subst (λ (k : History). AreTrue k ys) (sym (grown_none g)) all)
true_split g (x ∷ xs) ys all =
    let rest = true_split (grown g (x ∷ [])) xs ys all.2 in
    ((all.0, all.1, rest.0), subst (λ (k : History). AreTrue k ys) (grown_twice g (x ∷ []) xs) rest.1)
