-- How walks go on.
use Rattle.std.proofs.Common.{◌≡◌, Option, Some, None, List, [], ◌∷◌, ◌++◌, refl, sym, ap, ◌∙◌, subst}
use Rattle.f2b_world.specs.declared.event.Event.{Event}
use Rattle.f2b_world.specs.Told.{History, Standing, Called, Adds, IsHonest, grown}
use Rattle.f2b_world.specs.Bounds.{IsBounded}
use Rattle.f2b_world.specs.Walks.{after, Along, Walks}
use Rattle.f2b_world.proofs.AddsLemmas.{grown_twice, grown_none}

module _ {S : Type 0} (feed : S → Event → S) (Allows : S → Event → Type 0) (Holds : S → History → Type 0) where
  pub along_append : (s : S) (g : History) (xs ys : List Event) → Along feed Allows Holds s g xs → Along feed Allows Holds (after feed Allows Holds s xs) (grown g xs) ys → Along feed Allows Holds s g (xs ++ ys)
  along_append s g [] ys p q = (let P : History → Type 0 = λ k. Along feed Allows Holds s k ys in subst P (grown_none g) q)
  along_append s g (x ∷ xs) ys p q =
      let P : History → Type 0 = λ k. Along feed Allows Holds (after feed Allows Holds (feed s x) xs) k ys in
      (p.0, along_append (feed s x) (grown g (x ∷ [])) xs ys p.1 (subst P (sym (grown_twice g (x ∷ []) xs)) q))

  pub after_append : (s : S) (xs ys : List Event) → after feed Allows Holds s (xs ++ ys) ≡ after feed Allows Holds (after feed Allows Holds s xs) ys
  after_append s [] ys = refl
  after_append s (x ∷ xs) ys = after_append (feed s x) xs ys

  pub walks_refl : (told : Option History) (s : S) → ((g : History) → told ≡ Some g → Holds s g) → Walks feed Allows Holds told told s s
  walks_refl None s holds = record { events = tt }
  walks_refl (Some g) s holds = record { events = (g, [], refl, sym (grown_none g), (holds g refl, refl)) }

  joined : (old mid new : Option History) (s t u : S) → Adds old mid (λ g es. Along feed Allows Holds s g es × (after feed Allows Holds s es ≡ t))
      → Adds mid new (λ g es. Along feed Allows Holds t g es × (after feed Allows Holds t es ≡ u)) → Adds old new (λ g es. Along feed Allows Holds s g es × (after feed Allows Holds s es ≡ u))
  joined old mid None s t u p q = tt
  joined old None (Some h) s t u p q = absurd (let e : None ≡ Some q.0 = q.2 in cc)
  joined old (Some m) (Some h) s t u p q =
      let same : m ≡ q.0 = let e : Some m ≡ Some q.0 = q.2 in cc in
      let grew : q.0 ≡ grown p.0 p.1 = sym same ∙ p.3 in
      let P : History → Type 0 = λ k. Along feed Allows Holds t k q.1 in
      let Q : S → Type 0 = λ r. Along feed Allows Holds r (grown p.0 p.1) q.1 in (
        p.0,
        p.1 ++ q.1,
        p.2,
        q.3 ∙ ap (λ (k : History). grown k q.1) grew ∙ grown_twice p.0 p.1 q.1,
        (
          along_append s p.0 p.1 q.1 p.4.0 (subst Q (sym p.4.1) (subst P grew q.4.0)),
          after_append s p.1 q.1 ∙ ap (λ (r : S). after feed Allows Holds r q.1) p.4.1 ∙ q.4.1,
        ),
      )

  pub walks_trans : (old mid new : Option History) (s t u : S) → Walks feed Allows Holds old mid s t → Walks feed Allows Holds mid new t u → Walks feed Allows Holds old new s u
  walks_trans old mid new s t u p q = record { events = joined old mid new s t u p.events q.events }

  called : (old new : Option History) (event : Event) (s : S) → Adds old new (λ g es. (es ≡ event ∷ []) × IsHonest g event) → IsBounded event → Allows s event
      → ((g : History) → old ≡ Some g → IsHonest g event → Holds s g × Holds (feed s event) (grown g (event ∷ [])))
      → Adds old new (λ g es. Along feed Allows Holds s g es × (after feed Allows Holds s es ≡ feed s event))
  called old None event s adds bounded allowed holds = tt
  called old (Some h) event s adds bounded allowed holds =
      let both = holds adds.0 adds.2 adds.4.1 in
      (adds.0, event ∷ [], adds.2, (adds.3 ∙ ap (λ (es : List Event). grown adds.0 es) adds.4.0), ((record { holds = both.0; allowed = allowed; honest = adds.4.1; bounded = bounded }, both.1), refl))

  pub walks_call : (old new : Standing) (event : Event) (s : S) → Called old event new → Allows s event
      → ((g : History) → old.told ≡ Some g → IsHonest g event → Holds s g × Holds (feed s event) (grown g (event ∷ [])))
      → Walks feed Allows Holds old.told new.told s (feed s event)
  walks_call old new event s call allowed holds = record { events = called old.told new.told event s call.adds call.bounded allowed holds }
