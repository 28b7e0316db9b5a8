-- How a history goes on, and on.
use Rattle.std.proofs.Common.{◌≡◌, Option, Some, None, List, [], ◌++◌, refl, sym, ap, ◌∙◌, append_assoc, append-nil}
use Rattle.f2b_world.specs.declared.event.Event.{Event}
use Rattle.f2b_world.specs.Told.{History, Adds, grown}

pub grown_twice : (g : History) (xs ys : List Event) → grown (grown g xs) ys ≡ grown g (xs ++ ys)
grown_twice g xs ys = ap (λ (es : List Event). let r : History = record { first = g.first; events = es } in r) (append_assoc g.events xs ys)

pub grown_none : (g : History) → grown g [] ≡ g
grown_none g = ap (λ (es : List Event). let r : History = record { first = g.first; events = es } in r) (append-nil g.events)

-- what is weaker of the events holds too
pub adds_weaker : (P Q : History → List Event → Type 0) (old new : Option History) → Adds old new P
    → ((g : History) (es : List Event) → P g es → Q g es) → Adds old new Q
adds_weaker P Q old None a f = tt
adds_weaker P Q old (Some h) a f = (a.0, a.1, a.2, a.3, f a.0 a.1 a.4)

module _ (P Q R : History → List Event → Type 0) where
  -- events, and then others
  pub adds_then : (old mid new : Option History) → Adds old mid P → Adds mid new Q
      → ((g h : History) (xs ys : List Event) → P g xs → Q h ys → R g (xs ++ ys)) → Adds old new R
  adds_then old mid None a b f = tt
  adds_then old None (Some h) a b f = absurd (let e : None ≡ Some b.0 = b.2 in cc)
  adds_then old (Some m) (Some h) a b f =
      let same : m ≡ b.0 = let e : Some m ≡ Some b.0 = b.2 in cc in (
        a.0,
        a.1 ++ b.1,
        a.2,
        b.3 ∙ ap (λ (k : History). grown k b.1) (sym same ∙ a.3) ∙ grown_twice a.0 a.1 b.1,
        f a.0 b.0 a.1 b.1 a.4 b.4,
      )

-- no event
pub adds_none : (told : Option History) → Adds told told (λ g es. es ≡ [])
adds_none None = tt
adds_none (Some g) = (g, [], refl, sym (grown_none g), refl)
