-- How a machine goes along a history: each event may come where it comes, and at each point something holds of the state and the
-- history so far.
use Rattle.std.specs.Prelude.{◌≡◌, Option, List, [], ◌∷◌}
use Rattle.f2b_world.specs.declared.event.Event.{Event}
use Rattle.f2b_world.specs.Bounds.{IsBounded}
use Rattle.f2b_world.specs.Told.{History, Adds, IsHonest, grown}

module _ {S : Type 0} (feed : S → Event → S) (Allows : S → Event → Type 0) (Holds : S → History → Type 0) where
  abbrev pub after : S → List Event → S
  after s [] = s
  after s (event ∷ events) = after (feed s event) events

  -- the event comes in the state s, after the history g
  pub record Comes (s : S) (g : History) (event : Event) : Type 0 where
    pub holds : Holds s g
    pub allowed : Allows s event
    -- its answer is true of what was before it, and its numbers fit their types
    pub honest : IsHonest g event
    pub bounded : IsBounded event

  abbrev pub Along : S → History → List Event → Type 0
  Along s g [] = Holds s g
  Along s g (event ∷ events) = Comes s g event × Along (feed s event) (grown g (event ∷ [])) events

  -- from s to t, as long as the world tells
  pub record Walks (old new : Option History) (s t : S) : Type 0 where
    pub events : Adds old new (λ g es. Along s g es × (after s es ≡ t))
