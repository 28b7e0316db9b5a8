-- The beginning of a run of calls is one, too.
use Rattle.std.proofs.Common.{ℕ, zero, suc, ◌≡◌, inl, inr, List, [], ◌∷◌, ◌++◌, take, refl, sym, ap, subst}
use Rattle.f2b_world.specs.declared.event.Event.{Event}
use Rattle.slot_writes.specs.Writes.{Write, done_event, failed_event, done_events, IsPart}

pub none_taken : (k : ℕ) → take k (let r : List Event = [] in r) ≡ []
none_taken zero = refl
none_taken (suc k) = refl

nothing_done : (ws : List Write) → IsPart ws []
nothing_done ws = inl (record { first = []; left = ws; parts = refl; done = refl })

-- a call that was done, and then a run
behind : (w : Write) (ws : List Write) (es : List Event) → IsPart ws es → IsPart (w ∷ ws) (done_event w ∷ es)
behind w ws es (inl is) =
    inl (record { first = w ∷ is.first; left = is.left; parts = ap (λ (r : List Write). w ∷ r) is.parts; done = ap (λ (r : List Event). done_event w ∷ r) is.done })
behind w ws es (inr is) = inr (record {
  first = w ∷ is.first;
  one = is.one;
  left = is.left;
  parts = ap (λ (r : List Write). w ∷ r) is.parts;
  done = ap (λ (r : List Event). done_event w ∷ r) is.done;
})

take_first : (first left : List Write) (k : ℕ) → IsPart (first ++ left) (take k (done_events first))
take_first first left zero = nothing_done (first ++ left)
take_first [] left (suc k) = nothing_done left
take_first (w ∷ ws) left (suc k) = behind w (ws ++ left) (take k (done_events ws)) (take_first ws left k)

take_broken : (first : List Write) (one : Write) (left : List Write) (k : ℕ) → IsPart (first ++ one ∷ left) (take k (done_events first ++ failed_event one ∷ []))
take_broken first one left zero = nothing_done (first ++ one ∷ left)
take_broken [] one left (suc k) = inr (record { first = []; one = one; left = left; parts = refl; done = ap (λ (r : List Event). failed_event one ∷ r) (none_taken k) })
take_broken (w ∷ ws) one left (suc k) = behind w (ws ++ one ∷ left) (take k (done_events ws ++ failed_event one ∷ [])) (take_broken ws one left k)

pub part_take : (ws : List Write) (es : List Event) (k : ℕ) → IsPart ws es → IsPart ws (take k es)
part_take ws es k (inl is) =
    let P : List Write → Type 0 = λ r. IsPart r (take k es) in
    let Q : List Event → Type 0 = λ r. IsPart (is.first ++ is.left) (take k r) in
    subst P (sym is.parts) (subst Q (sym is.done) (take_first is.first is.left k))
part_take ws es k (inr is) =
    let P : List Write → Type 0 = λ r. IsPart r (take k es) in
    let Q : List Event → Type 0 = λ r. IsPart (is.first ++ is.one ∷ is.left) (take k r) in
    subst P (sym is.parts) (subst Q (sym is.done) (take_broken is.first is.one is.left k))
