-- How a run goes on while an input is written.
use Rattle.std.proofs.Common.{◌≡◌, Option, Some, None, List, [], ◌∷◌, ◌++◌, refl, sym, ap, ◌∙◌, subst, append-nil}
use Rattle.std.specs.Prelude.{IfSome}
use Rattle.f2b_model.specs.Storable.{IsStorableInput}
use Rattle.f2b_world.specs.Told.{History, Adds, grown}
use Rattle.f2b_world.specs.Walks.{after, Along, Comes}
use Rattle.f2b_world.specs.declared.event.Event.{Event}
use Rattle.f2b_world.proofs.AddsLemmas.{adds_weaker}
use Rattle.f2b_world.proofs.WalkLemmas.{along_append, after_append}
use Rattle.run_law.specs.Disk.{broken}
use Rattle.run_law.specs.Law.{Free, Goes, Halts, MayCome, feed}
use Rattle.run_law.specs.News.{closing, writing}
use Rattle.run_law.specs.Points.{Run}
use Rattle.run_law.specs.declared.status.Status.TheVariants.{NoMemory}
use Rattle.slot_writes.specs.Writes.{Write, Put, Sync, done_event, failed_event, done_events, IsFirstPart, IsBroken, Performs, Breaks, StopsShort}

-- ---- one call

-- the calls that are left do not depend on those that were
writing_again : (ws vs : List Write) (r : Run) → writing ws (record r { writes = vs }) ≡ writing ws r
writing_again [] vs r = refl
writing_again (w ∷ ws) vs r = refl

done_leads : (w : Write) (ws : List Write) (r : Run) → feed (writing (w ∷ ws) r) (done_event w) ≡ writing ws r
done_leads (Put slot at bytes) ws r = writing_again ws (Put slot at bytes ∷ ws) r
done_leads (Sync slot) ws r = writing_again ws (Sync slot ∷ ws) r

failed_leads : (w : Write) (ws : List Write) (r : Run) → feed (writing (w ∷ ws) r) (failed_event w) ≡ broken r
failed_leads (Put slot at bytes) ws r = refl
failed_leads (Sync slot) ws r = refl

module _ (r : Run) (stored : IfSome r.unclosed IsStorableInput) where
  done_comes : (w : Write) (ws : List Write) (g : History) → Comes feed MayCome Free (writing (w ∷ ws) r) g (done_event w)
  done_comes (Put slot at bytes) ws g = record { holds = tt; allowed = ((refl, refl, refl), stored); honest = tt; bounded = tt }
  done_comes (Sync slot) ws g = record { holds = tt; allowed = (refl, stored); honest = tt; bounded = tt }

  failed_comes : (w : Write) (ws : List Write) (g : History) → Comes feed MayCome Free (writing (w ∷ ws) r) g (failed_event w)
  failed_comes (Put slot at bytes) ws g = record { holds = tt; allowed = ((refl, refl, refl), stored); honest = tt; bounded = tt }
  failed_comes (Sync slot) ws g = record { holds = tt; allowed = (refl, stored); honest = tt; bounded = tt }

  -- ---- a run of calls

  done_along : (ws left : List Write) (g : History) → Along feed MayCome Free (writing (ws ++ left) r) g (done_events ws)
  done_along [] left g = tt
  done_along (w ∷ ws) left g =
      let P : Run → Type 0 = λ x. Along feed MayCome Free x (grown g (done_event w ∷ [])) (done_events ws) in
      (done_comes w (ws ++ left) g, subst P (sym (done_leads w (ws ++ left) r)) (done_along ws left (grown g (done_event w ∷ []))))

  done_after : (ws left : List Write) → after feed MayCome Free (writing (ws ++ left) r) (done_events ws) ≡ writing left r
  done_after [] left = refl
  done_after (w ∷ ws) left =
      ap (λ (x : Run). after feed MayCome Free x (done_events ws)) (done_leads w (ws ++ left) r) ∙ done_after ws left

  -- all calls were done: the input is closed
  pub performs_goes : (ws : List Write) (old new : Option History) → Performs ws old new → Goes old new (writing ws r) (closing r)
  performs_goes ws old new p = record {
    events = adds_weaker (λ g es. es ≡ done_events ws) (λ g es. Along feed MayCome Free (writing ws r) g es × (after feed MayCome Free (writing ws r) es ≡ closing r)) old new p.events
        (λ g es is.
        let A : List Event → Type 0 = λ xs. Along feed MayCome Free (writing ws r) g xs × (after feed MayCome Free (writing ws r) xs ≡ closing r) in
        let L : List Write → Type 0 = λ vs. Along feed MayCome Free (writing vs r) g (done_events ws) × (after feed MayCome Free (writing vs r) (done_events ws) ≡ closing r) in
        subst A (sym is) (subst L (append-nil ws) (done_along ws [] g, done_after ws [])));
  }

  broken_along : (first : List Write) (one : Write) (left : List Write) (g : History)
      → Along feed MayCome Free (writing (first ++ one ∷ left) r) g (done_events first ++ failed_event one ∷ [])
  broken_along first one left g =
      let P : Run → Type 0 = λ x. Along feed MayCome Free x (grown g (done_events first)) (failed_event one ∷ []) in
      along_append feed MayCome Free (writing (first ++ one ∷ left) r) g (done_events first) (failed_event one ∷ []) (done_along first (one ∷ left) g)
      (subst P (sym (done_after first (one ∷ left))) (failed_comes one left (grown g (done_events first)), tt))

  broken_after : (first : List Write) (one : Write) (left : List Write) → after feed MayCome Free (writing (first ++ one ∷ left) r) (done_events first ++ failed_event one ∷ []) ≡ broken r
  broken_after first one left =
      after_append feed MayCome Free (writing (first ++ one ∷ left) r) (done_events first) (failed_event one ∷ [])
      ∙ ap (λ (x : Run). feed x (failed_event one)) (done_after first (one ∷ left)) ∙ failed_leads one left r

  -- the disk failed at one of them
  pub breaks_goes : (ws : List Write) (old new : Option History) → Breaks ws old new → Goes old new (writing ws r) (broken r)
  breaks_goes ws old new p = record {
    events = adds_weaker (λ g es. IsBroken ws es) (λ g es. Along feed MayCome Free (writing ws r) g es × (after feed MayCome Free (writing ws r) es ≡ broken r)) old new p.events
        (λ g es is.
        let calls : List Write = is.first ++ is.one ∷ is.left in
        let events : List Event = done_events is.first ++ failed_event is.one ∷ [] in
        let A : List Event → Type 0 = λ xs. Along feed MayCome Free (writing ws r) g xs × (after feed MayCome Free (writing ws r) xs ≡ broken r) in
        let L : List Write → Type 0 = λ vs. Along feed MayCome Free (writing vs r) g events × (after feed MayCome Free (writing vs r) events ≡ broken r) in
        subst A (sym is.done) (subst L (sym is.parts) (broken_along is.first is.one is.left g, broken_after is.first is.one is.left)));
  }

  -- memory ran out before one of them
  short_walk : (ws : List Write) (g : History) (es : List Event) → IsFirstPart ws es → Along feed MayCome Free (writing ws r) g es
  short_walk ws g es is =
      let A : List Event → Type 0 = λ xs. Along feed MayCome Free (writing ws r) g xs in
      let L : List Write → Type 0 = λ vs. Along feed MayCome Free (writing vs r) g (done_events is.first) in
      subst A (sym is.done) (subst L (sym is.parts) (done_along is.first is.left g))

  short_halts : (ws : List Write) (old new : Option History) → Adds old new (λ g es. IsFirstPart ws es) → Halts old new (writing ws r) NoMemory
  short_halts ws old None adds = record { last = writing ws r; goes = record { events = tt }; ends = tt }
  short_halts ws old (Some h) adds =
      let last : Run = after feed MayCome Free (writing ws r) adds.1 in
      record { last = last; goes = record { events = (adds.0, adds.1, adds.2, adds.3, (short_walk ws adds.0 adds.1 adds.4, refl)) }; ends = tt }

  pub stops_short : (ws : List Write) (old new : Option History) → StopsShort ws old new → Halts old new (writing ws r) NoMemory
  stops_short ws old new p = short_halts ws old new p.events
