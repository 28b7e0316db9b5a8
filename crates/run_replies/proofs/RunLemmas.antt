-- From the law alone: each client of a run is replied what the model does, in order.
use Rattle.std.proofs.Common.{ℕ, ◌≡◌, inl, inr, false, List, [], ◌∷◌, ◌++◌, Option, Some, None, refl, sym, ap, ◌∙◌, subst, append_assoc, append-nil}
use Rattle.std.proofs.lemmas.Bool.{or_parts}
use Rattle.client_table.specs.Clients.{Client, accepted}
use Rattle.f2b_world.specs.Told.{History, connected_after, grown, is_in}
use Rattle.f2b_world.specs.Walks.{Along, Comes, after}
use Rattle.f2b_world.specs.declared.answer.Accept.TheVariants.{Conn}
use Rattle.f2b_world.specs.declared.event.Event.{Event}
use Rattle.f2b_world.specs.declared.event.Event.TheVariants.{GateAccept}
use Rattle.f2b_world.proofs.AddsLemmas.{grown_none, grown_twice}
use Rattle.f2b_world.proofs.WalkLemmas.{after_append}
use Rattle.run_law.specs.Law.{Free, MayCome, begin, begin_with, feed, moved}
use Rattle.run_law.specs.Points.{Point, Run}
use Rattle.run_law.specs.Served.{Obeys, run_after}
use Rattle.run_law.specs.Server.{Server}
use Rattle.run_law.specs.Serving.{lets_in}
use Rattle.run_law.specs.Words.{plan_of}
use Rattle.run_law.specs.declared.plan.Plan.{Plan}
use Rattle.run_replies.specs.Replied.{IsReplied, RepliesInOrder, waiting}
use Rattle.run_replies.specs.Talks.{closes_it, is_closed}
use Rattle.run_replies.proofs.CallLemmas.{accepts_at}
use Rattle.run_replies.proofs.LifeLemmas.{lived_none, lived_replied}
use Rattle.run_replies.proofs.NumberLemmas.{AreNumbered, none_of, own_added}
use Rattle.run_replies.proofs.PlaceLemmas.{HasClients, has_served}
use Rattle.run_replies.proofs.InUseLemmas.{HasNumbers, Numbered, numbered_on}
use Rattle.run_replies.proofs.WalkLemmas.{Goes, IsOther, Lives, Of, lives_on, one_waiting, settled_waiting}

-- ---- the parts of a walk

along_behind : (r : Run) (g : History) (xs ys : List Event) → Along feed MayCome Free r g (xs ++ ys) → Along feed MayCome Free (after feed MayCome Free r xs) (grown g xs) ys
along_behind r g [] ys along = subst (λ (h : History). Along feed MayCome Free r h ys) (sym (grown_none g)) along
along_behind r g (x ∷ xs) ys along =
    subst (λ (h : History). Along feed MayCome Free (after feed MayCome Free (feed r x) xs) h ys) (grown_twice g (x ∷ []) xs) (along_behind (feed r x) (grown g (x ∷ [])) xs ys along.1)

numbered_behind : (r : Run) (g : History) (xs ys : List Event) → Along feed MayCome Free r g (xs ++ ys) → Numbered g r → Numbered (grown g xs) (after feed MayCome Free r xs)
numbered_behind r g [] ys along are = subst (λ (h : History). Numbered h r) (sym (grown_none g)) are
numbered_behind r g (x ∷ xs) ys along are =
    subst (λ (h : History). Numbered h (after feed MayCome Free (feed r x) xs)) (grown_twice g (x ∷ []) xs)
    (numbered_behind (feed r x) (grown g (x ∷ [])) xs ys along.1 (numbered_on g r x along.0 are))

begins_numbered : (o : Option Plan) (slots : ℕ → List ℕ) (g : History) → Numbered g (begin_with o slots)
begins_numbered None slots g = tt
begins_numbered (Some plan) slots g = tt

-- ---- one client

module _ (words : List (List ℕ)) (slots : ℕ → List ℕ) (conn : ℕ) where
  run_more : (es : List Event) (event : Event) → run_after words slots (es ++ event ∷ []) ≡ feed (run_after words slots es) event
  run_more es event = after_append feed MayCome Free (begin words slots) es (event ∷ [])

  -- from its accept on
  accepted_lives : (before : List Event) (g : History) → Comes feed MayCome Free (run_after words slots before) g (GateAccept (Conn conn)) → Numbered g (run_after words slots before)
      → Lives words slots conn (before ++ GateAccept (Conn conn) ∷ []) [] (grown g (GateAccept (Conn conn) ∷ [])) (feed (run_after words slots before) (GateAccept (Conn conn)))
  accepted_lives before g comes are =
      let event : Event = GateAccept (Conn conn) in
      let start : List Event = before ++ event ∷ [] in
      let r : Run = run_after words slots before in
      let used : List ℕ = connected_after [] g.events in
      let there = accepts_at r (Conn conn) comes.allowed in
      let s : Server = there.server in
      let next : Client = accepted conn s.now in
      let here : AreNumbered used s.clients = subst (λ (p : Point). HasNumbers used p) there.at are in
      let new : is_in conn used ≡ false = comes.honest in
      let of : List Client → Type 0 = Of words slots conn start next in
      let other : ℕ → List Client → Type 0 = IsOther words slots conn start in
      record {
        numbers = numbered_on g r event comes are;
        goes = inl (record {
          client = next;
          here = subst (λ (p : Point). HasClients of other (moved p event r).point) (sym there.at)
              (has_served of other (lets_in (Conn conn) s) s r (own_added next conn s.clients (none_of used conn s.clients here new) refl) tt);
          lived = lived_none words slots conn start;
        });
      }

  -- so it is replied
  goes_replied : (start life : List Event) (r : Run) → r ≡ run_after words slots (start ++ life) → Goes words slots conn start life r → IsReplied words slots conn start life
  goes_replied start life r is (inl settled) =
      let c : Client = settled.client in
      lived_replied words slots conn start life c.hearing.came c.hearing.refused c.unwritten 0
      (ap (λ (q : Run). waiting conn q.point) (sym is) ∙ settled_waiting words slots conn start c r.point settled.here) settled.lived
  goes_replied start life r is (inr w) =
      lived_replied words slots conn start life w.client.hearing.came false [] 1 (ap (λ (q : Run). waiting conn q.point) (sym is) ∙ one_waiting words slots conn start life r w) w.waits.lived

  -- as long as it is not closed
  life_replied : (start xs later life : List Event) (g : History) (r : Run) → r ≡ run_after words slots (start ++ life) → Along feed MayCome Free r g (xs ++ later)
      → is_closed conn xs ≡ false → Lives words slots conn start life g r → IsReplied words slots conn start (life ++ xs)
  life_replied start [] later life g r is along stays lives =
      subst (λ (es : List Event). IsReplied words slots conn start es) (sym (append-nil life)) (goes_replied start life r is lives.goes)
  life_replied start (x ∷ xs) later life g r is along stays lives =
      let parts = or_parts (closes_it conn x) (is_closed conn xs) stays in
      let next : feed r x ≡ run_after words slots (start ++ (life ++ x ∷ [])) =
      ap (λ (q : Run). feed q x) is ∙ sym (run_more (start ++ life) x) ∙ ap (run_after words slots) (append_assoc start life (x ∷ [])) in
      subst (λ (es : List Event). IsReplied words slots conn start es) (append_assoc life (x ∷ []) xs)
      (life_replied start xs later (life ++ x ∷ []) (grown g (x ∷ [])) (feed r x) next along.1 parts.1
      (lives_on words slots conn start life r is g lives x along.0 parts.0))

-- ---- a whole run

module _ (words : List (List ℕ)) (slots : ℕ → List ℕ) (g : History) where
  client_replied : (before life later : List Event) (conn : ℕ)
      → Along feed MayCome Free (begin words slots) g (before ++ GateAccept (Conn conn) ∷ (life ++ later)) → is_closed conn life ≡ false
      → IsReplied words slots conn (before ++ GateAccept (Conn conn) ∷ []) life
  client_replied before life later conn along stays =
      let event : Event = GateAccept (Conn conn) in
      let start : List Event = before ++ event ∷ [] in
      let r : Run = run_after words slots before in
      let there = along_behind (begin words slots) g before (event ∷ (life ++ later)) along in
      let are : Numbered (grown g before) r = numbered_behind (begin words slots) g before (event ∷ (life ++ later)) along (begins_numbered (plan_of words) slots g) in
      let is : feed r event ≡ run_after words slots (start ++ []) = sym (run_more words slots conn before event) ∙ ap (run_after words slots) (sym (append-nil start)) in
      life_replied words slots conn start life later [] (grown (grown g before) (event ∷ [])) (feed r event) is there.1
      stays (accepted_lives words slots conn before (grown g before) there.0 are)

pub replies_in_order : (words : List (List ℕ)) (slots : ℕ → List ℕ) (g : History) (es : List Event) → Obeys (begin words slots) g es → RepliesInOrder words slots es
replies_in_order words slots g es along = record {
  each = λ before life later conn is stays.
      client_replied words slots g before life later conn (subst (λ (xs : List Event). Along feed MayCome Free (begin words slots) g xs) is along) stays;
}
