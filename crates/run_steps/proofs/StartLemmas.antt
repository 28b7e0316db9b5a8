-- Parts of the start, one behind the other.
use Rattle.std.proofs.Common.{ℕ, ◌≡◌, List, [], ◌∷◌, Option, Some, None, refl, sym, ap, ◌∙◌, subst}
use Rattle.f2b_model.specs.Lists.{AllOf}
use Rattle.f2b_model.proofs.StorableLaneLemmas.{all_both}
use Rattle.f2b_world.specs.Slots.{Slot}
use Rattle.f2b_world.specs.Told.{Adds, Called, History, IsHonest, Standing, grown, slot_of}
use Rattle.f2b_world.proofs.AddsLemmas.{adds_none, adds_then, adds_weaker}
use Rattle.f2b_world.specs.declared.event.Event.{Event}
use Rattle.reconcile.specs.Laws.{ChangesNoSlot}
use Rattle.reconcile.proofs.StillLemmas.{slot_still}
use Rattle.run_law.specs.Calls.{IsNext}
use Rattle.run_law.specs.Law.{Goes, feed, moved, point_call}
use Rattle.run_law.specs.News.{goes_to, refused}
use Rattle.run_law.specs.Points.{Point, Run}
use Rattle.run_law.specs.Stages.{IsAt, Refuses}
use Rattle.run_law.specs.Stops.{HoldsThese, held_in}
use Rattle.run_law.specs.declared.plan.Plan.{Plan}
use Rattle.run_law.specs.declared.status.Status.{Status}
use Rattle.run_law.specs.declared.status.Status.TheVariants.{NoMemory}
use Rattle.run_law.proofs.PointLemmas.{goes_refl, goes_trans, halts_after, halts_here, point_goes}
use Rattle.run_steps.specs.Starting.{Arrives, LeavesSlots, StartFails, Starts}

-- a part that does nothing
pub starts_none : (a : Standing) (plan : Plan) (from : Point) → Starts a a plan from from
starts_none a plan from = record { runs = λ r is at. record { to = r; goes = goes_refl a.told r; at = at; asked = is; slots = refl; unclosed = refl } }

-- two parts are one
pub starts_trans : (a b c : Standing) (plan : Plan) (from mid there : Point) → Starts a b plan from mid → Starts b c plan mid there → Starts a c plan from there
starts_trans a b c plan from mid there p q = record {
  runs = λ r is at.
      let one = p.runs r is at in
      let two = q.runs one.to one.asked one.at in
      record {
        to = two.to;
        goes = goes_trans a.told b.told c.told r one.to two.to one.goes two.goes;
        at = two.at;
        asked = two.asked;
        slots = two.slots ∙ one.slots;
        unclosed = two.unclosed ∙ one.unclosed;
      };
}

-- the run ends in the second part
pub start_fails_on : (a b c : Standing) (plan : Plan) (from mid : Point) (status : Status) → Starts a b plan from mid → StartFails b c plan mid status → StartFails a c plan from status
start_fails_on a b c plan from mid status p q = record {
  runs = λ r is at.
      let one = p.runs r is at in
      halts_after a.told b.told c.told r one.to status one.goes (q.runs one.to one.asked one.at);
}

-- memory ran out before anything happened
pub start_fails_here : (a : Standing) (plan : Plan) (from : Point) → StartFails a a plan from NoMemory
start_fails_here a plan from = record { runs = λ r is at. halts_here a.told r }

module _ (a b : Standing) (plan : Plan) (event : Event) (from : Point) (call : Called a event b) (next : IsNext (point_call plan from) event) (plain : (r : Run) → feed r event ≡ moved r.point event r) where
  leads : (r to : Run) → r.plan ≡ plan → IsAt r from → moved from event r ≡ to → Goes a.told b.told r to
  leads r to is at there =
      let P : Plan → Type 0 = λ p. IsNext (point_call p from) event in
      let Q : Run → Type 0 = λ x. Goes a.told b.told r x in
      subst Q there (point_goes a b event r from call at (subst P (sym is) next) (plain r))

  -- the call of a point leads to another point
  pub starts_call : (there : Point) → ((r : Run) → moved from event r ≡ goes_to there r) → Starts a b plan from there
  starts_call there to = record {
    runs = λ r is at. record {
      to = goes_to there r;
      goes = leads r (goes_to there r) is at (to r);
      at = record { point = refl; still = record { written = at.still.written; paid = at.still.paid } };
      asked = is;
      slots = refl;
      unclosed = refl;
    };
  }

  -- the call of a point leads to a refusal
  pub refused_call : (c : Standing) (refusal status : Status) → ((r : Run) → moved from event r ≡ refused 0 refusal r) → Refuses b c 0 refusal status → StartFails a c plan from status
  refused_call c refusal status to refuses = record {
    runs = λ r is at. halts_after a.told b.told c.told r (refused 0 refusal r) status (leads r (refused 0 refusal r) is at (to r)) (refuses.runs r at.still);
  }

-- ---- slots that are left alone

-- where nothing was called
pub leaves_none : (a : Standing) → LeavesSlots a a
leaves_none a = adds_weaker (λ g es. es ≡ []) (λ g es. AllOf ChangesNoSlot es) a.told a.told (adds_none a.told) (λ g es is. subst (AllOf ChangesNoSlot) (sym is) tt)

-- over one call that is no write
pub leaves_call : (a b : Standing) (event : Event) → ChangesNoSlot event → Called a event b → LeavesSlots a b
leaves_call a b event still call =
    adds_weaker (λ g es. (es ≡ event ∷ []) × IsHonest g event) (λ g es. AllOf ChangesNoSlot es) a.told b.told call.adds (λ g es is. subst (AllOf ChangesNoSlot) (sym is.0) (still, tt))

-- and over two parts
pub leaves_trans : (a b c : Standing) → LeavesSlots a b → LeavesSlots b c → LeavesSlots a c
leaves_trans a b c p q =
    let P : History → List Event → Type 0 = λ g es. AllOf ChangesNoSlot es in
    adds_then P P P a.told b.told c.told p q (λ g h xs ys before behind. all_both ChangesNoSlot xs ys before behind)

-- They hold what they held.
held_still : (slots : ℕ → List ℕ) (old new : Option History) → Adds old new (λ g es. AllOf ChangesNoSlot es) → HoldsThese slots old → (h : History) → new ≡ Some h → slots ≡ held_in h
held_still slots old None adds holds h told = absurd (let e : None ≡ Some h = told in cc)
held_still slots old (Some j) adds holds h told =
    let grew : h ≡ grown adds.0 adds.1 = (let e : j ≡ h = cc in sym e) ∙ adds.3 in
    let still : held_in adds.0 ≡ held_in (grown adds.0 adds.1) = λ i. λ slot. (sym (slot_still slot adds.0 adds.1 adds.4) i).now in
    holds.each adds.0 adds.2 ∙ still ∙ ap held_in (sym grew)

pub holds_on : (slots : ℕ → List ℕ) (a b : Standing) → LeavesSlots a b → HoldsThese slots a.told → HoldsThese slots b.told
holds_on slots a b leaves holds = record { each = held_still slots a.told b.told leaves holds }

pub ruleset leaving = (leaves_none, leaves_call, leaves_trans)

pub ruleset starting = (starts_none, starts_trans, start_fails_on, start_fails_here)
