-- Parts of a reading, one behind the other, and the reading that a run starts with.
use Rattle.std.proofs.Common.{◌≡◌, List, [], ◌∷◌, refl, sym, ap, subst}
use Rattle.f2b_model.specs.Lists.{AllOf}
use Rattle.f2b_model.proofs.StorableLaneLemmas.{all_both}
use Rattle.f2b_world.specs.Told.{Called, History, IsHonest, Standing}
use Rattle.f2b_world.specs.declared.event.Event.{Event}
use Rattle.f2b_world.proofs.AddsLemmas.{adds_none, adds_then, adds_weaker}
use Rattle.jail_conf.specs.declared.settings.Settings.{Settings}
use Rattle.run_law.specs.Law.{Goes, Halts}
use Rattle.run_law.specs.News.{goes_to, refused}
use Rattle.run_law.specs.Points.{Point, AtMakes, AtStore, AtTree, Run}
use Rattle.run_law.specs.Readers.{Reader}
use Rattle.run_law.specs.Stages.{IsAt, IsRefusal, Refuses}
use Rattle.run_law.specs.Start.{left_to_make}
use Rattle.run_law.specs.declared.plan.Plan.{Plan}
use Rattle.run_law.specs.declared.status.Status.{Status}
use Rattle.run_law.specs.declared.status.Status.TheVariants.{ConfFault, ConfRefused, ConfTooLarge, PatternRefused, NoMemory}
use Rattle.run_law.proofs.CauseLemmas.{refused_cause}
use Rattle.run_law.proofs.PointLemmas.{goes_refl, goes_trans, halts_after, halts_here}
use Rattle.run_steps.specs.Starting.{StartFails, Starts}
use Rattle.run_trees.specs.Reads.{IsUnrefused, Reads, ReadsShort, RefusesNothing, at_tree, not_taken, with_left}
use Rattle.run_law.specs.Reading.{IsUntaken}

-- a part that does nothing
pub reads_none : (a : Standing) (plan : Plan) (from : Reader → Run → Run) → Reads a a plan from from
reads_none a plan from = record { runs = λ k r is still. goes_refl a.told (from k r) }

-- two parts are one
pub reads_trans : (a b c : Standing) (plan : Plan) (from mid there : Reader → Run → Run) → Reads a b plan from mid → Reads b c plan mid there → Reads a c plan from there
reads_trans a b c plan from mid there p q = record {
  runs = λ k r is still. goes_trans a.told b.told c.told (from k r) (mid k r) (there k r) (p.runs k r is still) (q.runs k r is still);
}

-- memory ran out in the second
pub reads_short_on : (a b c : Standing) (plan : Plan) (from mid : Reader → Run → Run) → Reads a b plan from mid → ReadsShort b c plan mid → ReadsShort a c plan from
reads_short_on a b c plan from mid p q = record {
  runs = λ k r is still. halts_after a.told b.told c.told (from k r) (mid k r) NoMemory (p.runs k r is still) (q.runs k r is still);
}

-- memory ran out before anything happened
pub reads_short_here : (a : Standing) (plan : Plan) (from : Reader → Run → Run) → ReadsShort a a plan from
reads_short_here a plan from = record { runs = λ k r is still. halts_here a.told (from k r) }

-- ---- answers that refuse nothing

-- there is none
pub unrefused_none : (a : Standing) → IsUnrefused a a
unrefused_none a = adds_weaker (λ g es. es ≡ []) (λ g es. AllOf RefusesNothing es) a.told a.told (adds_none a.told) (λ g es is. subst (AllOf RefusesNothing) (sym is) tt)

-- there is one
pub unrefused_call : (a b : Standing) (event : Event) → RefusesNothing event → Called a event b → IsUnrefused a b
unrefused_call a b event none call =
    adds_weaker (λ g es. (es ≡ event ∷ []) × IsHonest g event) (λ g es. AllOf RefusesNothing es) a.told b.told call.adds (λ g es is. subst (AllOf RefusesNothing) (sym is.0) (none, tt))

-- they come one behind the other
pub unrefused_trans : (a b c : Standing) → IsUnrefused a b → IsUnrefused b c → IsUnrefused a c
unrefused_trans a b c p q =
    let P : History → List Event → Type 0 = λ g es. AllOf RefusesNothing es in
    adds_then P P P a.told b.told c.told p q (λ g h xs ys before behind. all_both RefusesNothing xs ys before behind)

pub ruleset reading = (reads_trans, reads_short_on, reads_short_here, unrefused_trans)

pub ruleset beginning = (reads_none, reads_short_here)

-- ---- the start of a run

-- it reads a configuration
abbrev pub start_reader : Reader
start_reader = record {
  at_tree = AtTree;
  at_makes = λ settings p ps. AtMakes settings (p ∷ ps);
  left_to_make = left_to_make;
  untaken = refused 0;
  asks_tree = λ plan. refl;
  reads = λ root answer r. refl;
  stands = λ settings p ps r. refl;
  asks_make = λ plan settings p ps. refl;
  makes = λ settings p ps text answer r. refl;
  from_any = λ settings ps point r. refl;
  untaken_from_any = λ status point r. refl;
}

-- a run that is there already
come : (r : Run) (point : Point) → IsAt r point → goes_to point r ≡ r
come r point at = ap (λ (p : Point). goes_to p r) (sym at.point)

module _ (a b : Standing) (plan : Plan) where
  starts_at : (there : Run → Run) (r : Run) → IsAt r AtTree → Goes a.told b.told (goes_to AtTree r) (there r) → Goes a.told b.told r (there r)
  starts_at there r at goes =
      let P : Run → Type 0 = λ x. Goes a.told b.told x (there r) in
      subst P (come r AtTree at) goes

  pub start_taken : (settings : Settings) → Reads a b plan at_tree (with_left settings []) → Starts a b plan AtTree (AtStore settings)
  start_taken settings reads = record {
    runs = λ r is at. record {
      to = goes_to (AtStore settings) r;
      goes = starts_at (goes_to (AtStore settings)) r at (reads.runs start_reader r is at.still);
      at = record { point = refl; still = record { written = at.still.written; paid = at.still.paid } };
      asked = is;
      slots = refl;
      unclosed = refl;
    };
  }

  pub start_untaken : (c : Standing) (refusal status : Status) → Reads a b plan at_tree (not_taken refusal) → Refuses b c 0 refusal status → StartFails a c plan AtTree status
  start_untaken c refusal status reads refuses = record {
    runs = λ r is at.
        halts_after a.told b.told c.told r (not_taken refusal start_reader r) status
        (starts_at (not_taken refusal start_reader) r at (reads.runs start_reader r is at.still)) (refuses.runs r at.still);
  }

  pub start_lost : ReadsShort a b plan at_tree → StartFails a b plan AtTree NoMemory
  start_lost reads = record {
    runs = λ r is at.
        let P : Run → Type 0 = λ x. Halts a.told b.told x NoMemory in
        subst P (come r AtTree at) (reads.runs start_reader r is at.still);
  }

-- why it is not taken is said
pub untaken_refusal : (status : Status) → IsUntaken status → IsRefusal status
untaken_refusal ConfFault is = tt
untaken_refusal ConfTooLarge is = tt
untaken_refusal (ConfRefused error) is = tt
untaken_refusal (PatternRefused jail place kind) is = tt
untaken_refusal _ is = absurd is

pub ruleset starting = (start_taken, start_untaken, start_lost, untaken_refusal, refused_cause)
