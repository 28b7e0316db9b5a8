-- The patterns of a jail are built, one call after another, up to the first that is not built, whoever reads its configuration.
use Rattle.std.proofs.Common.{ℕ, zero, suc, ◌≡◌, ◌++◌, List, [], ◌∷◌, map, take, drop, Option, Some, None, Result, Ok, Err, refl, sym, ap, ◌∙◌, append_assoc, subst, arith}
use Rattle.std.specs.Prelude.{Contains}
use Rattle.std.specs.List.{flat_map}
use Rattle.std.proofs.lemmas.List.{map-append, take-append-drop}
use Rattle.std.proofs.lemmas.List.Elements.{Contains-append_left, Contains-append_right}
use Rattle.f2b_base.specs.declared.jail.JailDef.{JailDef}
use Rattle.f2b_model.specs.Lists.{AllOf}
use Rattle.f2b_world.specs.Told.{History, Standing, Adds, grown}
use Rattle.f2b_world.specs.Walks.{after, Along}
use Rattle.f2b_world.specs.declared.answer.MakeAnswer.{MakeAnswer}
use Rattle.f2b_world.specs.declared.answer.MakeAnswer.TheVariants.{Built as WasBuilt}
use Rattle.f2b_world.specs.declared.event.Event.{Event}
use Rattle.f2b_world.specs.declared.event.Event.TheVariants.{Make}
use Rattle.f2b_world.proofs.AddsLemmas.{adds_weaker}
use Rattle.f2b_world.proofs.WalkLemmas.{after_append, along_append}
use Rattle.filter_regex.specs.Builds.{AreCalls, answer, built}
use Rattle.filter_regex.specs.Builds as filter
use Rattle.filter_regex.specs.Rules.{Rules, patterns, rules_of}
use Rattle.filter_regex.specs.declared.error.BuildKind.{BuildKind}
use Rattle.filter_regex.specs.declared.error.BuildKind.TheVariants.{Syntax, TooBig}
use Rattle.filter_regex.specs.declared.error.PatternError.{PatternError}
use Rattle.filter_regex.specs.declared.error.PatternError.TheVariants.{Refused, NoMemory as MemoryError}
use Rattle.filter_regex.specs.declared.error.PatternPlace.{PatternPlace}
use Rattle.jail_conf.specs.declared.settings.Settings.{Settings}
use Rattle.reconcile.specs.Laws.{ChangesNoSlot}
use Rattle.run_law.specs.Calls.{Call, AskMake, IsNext}
use Rattle.run_law.specs.Law.{Free, Goes, Halts, MayCome, feed, next_call}
use Rattle.run_law.specs.News.{goes_to}
use Rattle.run_law.specs.Patterns.{Pattern, pattern_in, patterns_of_jail}
use Rattle.run_law.specs.Points.{Point, Run}
use Rattle.run_law.specs.Readers.{Reader}
use Rattle.run_law.specs.Reading.{makes_one}
use Rattle.run_law.specs.Stages.{HasCause, IsStill, IsSteady}
use Rattle.run_law.specs.declared.status.Status.TheVariants.{PatternRefused, NoMemory}
use Rattle.run_law.proofs.LongLemmas.{goes_on}
use Rattle.run_law.proofs.PointLemmas.{next_at}
use Rattle.run_steps.specs.Starting.{LeavesSlots}
use Rattle.run_trees.specs.Reads.{BuildFails, Builds, BuildsShort, IsUnrefused, RefusesNothing, not_taken, with_left}
use Rattle.run_law.specs.Reading.{IsUntaken}
use Rattle.run_trees.specs.Trees.{IsCaused, IsOfTree}
use Rattle.run_trees.proofs.ReadsLemmas.{reads_short_here, unrefused_none}

abbrev Placed : Type 0
Placed = PatternPlace × List ℕ

-- the run that a list of events leads to
abbrev run_after : Run → List Event → Run
run_after r es = after feed MayCome Free r es

abbrev Passes : Run → History → List Event → Type 0
Passes r g es = Along feed MayCome Free r g es

module _ (k : Reader) (d : JailDef) (settings : Settings) (left : List Pattern) (r : Run) (still : IsStill r) where
  -- these patterns of the jail are left, and the rest behind them
  abbrev all_left : List Placed → List Pattern
  all_left ps = map (pattern_in d) ps ++ left

  abbrev come : List Placed → Run
  come ps = with_left settings (all_left ps) k r

  -- at the call for the first of them
  abbrev first_point : Placed → List Placed → Point
  first_point p ps = k.at_makes settings (pattern_in d p) (all_left ps)

  abbrev at_first : Placed → List Placed → Run
  at_first p ps = goes_to (first_point p ps) r

  stands : (p : Placed) (ps : List Placed) → come (p ∷ ps) ≡ at_first p ps
  stands p ps = k.stands settings (pattern_in d p) (all_left ps) r

  may_make : (p : Placed) (ps : List Placed) (made : MakeAnswer) → MayCome (at_first p ps) (Make p.1 made)
  may_make p ps made =
      let P : Option Call → Type 0 = λ c. IsNext c (Make p.1 made) in
      let next : next_call (at_first p ps) ≡ Some (AskMake p.1) =
      next_at (at_first p ps) (first_point p ps) (record { point = refl; still = record { written = still.written; paid = still.paid } })
      ∙ k.asks_make r.plan settings (pattern_in d p) (all_left ps) in
      subst P (sym next) refl

  fed : (p : Placed) (ps : List Placed) (made : MakeAnswer) → feed (at_first p ps) (Make p.1 made) ≡ makes_one k.left_to_make k.untaken made settings (pattern_in d p) (all_left ps) (at_first p ps)
  fed p ps made = k.makes settings (pattern_in d p) (all_left ps) p.1 made (at_first p ps)

  -- a pattern that was built leads to the next
  feed_built : (p : Placed) (ps : List Placed) → feed (at_first p ps) (Make p.1 WasBuilt) ≡ come ps
  feed_built p ps = fed p ps WasBuilt ∙ k.from_any settings (all_left ps) (first_point p ps) r

  -- one that was refused leads away
  feed_refused : (place : PatternPlace) (text : List ℕ) (kind : BuildKind) (ps : List Placed)
      → feed (at_first (place, text) ps) (Make text (answer kind)) ≡ not_taken (PatternRefused d.name place kind) k r
  feed_refused place text Syntax ps = fed (place, text) ps (answer Syntax) ∙ k.untaken_from_any (PatternRefused d.name place Syntax) (first_point (place, text) ps) r
  feed_refused place text TooBig ps = fed (place, text) ps (answer TooBig) ∙ k.untaken_from_any (PatternRefused d.name place TooBig) (first_point (place, text) ps) r

  passes : (ps : List Placed) (g : History) → Passes (come ps) g (built ps)
  passes [] g = tt
  passes (p ∷ ps) g =
      let event : Event = Make p.1 WasBuilt in
      let P : Run → Type 0 = λ s. Passes s g (built (p ∷ ps)) in
      let Q : Run → Type 0 = λ s. Passes s (grown g (event ∷ [])) (built ps) in
      subst P (sym (stands p ps)) (
        record { holds = tt; allowed = may_make p ps WasBuilt; honest = tt; bounded = tt },
        subst Q (sym (feed_built p ps)) (passes ps (grown g (event ∷ []))),
      )

  comes_to : (ps : List Placed) → run_after (come ps) (built ps) ≡ come []
  comes_to [] = refl
  comes_to (p ∷ ps) =
      ap (λ (s : Run). run_after s (built (p ∷ ps))) (stands p ps) ∙ ap (λ (s : Run). run_after s (built ps)) (feed_built p ps) ∙ comes_to ps

  last_make : (g : History) (place : PatternPlace) (text : List ℕ) (kind : BuildKind) (ps : List Placed) → Passes (come ((place, text) ∷ ps)) g (Make text (answer kind) ∷ [])
  last_make g place text Syntax ps =
      let P : Run → Type 0 = λ s. Passes s g (Make text (answer Syntax) ∷ []) in
      subst P (sym (stands (place, text) ps)) (record { holds = tt; allowed = may_make (place, text) ps (answer Syntax); honest = tt; bounded = tt }, tt)
  last_make g place text TooBig ps =
      let P : Run → Type 0 = λ s. Passes s g (Make text (answer TooBig) ∷ []) in
      subst P (sym (stands (place, text) ps)) (record { holds = tt; allowed = may_make (place, text) ps (answer TooBig); honest = tt; bounded = tt }, tt)

  -- all were built
  goes_through : (a b : Option History) (ps : List Placed) → Adds a b (λ g es. es ≡ built ps) → Goes a b (come ps) (come [])
  goes_through a None ps adds = record { events = tt }
  goes_through a (Some h) ps adds =
      let P : List Event → Type 0 = λ es. Passes (come ps) adds.0 es in
      record {
        events = (
          adds.0,
          adds.1,
          adds.2,
          adds.3,
          (subst P (sym adds.4) (passes ps adds.0), ap (λ (es : List Event). run_after (come ps) es) adds.4 ∙ comes_to ps),
        );
      }

module _ (k : Reader) (d : JailDef) (settings : Settings) (left : List Pattern) (r : Run) (still : IsStill r) where
  -- what stands behind the first of the jail's patterns
  abbrev behind : List Placed → List Pattern
  behind ps = map (pattern_in d) ps ++ left

  abbrev standing : List Placed → Run
  standing ps = with_left settings (behind ps) k r

  -- the first of these patterns, and those behind them
  divided : (ps before after : List Placed) → ps ≡ before ++ after → standing ps ≡ come k d settings (behind after) r still before
  divided ps before after is =
      ap standing is
      ∙ ap (λ (all : List Pattern). with_left settings (all ++ left) k r) (map-append (pattern_in d) before after)
      ∙ ap (λ (all : List Pattern). with_left settings all k r) (append_assoc (map (pattern_in d) before) (map (pattern_in d) after) left)

  -- memory ran out on the way
  halts_within : (a b : Option History) (ps : List Placed) → Adds a b (λ g es. (n : ℕ) × (es ≡ built (take n ps))) → Halts a b (standing ps) NoMemory
  halts_within a None ps adds = record { last = standing ps; goes = record { events = tt }; ends = tt }
  halts_within a (Some h) ps adds =
      let n = adds.4.0 in
      let P : Run → Type 0 = λ s. Halts a (Some h) s NoMemory in
      subst P (sym (divided ps (take n ps) (drop n ps) (sym (take-append-drop n ps)))) (record {
        last = come k d settings (behind (drop n ps)) r still [];
        goes = goes_through k d settings (behind (drop n ps)) r still a (Some h) (take n ps) (adds.0, adds.1, adds.2, adds.3, adds.4.1);
        ends = tt;
      })

  -- one was refused
  goes_away : (a b : Option History) (ps : List Placed) (place : PatternPlace) (kind : BuildKind) → Adds a b (λ g es. filter.Refuses ps place kind es)
      → Goes a b (standing ps) (not_taken (PatternRefused d.name place kind) k r)
  goes_away a None ps place kind adds = record { events = tt }
  goes_away a (Some h) ps place kind adds =
      let w : filter.Refuses ps place kind adds.1 = adds.4 in
      let event : Event = Make w.text (answer kind) in
      let rest : List Placed = (place, w.text) ∷ w.after in
      let first : Run = come k d settings (behind rest) r still w.before in
      let there : Run = not_taken (PatternRefused d.name place kind) k r in
      let reached : run_after first (built w.before) ≡ standing rest = comes_to k d settings (behind rest) r still w.before in
      let P : Run → Type 0 = λ s. Passes s (grown adds.0 (built w.before)) (event ∷ []) in
      let Q : List Event → Type 0 = λ es. Passes first adds.0 es in
      let S : Run → Type 0 = λ s. Goes a (Some h) s there in
      let along : Passes first adds.0 (built w.before ++ event ∷ []) =
      along_append feed MayCome Free first adds.0 (built w.before) (event ∷ []) (passes k d settings (behind rest) r still w.before adds.0)
      (subst P (sym reached) (last_make k d settings left r still (grown adds.0 (built w.before)) place w.text kind w.after)) in
      let ends : run_after first adds.1 ≡ there =
      ap (λ (es : List Event). run_after first es) w.calls
      ∙ after_append feed MayCome Free first (built w.before) (event ∷ [])
      ∙ ap (λ (s : Run). run_after s (event ∷ [])) reached
      ∙ ap (λ (s : Run). run_after s (event ∷ [])) (stands k d settings left r still (place, w.text) w.after)
      ∙ feed_refused k d settings left r still place w.text kind w.after in
      subst S (sym (divided ps w.before rest w.order)) (record { events = (adds.0, adds.1, adds.2, adds.3, (subst Q (sym w.calls) along, ends)) })

-- ---- the patterns of one jail

pub jail_built : (old new : Standing) (d : JailDef) (rules : Rules) → filter.Builds (rules_of d) (Ok rules) old new → Builds old new d
jail_built old new d rules builds = record {
  runs = λ plan settings left. record { runs = λ k r is still. goes_through k d settings left r still old.told new.told (patterns (rules_of d)) builds.told };
}

-- memory ran out on the way
pub jail_unbuilt : (old new : Standing) (d : JailDef) → filter.Builds (rules_of d) (Err MemoryError) old new → BuildsShort old new d
jail_unbuilt old new d builds = record {
  runs = λ plan settings left. record { runs = λ k r is still. halts_within k d settings left r still old.told new.told (patterns (rules_of d)) builds.told };
}

-- a pattern was refused
pub jail_refused : (old new : Standing) (d : JailDef) (jail : List ℕ) (place : PatternPlace) (kind : BuildKind)
    → filter.Builds (rules_of d) (Err (Refused place kind)) old new → jail ≡ d.name → BuildFails old new d (PatternRefused jail place kind)
jail_refused old new d jail place kind builds name =
    let P : List ℕ → Type 0 = λ n. BuildFails old new d (PatternRefused n place kind) in
    subst P (sym name) (record {
      runs = λ plan settings left. record { runs = λ k r is still. goes_away k d settings left r still old.told new.told (patterns (rules_of d)) place kind builds.told };
    })

-- memory ran out before anything happened
pub jail_none : (a : Standing) (d : JailDef) → BuildsShort a a d
jail_none a d = record { runs = λ plan settings left. reads_short_here a plan (with_left settings (patterns_of_jail d ++ left)) }

pub jail_why : (jail : List ℕ) (place : PatternPlace) (kind : BuildKind) → IsUntaken (PatternRefused jail place kind)
jail_why jail place kind = tt

-- ---- answers that refuse nothing

all_built : (ps : List Placed) → AllOf RefusesNothing (built ps)
all_built [] = tt
all_built (p ∷ ps) = (tt, all_built ps)

pub jail_given : (old new : Standing) (d : JailDef) (rules : Rules) → filter.Builds (rules_of d) (Ok rules) old new → IsUnrefused old new
jail_given old new d rules builds =
    adds_weaker (λ g es. es ≡ built (patterns (rules_of d))) (λ g es. AllOf RefusesNothing es) old.told new.told builds.told (λ g es is. subst (AllOf RefusesNothing) (sym is) (all_built (patterns (rules_of d))))

pub jail_unrefused : (old new : Standing) (d : JailDef) → filter.Builds (rules_of d) (Err MemoryError) old new → IsUnrefused old new
jail_unrefused old new d builds =
    adds_weaker (λ g es. (n : ℕ) × (es ≡ built (take n (patterns (rules_of d))))) (λ g es. AllOf RefusesNothing es) old.told new.told builds.told
    (λ g es is. subst (AllOf RefusesNothing) (sym is.1) (all_built (take is.0 (patterns (rules_of d)))))

-- ---- slots, and how long they are

-- building a pattern writes nothing
makes_still : (ps : List Placed) → AllOf ChangesNoSlot (built ps)
makes_still [] = tt
makes_still (p ∷ ps) = (tt, makes_still ps)

pub jail_still : (old new : Standing) (d : JailDef) (rules : Rules) → filter.Builds (rules_of d) (Ok rules) old new → LeavesSlots old new
jail_still old new d rules builds =
    adds_weaker (λ g es. es ≡ built (patterns (rules_of d))) (λ g es. AllOf ChangesNoSlot es) old.told new.told builds.told (λ g es is. subst (AllOf ChangesNoSlot) (sym is) (makes_still (patterns (rules_of d))))

pub jail_steady : (old new : Standing) (d : JailDef) (outcome : Result Rules PatternError) → filter.Builds (rules_of d) outcome old new → IsSteady old new
jail_steady old new d outcome builds = record {
  counts = builds.steady;
  history = goes_on (λ (g : History) (es : List Event). AreCalls (rules_of d) outcome es) old.told new.told builds.told;
}

-- ---- causes

contains_map : {A B : Type 0} (f : A → B) (xs : List A) (x : A) → Contains xs x → Contains (map f xs) (f x)
contains_map f [] x (k, less, is) = absurd (omega (arith, less))
contains_map f (y ∷ xs) x (zero, less, is) = (0, omega arith, ap f is)
contains_map f (y ∷ xs) x (suc k, less, is) =
    let rest = contains_map f xs x (k, omega (arith, less), is) in (suc rest.0, omega (arith, rest.1), rest.2)

contains_flat : {A B : Type 0} (f : A → List B) (xs : List A) (x : A) (y : B) → Contains xs x → Contains (f x) y → Contains (flat_map f xs) y
contains_flat f [] x y (k, less, is) within = absurd (omega (arith, less))
contains_flat {A} {B} f (z ∷ xs) x y (zero, less, is) within =
    let P : A → Type 0 = λ w. Contains (f w) y in
    Contains-append_left (f z) (flat_map f xs) y (subst P (sym is) within)
contains_flat f (z ∷ xs) x y (suc k, less, is) within =
    Contains-append_right (f z) (flat_map f xs) y (contains_flat f xs x y (k, omega (arith, less), is) within)

refusal_cause : (old mid : Standing) (d : JailDef) (place : PatternPlace) (kind : BuildKind) → filter.Builds (rules_of d) (Err (Refused place kind)) old mid
    → (settings : Settings) → IsOfTree settings → Contains settings.defs.jails d → HasCause old mid (PatternRefused d.name place kind)
refusal_cause old mid d place Syntax builds settings is stands = record {
  tree = is.tree;
  settings = settings;
  defined = is.defined;
  pattern = pattern_in d (place, builds.cause.0);
  stands = contains_flat patterns_of_jail settings.defs.jails d (pattern_in d (place, builds.cause.0)) stands
      (contains_map (pattern_in d) (patterns (rules_of d)) (place, builds.cause.0) builds.cause.1);
  jail_is = refl;
  place_is = refl;
  none = builds.cause.2;
}
refusal_cause old mid d place TooBig builds settings is stands = builds.cause.2

pub jail_caused : (old new : Standing) (d : JailDef) (jail : List ℕ) (place : PatternPlace) (kind : BuildKind)
    → filter.Builds (rules_of d) (Err (Refused place kind)) old new → jail ≡ d.name → IsCaused old new d (PatternRefused jail place kind)
jail_caused old new d jail place kind builds name =
    let P : List ℕ → Type 0 = λ n. IsCaused old new d (PatternRefused n place kind) in
    subst P (sym name) (record { cause = λ settings is stands. refusal_cause old new d place kind builds settings is stands })

pub ruleset building = (jail_built, jail_still, jail_unbuilt, jail_refused, jail_none, jail_caused, jail_steady, unrefused_none)
