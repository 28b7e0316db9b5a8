-- The logs of the jails that the code keeps.
use Rattle.std.proofs.Common.{ℕ, zero, suc, arith, ◌≡◌, ◌+◌, ◌<◌, ◌++◌, Bool, List, [], ◌∷◌, length, take, get_or, map, flat_map, refl, sym, ap, ap₂, ◌∙◌, subst, append-nil, append_assoc}
use Rattle.f2b_base.specs.declared.jail.JailDef.{JailDef}
use Rattle.f2b_base.specs.declared.view.JailView.{JailView}
use Rattle.f2b_base.specs.declared.view.View.{View}
use Rattle.f2b_base.specs.declared.view.WatchView.{WatchView}
use Rattle.f2b_model.specs.Lists.{AllOf}
use Rattle.f2b_model.specs.Nows.{jail_now}
use Rattle.f2b_model.specs.State.{Jail}
use Rattle.f2b_model.specs.Storable.{IsJailName, IsStorable, IsStorableJail}
use Rattle.f2b_model.specs.Views.{jail_view, spread}
use Rattle.f2b_model.specs.Whole.{Now}
use Rattle.f2b_model.specs.declared.jail_now.JailNow.{JailNow}
use Rattle.filter_regex.specs.Rules.{Rules, rules_of}
use Rattle.log_follow.specs.Watches.{IsPlace}
use Rattle.log_set.specs.Logs.{AddsLog, IsSetOf, LogJail, Logs, Watching, awake}
use Rattle.run_law.specs.Logs.{log_begun, log_jail, logs_begun, logs_of}
use Rattle.run_law.specs.Server.{jails, log_jails}
use Rattle.run_start.specs.Followed.{AddsLogs, AreAwake, AreNamed, ArePlaces, AreViewsOfPlaces, AreWatchesOfPlaces, FollowsAll, HasPlaces, logs_at, rules_in}
use Rattle.run_start.proofs.JailLemmas.{rules_of_jails}
use Rattle.run_steps.specs.declared.clocked.Clocked.{Clocked}
use Rattle.run_steps.proofs.ToldLemmas.{flat_take_more, map_take_more}

-- ---- one log more

at_place : {A : Type 0} (P : A → Type 0) (xs : List A) (i : ℕ) (d : A) → AllOf P xs → i < length xs → P (get_or xs i d)
at_place P [] i d all below = absurd (let h : ⊥ = omega (arith, below) in h)
at_place P (x ∷ xs) zero d all below = all.0
at_place P (x ∷ xs) (suc i) d all below = at_place P xs i d all.1 (omega (arith, below))

all_at : {A : Type 0} (P : A → Type 0) (xs : List A) (i : ℕ) (x : A) → AllOf P xs → i < length xs → x ≡ get_or xs i x → P x
all_at P xs i x all below is = subst P (sym is) (at_place P xs i x all below)

pub place_at : (ws : List WatchView) (i : ℕ) (w : WatchView) → AreWatchesOfPlaces ws → i < length ws → w ≡ get_or ws i w → IsPlace w.place
place_at ws i w all below is = all_at (λ (v : WatchView). IsPlace v.place) ws i w all below is

pub places_at : (vs : List JailView) (i : ℕ) (v : JailView) → AreViewsOfPlaces vs → i < length vs → v ≡ get_or vs i v → AreWatchesOfPlaces v.watches
places_at vs i v all below is = all_at (λ (u : JailView). AreWatchesOfPlaces u.watches) vs i v all below is

pub name_at : (vs : List JailView) (i : ℕ) (v : JailView) → AreNamed vs → i < length vs → v ≡ get_or vs i v → IsJailName v.name
name_at vs i v all below is = all_at (λ (u : JailView). IsJailName u.name) vs i v all below is

pub adds_none : (s : Logs) → AddsLogs s s []
adds_none s = record { adds = λ js ws is. (let P : List Watching → Type 0 = λ l. IsSetOf s js l in subst P (sym (append-nil ws)) is) }

adds_on : (a b c : Logs) (more most all : List Watching) → AddsLogs a b more → AddsLogs b c most → all ≡ more ++ most → AddsLogs a c all
adds_on a b c more most all p q is = record {
  adds = λ js ws set. (let P : List Watching → Type 0 = λ l. IsSetOf c js l in
      subst P (append_assoc ws more most ∙ ap (λ (l : List Watching). ws ++ l) (sym is)) (q.adds js (ws ++ more) (p.adds js ws set)));
}

pub adds_log : (a b c : Logs) (jail : List ℕ) (ws : List WatchView) (i : ℕ) (w : WatchView) → AddsLogs a b (map (log_begun jail) (take i ws)) → AddsLog b c jail w.path w.place → i < length ws → w ≡ get_or ws i w
    → AddsLogs a c (map (log_begun jail) (take (i + 1) ws))
adds_log a b c jail ws i w before one below is =
    adds_on a b c (map (log_begun jail) (take i ws)) (log_begun jail w ∷ []) _ before (record { adds = one }) (map_take_more (log_begun jail) ws i w below is)

pub adds_jail : (a b c : Logs) (vs : List JailView) (i : ℕ) (v : JailView) → AddsLogs a b (flat_map logs_at (take i vs)) → AddsLogs b c (logs_at v) → i < length vs → v ≡ get_or vs i v
    → AddsLogs a c (flat_map logs_at (take (i + 1) vs))
adds_jail a b c vs i v before more below is =
    adds_on a b c (flat_map logs_at (take i vs)) (logs_at v) _ before more (flat_take_more logs_at vs i v below is)

pub ruleset adding = (place_at, places_at, name_at, adds_none, adds_log, adds_jail)

-- ---- all logs

-- the definitions of the view have the same rules
pub rules_shown : (kept : Clocked) (view : View) (rules : List Rules) (ds : List JailDef) → rules ≡ rules_in kept → view ≡ spread kept.engine.core → ds ≡ view.defs.jails → rules ≡ map rules_of ds
rules_shown kept view rules ds is shown same =
    is ∙ rules_of_jails kept.engine.core.jails.jails ∙ ap (λ (v : View). map rules_of v.defs.jails) (sym shown) ∙ ap (map rules_of) (sym same)

places_of_views : (ns : List JailNow) → AllOf HasPlaces ns → AreViewsOfPlaces (map jail_view ns)
places_of_views [] all = tt
places_of_views (n ∷ ns) all = (all.0, places_of_views ns all.1)

pub places_shown : (kept : Clocked) (view : View) (vs : List JailView) → ArePlaces kept → view ≡ spread kept.engine.core → vs ≡ view.jails → AreViewsOfPlaces vs
places_shown kept view vs all shown same =
    subst AreViewsOfPlaces (ap (λ (v : View). v.jails) (sym shown) ∙ sym same) (places_of_views kept.engine.core.jails.jails all)

names_of_views : (ns : List JailNow) → AllOf IsStorableJail ns → AreNamed (map jail_view ns)
names_of_views [] all = tt
names_of_views (n ∷ ns) all = (all.0.definition.name, names_of_views ns all.1)

-- what can be stored of a jail has such a name
pub names_shown : (core : Now) (view : View) (vs : List JailView) → IsStorable core → view ≡ spread core → vs ≡ view.jails → AreNamed vs
names_shown core view vs storable shown same =
    subst AreNamed (ap (λ (v : View). v.jails) (sym shown) ∙ sym same) (names_of_views core.jails.jails storable.jails)

all_awake : (js : List Jail) → AreAwake js → map awake (map (λ (j : JailNow). j.definition) (map jail_now js)) ≡ map log_jail js
all_awake [] are = refl
all_awake (j ∷ js) are =
    ap₂ (λ (idle : Bool) (ls : List LogJail). let l : LogJail = record { definition = j.definition; idle = idle } in l ∷ ls) (sym are.0) (all_awake js are.1)

all_begun : (js : List Jail) → flat_map logs_at (map jail_view (map jail_now js)) ≡ logs_begun js
all_begun [] = refl
all_begun (j ∷ js) = ap (λ (ls : List Watching). map (log_begun j.definition.name) j.watches ++ ls) (all_begun js)

-- the set of the view follows the logs of the jails
pub follows_all : (kept : Clocked) (view : View) (first set : Logs) (ds : List JailDef) (vs : List JailView) → view ≡ spread kept.engine.core → ds ≡ view.defs.jails → vs ≡ view.jails
    → IsSetOf first (map awake ds) [] → AddsLogs first set (flat_map logs_at vs) → FollowsAll kept set
follows_all kept view first set ds vs shown defs_are views_are begins adds = record {
  sets = λ s keeps awake_are.
      let P : List LogJail → List Watching → Type 0 = λ js ws. IsSetOf set js ws in
      let core : kept.engine.core.jails.jails ≡ map jail_now (jails s) = ap (λ (n : Now). n.jails.jails) keeps.core in
      let js : map awake ds ≡ log_jails s =
      ap (map awake) (defs_are ∙ ap (λ (v : View). v.defs.jails) shown ∙ ap (map (λ (j : JailNow). j.definition)) core) ∙ all_awake (jails s) awake_are in
      let ws : flat_map logs_at vs ≡ logs_of [] (jails s) =
      ap (flat_map logs_at) (views_are ∙ ap (λ (v : View). v.jails) shown ∙ ap (map jail_view) core) ∙ all_begun (jails s) in
      let one : IsSetOf set (map awake ds) (flat_map logs_at vs) = adds.adds (map awake ds) [] begins in
      let two : IsSetOf set (log_jails s) (flat_map logs_at vs) = subst (λ (l : List LogJail). IsSetOf set l (flat_map logs_at vs)) js one in
      subst (λ (l : List Watching). IsSetOf set (log_jails s) l) ws two;
}

pub ruleset following = (rules_shown, places_shown, names_shown, follows_all)
