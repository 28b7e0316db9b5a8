-- The configuration with the paths that were found can be stored as the configuration can.
use Rattle.std.proofs.Common.{ℕ, ◌≡◌, ◌+◌, ◌<◌, ◌≤◌, ◌++◌, ◌||◌, not, Bool, true, false, cond, List, [], ◌∷◌, length, take, drop, get_or, map, sum, refl, sym, ap, subst, ◌∙◌, append-nil, arith}
use Rattle.std.specs.Prelude.{bytes_eq}
use Rattle.std.specs.List.{list_any}
use Rattle.std.specs.Str.{IsUtf8}
use Rattle.std.proofs.lemmas.List.{length-map, take_more}
use Rattle.f2b_base.specs.declared.jail.Defs.{Defs}
use Rattle.f2b_base.specs.declared.jail.JailDef.{JailDef}
use Rattle.f2b_base.specs.declared.jail.WatchDef.{WatchDef}
use Rattle.f2b_model.specs.Lists.{AllOf, AreDistinct}
use Rattle.f2b_model.specs.Storable.{AreStorableDefs, IsStorableDef, patterns_of}
use Rattle.f2b_model.proofs.ListLemmas.{by_test}
use Rattle.run_law.specs.Paths.{Path, once_each, with_paths}
use Rattle.run_start.specs.Few.{AreFew, watches_at}
use Rattle.run_start.specs.Found.{AreTexts, found_next, is_among, with_watches}
use Rattle.run_start.proofs.FewLemmas.{watches_append}
use Rattle.run_start.proofs.PathLemmas.{front_is}

-- ---- one path more

-- what a path adds that is not there yet
abbrev new_one : List WatchDef → WatchDef → List WatchDef
new_one ws w = cond (is_among w.path ws) [] (w ∷ [])

or_moved : (a b c : Bool) → ((a || b) || c) ≡ (b || (a || c))
or_moved true true c = refl
or_moved true false c = refl
or_moved false true c = refl
or_moved false false c = refl

or_right : (a b : Bool) → b ≡ true → (a || b) ≡ true
or_right true b h = refl
or_right false b h = h

-- a path behind others is left out where it is among those that were seen or among the others
once_push : (seen ws : List WatchDef) (w : WatchDef) → once_each seen (ws ++ w ∷ []) ≡ once_each seen ws ++ cond (is_among w.path seen || is_among w.path (once_each seen ws)) [] (w ∷ [])
once_push seen [] w =
    by_test (is_among w.path seen) _
    (λ is. rw is refl)
    (λ no. rw no refl)
once_push seen (v ∷ vs) w =
    by_test (is_among v.path seen) _
    (λ is. rw is (once_push seen vs w))
    (λ no. rw no
    (ap (λ (r : List WatchDef). v ∷ r) (once_push (v ∷ seen) vs w)
    ∙ ap (λ (b : Bool). v ∷ (once_each (v ∷ seen) vs ++ cond b [] (w ∷ []))) (or_moved (bytes_eq v.path w.path) (is_among w.path seen) (is_among w.path (once_each (v ∷ seen) vs)))))

once_more : (ws : List WatchDef) (w : WatchDef) → once_each [] (ws ++ w ∷ []) ≡ once_each [] ws ++ new_one (once_each [] ws) w
once_more ws w = once_push [] ws w

added : (w : WatchDef) (vs : List WatchDef) → (vs ++ cond (not (is_among w.path vs)) (w ∷ []) []) ≡ vs ++ new_one vs w
added w vs = by_test (is_among w.path vs) _ (λ is. rw is refl) (λ no. rw no refl)

-- one path of any jail more
pub found_more : (jail : List ℕ) (found : List Path) (i : ℕ) (p : Path) (ws next : List WatchDef) → i < length found → p ≡ get_or found i p → ws ≡ once_each [] (watches_at jail (take i found))
    → next ≡ ws ++ found_next jail ws p → next ≡ once_each [] (watches_at jail (take (i + 1) found))
found_more jail found i p ws next below is before more =
    let front = take i found in
    let whole : take (i + 1) found ≡ front ++ p ∷ [] = take_more found i p below ∙ ap (λ (q : Path). front ++ q ∷ []) (sym is) in
    let of_front = watches_at jail front in
    let cut : watches_at jail (front ++ p ∷ []) ≡ of_front ++ watches_at jail (p ∷ []) = watches_append jail front (p ∷ []) in
    let all : next ≡ once_each [] of_front ++ found_next jail (once_each [] of_front) p = more ∙ ap (λ (vs : List WatchDef). vs ++ found_next jail vs p) before in
    let goal : once_each [] of_front ++ found_next jail (once_each [] of_front) p ≡ once_each [] (of_front ++ watches_at jail (p ∷ [])) =
    by_test (bytes_eq p.jail jail) _
    (λ own. rw own (added p.watch (once_each [] of_front) ∙ sym (once_more of_front p.watch)))
    (λ other. rw other (append-nil (once_each [] of_front) ∙ ap (once_each []) (sym (append-nil of_front)))) in
    all ∙ goal ∙ ap (once_each []) (sym cut) ∙ ap (λ (ps : List Path). once_each [] (watches_at jail ps)) (sym whole)

-- ---- each path once

-- a path that was seen is not among those that follow
apart : (path : List ℕ) (seen ws : List WatchDef) → ((u : WatchDef) → bytes_eq path u.path ≡ true → is_among u.path seen ≡ true) → list_any (bytes_eq path) (map (λ (w : WatchDef). w.path) (once_each seen ws)) ≡ false
apart path seen [] seen_is = refl
apart path seen (w ∷ ws) seen_is =
    by_test (is_among w.path seen) _
    (λ is. rw is (apart path seen ws seen_is))
    (λ no. rw no
    (let other : bytes_eq path w.path ≡ false = by_test (bytes_eq path w.path) _ (λ same. absurd (let h : true ≡ false = sym (seen_is w same) ∙ no in cc)) (λ d. d) in
    rw other (apart path (w ∷ seen) ws (λ u same. (let h = seen_is u same in or_right (bytes_eq w.path u.path) (is_among u.path seen) h)))))

once_distinct : (seen ws : List WatchDef) → AreDistinct bytes_eq (map (λ (w : WatchDef). w.path) (once_each seen ws))
once_distinct seen [] = tt
once_distinct seen (w ∷ ws) =
    by_test (is_among w.path seen) _
    (λ is. rw is (once_distinct seen ws))
    (λ no. rw no (apart w.path (w ∷ seen) ws (λ u same. rw same refl), once_distinct (w ∷ seen) ws))

-- what all of them meet is met by those that are left
once_all : (P : WatchDef → Type 0) (seen ws : List WatchDef) → AllOf P ws → AllOf P (once_each seen ws)
once_all P seen [] all = tt
once_all P seen (w ∷ ws) all =
    by_test (is_among w.path seen) _
    (λ is. rw is (once_all P seen ws all.1))
    (λ no. rw no (all.0, once_all P (w ∷ seen) ws all.1))

-- no more are left than there were
once_fewer : (seen ws : List WatchDef) → length (once_each seen ws) ≤ length ws
once_fewer seen [] = omega arith
once_fewer seen (w ∷ ws) =
    by_test (is_among w.path seen) _
    (λ is. rw is (let more = once_fewer seen ws in omega (arith, more)))
    (λ no. rw no (let more = once_fewer (w ∷ seen) ws in omega (arith, more)))

-- ---- texts

-- one path more is a text
pub texts_on : (ps : List Path) (i : ℕ) (p : Path) (w : WatchDef) → i < length ps → p ≡ get_or ps i p → w ≡ p.watch → IsUtf8 w.path → (AreTexts (drop i ps) → AreTexts ps)
    → AreTexts (drop (i + 1) ps) → AreTexts ps
texts_on ps i p w below is same text before rest =
    let P : WatchDef → Type 0 = λ v. IsUtf8 v.path in
    before (subst AreTexts (sym (front_is ps i p below is)) (subst P same text, rest))

pub ruleset seeing = (texts_on)

-- ---- what can be stored

-- the paths of a jail are texts
texts_at : (jail : List ℕ) (ps : List Path) → AreTexts ps → AllOf (λ (w : WatchDef). IsUtf8 w.path) (watches_at jail ps)
texts_at jail [] texts = tt
texts_at jail (p ∷ ps) texts =
    by_test (bytes_eq p.jail jail) _
    (λ own. rw own (texts.0, texts_at jail ps texts.1))
    (λ other. rw other (texts_at jail ps texts.1))

module _ (found : List Path) (texts : AreTexts found) (few : AreFew found []) where
  stored_with : (d : JailDef) → IsStorableDef d → IsStorableDef (with_watches found d)
  stored_with d s =
      let own = watches_at d.name found in
      record {
        name = s.name;
        watches = once_all (λ (w : WatchDef). IsUtf8 w.path) [] own (texts_at d.name found texts);
        logs = (let most = few.each d.name in
            let fewer = once_fewer [] own in
            omega (arith, most, fewer));
        paths = once_distinct [] own;
        zone = s.zone;
        date = s.date;
        pref = s.pref;
        fail = s.fail;
        fails = s.fails;
        ignore_lines = s.ignore_lines;
        ignores = s.ignores;
        ignore = s.ignore;
        findtime = s.findtime;
        maxretry = s.maxretry;
        maxmatches = s.maxmatches;
        rule = s.rule;
        actions = s.actions;
        kinds = s.kinds;
        most = s.most;
      }

  all_stored : (ds : List JailDef) → AllOf IsStorableDef ds → AllOf IsStorableDef (map (with_watches found) ds)
  all_stored [] all = tt
  all_stored (d ∷ ds) all = (stored_with d all.0, all_stored ds all.1)

  names_with : (ds : List JailDef) → map (λ (d : JailDef). d.name) (map (with_watches found) ds) ≡ map (λ (d : JailDef). d.name) ds
  names_with [] = refl
  names_with (d ∷ ds) = ap (λ (ns : List (List ℕ)). d.name ∷ ns) (names_with ds)

  patterns_with : (ds : List JailDef) → map patterns_of (map (with_watches found) ds) ≡ map patterns_of ds
  patterns_with [] = refl
  patterns_with (d ∷ ds) = ap (λ (ns : List ℕ). patterns_of d ∷ ns) (patterns_with ds)

  defs_stored : (defs : Defs) → AreStorableDefs defs → AreStorableDefs (with_paths defs found)
  defs_stored defs s =
      let P : List (List ℕ) → Type 0 = λ ns. AreDistinct bytes_eq ns in
      record {
        purge = s.purge;
        jails = all_stored defs.jails s.jails;
        names = subst P (sym (names_with defs.jails)) s.names;
        most = (let same : length (with_paths defs found).jails ≡ length defs.jails = length-map defs.jails (with_watches found) in
            let few_jails = s.most in
            omega (arith, same, few_jails));
        patterns = subst (λ (ns : List ℕ). sum ns ≤ 512) (sym (patterns_with defs.jails)) s.patterns;
      }

-- the same of its parts
pub stores : (defs : Defs) (jails slice : List JailDef) (found : List Path) → AreStorableDefs defs → AreTexts found → AreFew found [] → slice ≡ defs.jails
    → jails ≡ map (with_watches found) slice → AreStorableDefs (record { purge = defs.purge; jails = jails })
stores defs jails slice found s texts few same is =
    let P : List JailDef → Type 0 = λ ds. let with : Defs = record { purge = defs.purge; jails = ds } in AreStorableDefs with in
    subst P (sym (is ∙ ap (map (with_watches found)) same)) (defs_stored found texts few defs s)
