-- How many paths are found of a jail, along the walk.
use Rattle.std.proofs.Common.{ℕ, ◌≡◌, ◌+◌, ◌≤◌, ◌++◌, true, false, List, [], ◌∷◌, length, take, map, filter, flat_map, refl, sym, ap, ◌∙◌, subst, arith, length-append}
use Rattle.std.specs.Prelude.{bytes_eq}
use Rattle.std.specs.Cmp.Lexicographic.{bytes_decides}
use Rattle.std.specs.List.{list_any}
use Rattle.std.proofs.lemmas.List.{length-map, length-take, map-append}
use Rattle.f2b_base.specs.declared.jail.Defs.{Defs}
use Rattle.f2b_base.specs.declared.jail.JailDef.{JailDef}
use Rattle.f2b_base.specs.declared.jail.WatchDef.{WatchDef}
use Rattle.f2b_model.specs.Lists.{AllOf, AreDistinct, in_order}
use Rattle.f2b_model.specs.Storable.{AreStorableDefs}
use Rattle.f2b_model.proofs.ListLemmas.{by_test, filter-append}
use Rattle.jail_conf.specs.Laws.{AreWithinLimits}
use Rattle.log_follow.specs.Globs.{behind_slash, fits, has_wildcard, watch_at}
use Rattle.run_law.specs.Paths.{Naming, Path, expanded, expanded_path, paths_of_jail, settled, text_before}
use Rattle.run_start.specs.Few.{AreFew, watches_at}
use Rattle.run_start.specs.Walks.{path_at}

-- ---- the paths of one jail

pub watches_append : (jail : List ℕ) (ps qs : List Path) → watches_at jail (ps ++ qs) ≡ watches_at jail ps ++ watches_at jail qs
watches_append jail ps qs =
    let own = λ (p : Path). bytes_eq p.jail jail in
    ap (map (λ (p : Path). p.watch)) (filter-append own ps qs) ∙ map-append (λ (p : Path). p.watch) (filter own ps) (filter own qs)

count_append : (jail : List ℕ) (ps qs : List Path) → length (watches_at jail (ps ++ qs)) ≡ length (watches_at jail ps) + length (watches_at jail qs)
count_append jail ps qs = ap length (watches_append jail ps qs) ∙ length-append (watches_at jail ps) (watches_at jail qs)

-- paths of one name are all of the jail of that name
of_own : (jail name : List ℕ) (ws : List WatchDef) → bytes_eq name jail ≡ true → length (watches_at jail (map (path_at name) ws)) ≡ length ws
of_own jail name [] own = refl
of_own jail name (w ∷ ws) own = rw own (let more = of_own jail name ws own in omega (arith, more))

-- and none is of another
of_other : (jail name : List ℕ) (ws : List WatchDef) → bytes_eq name jail ≡ false → length (watches_at jail (map (path_at name) ws)) ≡ 0
of_other jail name [] other = refl
of_other jail name (w ∷ ws) other = rw other (of_other jail name ws other)

-- ---- as a walk begins

-- where no jail has a name, no path is of it
none_of : (jail : List ℕ) (ds : List JailDef) → list_any (bytes_eq jail) (map (λ (d : JailDef). d.name) ds) ≡ false → length (watches_at jail (flat_map paths_of_jail ds)) ≡ 0
none_of jail [] none = refl
none_of jail (d ∷ ds) none =
    by_test (bytes_eq jail d.name) _
    (λ own. absurd (let h : true ≡ false = rw own at none in cc))
    (λ not.
    let other : bytes_eq d.name jail ≡ false =
    by_test (bytes_eq d.name jail) _ (λ is. absurd (let h : true ≡ false = sym ((bytes_decides jail d.name).1 (sym ((bytes_decides d.name jail).0 is))) ∙ not in cc)) (λ no. no) in
    let rest : list_any (bytes_eq jail) (map (λ (e : JailDef). e.name) ds) ≡ false = rw not at none in
    let whole = count_append jail (paths_of_jail d) (flat_map paths_of_jail ds) in
    let here = of_other jail d.name d.watches other in
    let more = none_of jail ds rest in
    omega (arith, whole, here, more))

-- of jails of distinct names one has the name
most_of : (jail : List ℕ) (ds : List JailDef) → AreDistinct bytes_eq (map (λ (d : JailDef). d.name) ds) → AllOf (λ (d : JailDef). length d.watches ≤ 64) ds
    → length (watches_at jail (flat_map paths_of_jail ds)) ≤ 64
most_of jail [] distinct few = omega arith
most_of jail (d ∷ ds) distinct few =
    let whole = count_append jail (paths_of_jail d) (flat_map paths_of_jail ds) in
    let most : length d.watches ≤ 64 = few.0 in
    by_test (bytes_eq d.name jail) _
    (λ own.
    let P : List ℕ → Type 0 = λ name. list_any (bytes_eq name) (map (λ (e : JailDef). e.name) ds) ≡ false in
    let here = of_own jail d.name d.watches own in
    let more = none_of jail ds (subst P ((bytes_decides d.name jail).0 own) distinct.0) in
    omega (arith, whole, most, here, more))
    (λ other.
    let here = of_other jail d.name d.watches other in
    let more = most_of jail ds distinct.1 few.1 in
    omega (arith, whole, here, more))

pub few_paths : (defs : Defs) (paths : List Path) → AreStorableDefs defs → AreWithinLimits defs → paths ≡ flat_map paths_of_jail defs.jails → AreFew [] paths
few_paths defs paths storable limits is = record {
  each = λ jail.
      let most = most_of jail defs.jails storable.names limits.watches in
      let same : length (watches_at jail paths) ≡ length (watches_at jail (flat_map paths_of_jail defs.jails)) = ap (λ (ps : List Path). length (watches_at jail ps)) is in
      let none : length (watches_at jail []) ≡ 0 = refl in
      omega (arith, most, same, none);
}

-- ---- as it goes on

-- a path stands for itself
one_found : (found ps : List Path) (p : Path) → AreFew found (p ∷ ps) → AreFew (found ++ p ∷ []) ps
one_found found ps p few = record {
  each = λ jail. (let before = few.each jail in
      let one = count_append jail found (p ∷ []) in
      let left : length (watches_at jail (p ∷ ps)) ≡ length (watches_at jail (p ∷ [])) + length (watches_at jail ps) = count_append jail (p ∷ []) ps in
      omega (arith, before, one, left));
}

settled_few : (found ps : List Path) → AreFew found ps → AreFew (settled found ps).found (settled found ps).left
settled_few found [] few = few
settled_few found (p ∷ ps) few =
    by_test (has_wildcard p.watch.path) _
    (λ wild. rw wild few)
    (λ plain. rw plain (settled_few (found ++ p ∷ []) ps (one_found found ps p few)))

-- behind those that are settled
few_settled : (found ps next left : List Path) → AreFew found ps → settled found ps ≡ record { found = next; left = left } → AreFew next left
few_settled found ps next left few is =
    let P : Naming → Type 0 = λ n. AreFew n.found n.left in
    subst P is (settled_few found ps few)

-- the first were settled
pub few_first : (none ps next left : List Path) → none ≡ [] → AreFew [] ps → settled none ps ≡ record { found = next; left = left } → AreFew next left
few_first none ps next left is few rest =
    let P : List Path → Type 0 = λ f. AreFew f ps in
    few_settled none ps next left (subst P (sym is) few) rest

few_expanded : (w : WatchDef) (names : List (List ℕ)) → length (expanded w names) ≤ 64
unfolding expanded
few_expanded w names =
    let fitting = in_order text_before (filter (fits (behind_slash w.path)) names) in
    let all = length-map (take 64 fitting) (watch_at w) in
    let some = length-take 64 fitting in
    omega (arith, all, some)

-- a path with a wildcard stands for at most 64
expanded_found : (found ps : List Path) (p : Path) (names : List (List ℕ)) → AreFew found (p ∷ ps) → AreFew (found ++ expanded_path p names) ps
expanded_found found ps p names few = record {
  each = λ jail.
      let before = few.each jail in
      let more = count_append jail found (expanded_path p names) in
      let left : length (watches_at jail (p ∷ ps)) ≡ length (watches_at jail (p ∷ [])) + length (watches_at jail ps) = count_append jail (p ∷ []) ps in
      let most = few_expanded p.watch names in
      by_test (bytes_eq p.jail jail) _
      (λ own.
      let here = of_own jail p.jail (expanded p.watch names) own in
      let one : length (watches_at jail (p ∷ [])) ≡ 1 = rw own refl in
      omega (arith, before, more, left, most, here, one))
      (λ other.
      let here = of_other jail p.jail (expanded p.watch names) other in
      let one : length (watches_at jail (p ∷ [])) ≡ 0 = rw other refl in
      omega (arith, before, more, left, here, one));
}

-- the names of a path came, and the paths behind it were settled
pub few_named : (found whole ps listed next left : List Path) (p : Path) (names : List (List ℕ)) → AreFew found whole → whole ≡ p ∷ ps → listed ≡ found ++ expanded_path p names
    → settled listed ps ≡ record { found = next; left = left } → AreFew next left
few_named found whole ps listed next left p names few is more rest =
    let P : List Path → Type 0 = λ l. AreFew found l in
    let Q : List Path → Type 0 = λ f. AreFew f ps in
    few_settled listed ps next left (subst Q (sym more) (expanded_found found ps p names (subst P is few))) rest

-- all were found
pub few_whole : (found left slice : List Path) → AreFew found left → left ≡ [] → slice ≡ found → AreFew slice []
few_whole found left slice few none same =
    let P : List Path → Type 0 = λ l. AreFew found l in
    let Q : List Path → Type 0 = λ f. AreFew f [] in
    subst Q (sym same) (subst P none few)

pub ruleset counting_paths = (few_paths, few_first, few_named, few_whole)
