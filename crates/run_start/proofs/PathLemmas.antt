-- Paths that are settled, and those that a path with a wildcard stands for.
use Rattle.std.proofs.Common.{ℕ, suc, ◌≡◌, ◌+◌, ◌<◌, ◌≤◌, ◌++◌, true, false, List, [], ◌∷◌, length, take, drop, get_or, map, flat_map, refl, sym, ap, subst, ◌∙◌, arith, add-one, drop-cons}
use Rattle.std.proofs.lemmas.List.{drop_all}
use Rattle.f2b_base.specs.declared.jail.JailDef.{JailDef}
use Rattle.f2b_base.specs.declared.jail.WatchDef.{WatchDef}
use Rattle.f2b_model.proofs.ListLemmas.{by_test}
use Rattle.log_follow.specs.Globs.{IsExpansion, has_wildcard}
use Rattle.run_law.specs.Paths.{Naming, Path, expanded_path, paths_of_jail, settled}
use Rattle.run_start.specs.Walks.{IsWild, path_at}
use Rattle.run_steps.proofs.ToldLemmas.{flat_take_more}
use Rattle.run_start.proofs.OrderLemmas.{expansion_is}

-- the paths from a place on begin with the one there
pub front_is : (ps : List Path) (i : ℕ) (p : Path) → i < length ps → p ≡ get_or ps i p → drop i ps ≡ p ∷ drop (i + 1) ps
front_is ps i p below is = rw add-one (drop-cons ps i p below ∙ ap (λ (q : Path). q ∷ drop (suc i) ps) (sym is))

-- a path without a wildcard stands for itself
pub settle_more : (whole : Naming) (found next : List Path) (ps : List Path) (i : ℕ) (p q : Path) → i < length ps → p ≡ get_or ps i p → has_wildcard p.watch.path ≡ false
    → whole ≡ settled found (drop i ps) → q ≡ p → next ≡ found ++ q ∷ [] → whole ≡ settled next (drop (i + 1) ps)
settle_more whole found next ps i p q below is plain before same more =
    before ∙ ap (settled found) (front_is ps i p below is) ∙ rw plain (ap (λ (r : Path). settled (found ++ r ∷ []) (drop (i + 1) ps)) (sym same) ∙ ap (λ (f : List Path). settled f (drop (i + 1) ps)) (sym more))

-- one with a wildcard is the first that is left
pub settle_stop : (whole : Naming) (found left : List Path) (ps : List Path) (i : ℕ) (p : Path) → i < length ps → p ≡ get_or ps i p → has_wildcard p.watch.path ≡ true
    → whole ≡ settled found (drop i ps) → left ≡ drop i ps → whole ≡ record { found = found; left = left }
settle_stop whole found left ps i p below is wild before rest =
    let front = front_is ps i p below is in
    let stops : settled found (p ∷ drop (i + 1) ps) ≡ record { found = found; left = p ∷ drop (i + 1) ps } = rw wild refl in
    before ∙ ap (settled found) front ∙ stops ∙ (λ j. record { found = found; left = (sym front ∙ sym rest) j })

pub wild_at : (left : List Path) (ps : List Path) (i : ℕ) (p : Path) → i < length ps → p ≡ get_or ps i p → has_wildcard p.watch.path ≡ true → left ≡ drop i ps → IsWild left
wild_at left ps i p below is wild rest =
    subst IsWild (sym (front_is ps i p below is) ∙ sym rest) wild

-- none is left
pub settle_end : (whole : Naming) (found left : List Path) (ps : List Path) (i : ℕ) → length ps ≤ i → whole ≡ settled found (drop i ps) → left ≡ [] → whole ≡ record { found = found; left = left }
settle_end whole found left ps i over before none =
    before ∙ ap (settled found) (drop_all i ps over) ∙ (λ j. record { found = found; left = sym none j })

pub wild_none : (left : List Path) → left ≡ [] → IsWild left
wild_none left none = subst IsWild (sym none) tt

-- no more are left than there were
settled_fewer : (found ps : List Path) → length (settled found ps).left ≤ length ps
settled_fewer found [] = omega arith
settled_fewer found (p ∷ ps) =
    by_test (has_wildcard p.watch.path) _
    (λ wild. rw wild (omega arith))
    (λ plain. rw plain (let more = settled_fewer (found ++ p ∷ []) ps in omega (arith, more)))

-- fewer are left behind a path
pub walk_shorter : (found ps next left whole : List Path) (p : Path) → settled found ps ≡ record { found = next; left = left } → whole ≡ p ∷ ps → length left < length whole
walk_shorter found ps next left whole p is all =
    let few = settled_fewer found ps in
    let same : length (settled found ps).left ≡ length left = ap (λ (n : Naming). length n.left) is in
    let one : length whole ≡ length (p ∷ ps) = ap length all in
    omega (arith, few, same, one)

pub ruleset settling = (settle_more, settle_stop, wild_at, settle_end, wild_none)

-- the paths of one jail more
pub paths_more : (ds : List JailDef) (i : ℕ) (d : JailDef) (paths next : List Path) (ws : List WatchDef) → i < length ds → d ≡ get_or ds i d → paths ≡ flat_map paths_of_jail (take i ds) → ws ≡ d.watches
    → next ≡ paths ++ map (path_at d.name) ws → next ≡ flat_map paths_of_jail (take (i + 1) ds)
paths_more ds i d paths next ws below is before same more =
    more ∙ ap (λ (ps : List Path). ps ++ map (path_at d.name) ws) before ∙ ap (λ (vs : List WatchDef). flat_map paths_of_jail (take i ds) ++ map (path_at d.name) vs) same
    ∙ sym (flat_take_more paths_of_jail ds i d below is)

-- the paths of the names that a path stands for
pub expanded_more : (p : Path) (w : WatchDef) (jail : List ℕ) (names : List (List ℕ)) (watches slice : List WatchDef) (found next : List Path) → w ≡ p.watch → jail ≡ p.jail → slice ≡ watches
    → has_wildcard p.watch.path ≡ true → (has_wildcard w.path ≡ true → IsExpansion w names watches) → next ≡ found ++ map (path_at jail) slice → next ≡ found ++ expanded_path p names
expanded_more p w jail names watches slice found next same own all wild is more =
    let P : WatchDef → Type 0 = λ v. IsExpansion v names watches in
    let there : has_wildcard w.path ≡ true = ap (λ (v : WatchDef). has_wildcard v.path) same ∙ wild in
    more ∙ ap (λ (j : List ℕ). found ++ map (path_at j) slice) own
    ∙ ap (λ (ws : List WatchDef). found ++ map (path_at p.jail) ws) (all ∙ expansion_is p.watch names watches (subst P same (is there)))

pub ruleset expanding = (expanded_more)
