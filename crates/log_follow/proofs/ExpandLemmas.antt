-- Paths up to their last slash, and names in byte order.
use Rattle.std.proofs.Common.{ℕ, suc, ◌≡◌, ◌==◌, ◌+◌, ◌-◌, ◌<◌, ◌≤◌, Bool, true, false, List, [], ◌∷◌, ◌++◌, length, take, drop, map, filter, get_or, refl, sym, ap, subst, ◌∙◌, arith, append-nil}
use denote.Ref.{Bor}
use Rattle.std.specs.List.{All, list_any}
use Rattle.std.specs.List.Sorted.{IsPermutation, IsSorted}
use Rattle.std.specs.Ordering.{nat_cmp}
use Rattle.std.specs.Cmp.Lexicographic.{slice_cmp}
use Rattle.std.proofs.lemmas.Bool.{or_right}
use Rattle.std.proofs.lemmas.List.{length-drop, length-map, take-map, take_all, take_more, map_more, get_or-map}
use Rattle.std.proofs.lemmas.List.Elements.{filter-append}
use Rattle.std.proofs.lemmas.List.Folds.{list_any_none}
use Rattle.std.proofs.lemmas.List.Sorted.{IsPermutation-map}
use Rattle.memchr.specs.Find.{Nowhere, NoneAfter, Passes, is_byte}
use Rattle.f2b_base.specs.declared.jail.WatchDef.{WatchDef}
use Rattle.log_follow.specs.Globs.{behind_slash, to_slash, fits, watch_at, IsExpansion}
use Rattle.log_follow.specs.Texts.{texts}
use Rattle.log_follow.proofs.CutLemmas.{back_by, cut_by}

-- Slashes.

abbrev pub has_slash : List ℕ → Bool
has_slash path = list_any (λ b. b == 47) path

behind-none : (path : List ℕ) → All (λ b. (b == 47) ≡ false) path → behind_slash path ≡ path
behind-none [] none = refl
behind-none (byte ∷ path) none =
    let here : (byte == 47) ≡ false = none 0 0 (omega arith) in
    let more : has_slash path ≡ false = list_any_none (λ b. b == 47) path (λ k d below. none (suc k) d (omega arith)) in
    rw (more, here) refl

slash_in : (front back : List ℕ) → has_slash (front ++ 47 ∷ back) ≡ true
slash_in [] back = refl
slash_in (byte ∷ front) back = or_right (byte == 47) (has_slash (front ++ 47 ∷ back)) (slash_in front back)

behind-cut : (front back : List ℕ) → has_slash back ≡ false → behind_slash (front ++ 47 ∷ back) ≡ back
behind-cut [] back none = rw none refl
behind-cut (byte ∷ front) back none = rw (slash_in front back) (behind-cut front back none)

-- where a search found the last slash
pub behind_last : (path : List ℕ) (k : ℕ) → NoneAfter (Passes (is_byte 47) path) 0 (length path) k → Passes (is_byte 47) path k → behind_slash path ≡ drop (k + 1) path
behind_last path k after ends =
    ap behind_slash (cut_by 47 path k after.high ends)
    ∙ behind-cut (take k path) (drop (k + 1) path) (list_any_none (λ b. b == 47) (drop (k + 1) path) (back_by 47 path (k + 1) after.after))

pub to_last : (path : List ℕ) (k : ℕ) → NoneAfter (Passes (is_byte 47) path) 0 (length path) k → Passes (is_byte 47) path k → to_slash path ≡ take (k + 1) path
to_last path k after ends =
    let high : k < length path = after.high in
    let count : length path - length (behind_slash path) ≡ k + 1 = omega (arith, ap length (behind_last path k after ends), length-drop (k + 1) path) in
    ap (λ (n : ℕ). take n path) count

-- where it found none
pub behind_none : (path : List ℕ) → Nowhere (Passes (is_byte 47) path) 0 (length path) → behind_slash path ≡ path
behind_none path none = behind-none path (back_by 47 path 0 none)

pub to_none : (path : List ℕ) → Nowhere (Passes (is_byte 47) path) 0 (length path) → to_slash path ≡ []
to_none path none =
    let count : length path - length (behind_slash path) ≡ 0 = omega (arith, ap length (behind_none path none)) in
    ap (λ (n : ℕ). take n path) count

-- Names.

-- one name more that fits, and one that does not
pub filter_more : (p : List ℕ → Bool) (names : List (List ℕ)) (k : ℕ) (name : List ℕ) → k < length names → get_or names k name ≡ name → p name ≡ true
    → filter p (take (k + 1) names) ≡ filter p (take k names) ++ name ∷ []
filter_more p names k name below is passes =
    ap (filter p) (take_more names k name below ∙ ap (λ (n : List ℕ). take k names ++ n ∷ []) is)
    ∙ filter-append p (take k names) (name ∷ [])
    ∙ rw passes refl

pub filter_same : (p : List ℕ → Bool) (names : List (List ℕ)) (k : ℕ) (name : List ℕ) → k < length names → get_or names k name ≡ name → p name ≡ false
    → filter p (take (k + 1) names) ≡ filter p (take k names)
filter_same p names k name below is fails =
    ap (filter p) (take_more names k name below ∙ ap (λ (n : List ℕ). take k names ++ n ∷ []) is)
    ∙ filter-append p (take k names) (name ∷ [])
    ∙ rw fails (append-nil (filter p (take k names)))

-- texts that are lent in order are in order
pub sorted_texts : (lent : List (Bor (List ℕ))) → IsSorted (λ (x y : Bor (List ℕ)). slice_cmp nat_cmp x.now y.now) lent → IsSorted (slice_cmp nat_cmp) (texts lent)
sorted_texts [] sorted k d low high = absurd (omega (arith, high))
sorted_texts (first ∷ lent) sorted k d low high =
    let all : List (Bor (List ℕ)) = first ∷ lent in
    let below : k + 1 < length all = omega (arith, high, length-map all (λ (t : Bor (List ℕ)). t.now)) in
    let later : get_or (texts all) (k + 1) d ≡ (get_or all (k + 1) first).now = get_or-map (λ (t : Bor (List ℕ)). t.now) all (k + 1) first d below in
    let sooner : get_or (texts all) k d ≡ (get_or all k first).now = get_or-map (λ (t : Bor (List ℕ)). t.now) all k first d (omega arith) in
    rw (later, sooner) (sorted k first low below)

-- the watch of one name more
pub push_watch : (watch : WatchDef) (lent : List (Bor (List ℕ))) (k : ℕ) (d : Bor (List ℕ)) (watches next : List WatchDef) (directory path : List ℕ)
    → k < length lent → watches ≡ map (watch_at watch) (take k (texts lent)) → directory ≡ to_slash watch.path → path ≡ directory ++ (get_or lent k d).now
    → next ≡ watches ++ record { path = path; tail = watch.tail } ∷ [] → next ≡ map (watch_at watch) (take (k + 1) (texts lent))
push_watch watch lent k d watches next directory path below before front all more =
    let within : k < length (texts lent) = omega (arith, length-map lent (λ (t : Bor (List ℕ)). t.now)) in
    let name : get_or (texts lent) k [] ≡ (get_or lent k d).now = get_or-map (λ (t : Bor (List ℕ)). t.now) lent k d [] below in
    let made : path ≡ to_slash watch.path ++ get_or (texts lent) k [] = all ∙ ap (λ (f : List ℕ). f ++ (get_or lent k d).now) front ∙ ap (λ (n : List ℕ). to_slash watch.path ++ n) (sym name) in
    more
    ∙ ap (λ (ws : List WatchDef). ws ++ record { path = path; tail = watch.tail } ∷ []) before
    ∙ ap (λ (p : List ℕ). map (watch_at watch) (take k (texts lent)) ++ record { path = p; tail = watch.tail } ∷ []) made
    ∙ sym (map_more (watch_at watch) (texts lent) k [] within)

-- the watches of all names, in order
pub expansion : (watch : WatchDef) (names : List (List ℕ)) (found sorted first items : List (Bor (List ℕ))) (watches : List WatchDef) (k : ℕ) (pattern : List ℕ)
    → texts found ≡ filter (fits pattern) names → pattern ≡ behind_slash watch.path → IsPermutation found sorted
    → IsSorted (λ (x y : Bor (List ℕ)). slice_cmp nat_cmp x.now y.now) sorted → first ≡ take 64 sorted → items ≡ first
    → length items ≤ k → watches ≡ map (watch_at watch) (take k (texts items)) → IsExpansion watch names watches
expansion watch names found sorted first items watches k pattern found_is pattern_is moved in_order cut same all made = record {
  ordered = texts sorted;
  same =
      let P : List (List ℕ) → Type 0 = λ ns. IsPermutation ns (texts sorted) in
      subst P (found_is ∙ ap (λ (p : List ℕ). filter (fits p) names) pattern_is) (IsPermutation-map (λ (t : Bor (List ℕ)). t.now) found sorted moved);
  sorted = sorted_texts sorted in_order;
  first =
      made
      ∙ ap (map (watch_at watch)) (take_all k (texts items) (omega (arith, length-map items (λ (t : Bor (List ℕ)). t.now))))
      ∙ ap (λ (ts : List (Bor (List ℕ))). map (watch_at watch) (texts ts)) (same ∙ cut)
      ∙ ap (map (watch_at watch)) (sym (take-map (λ (t : Bor (List ℕ)). t.now) 64 sorted));
}
