-- The logs of a jail that is accepted: how many there are, and that no two have one path.
use Rattle.std.proofs.Common.{◌≡◌, ℕ, ◌≤◌, Bool, true, false, cond, nat_lt, List, [], ◌∷◌, ◌++◌, map, length, fold, Ok, codes, refl, sym, subst, arith}
use Rattle.std.specs.List.{list_any}
use Rattle.std.specs.Str.{bytes_eq}
use Rattle.std.proofs.lemmas.Bool.Decides.{nat_tests}
use Rattle.std.proofs.lemmas.List.{map-append}
use Rattle.f2b_base.specs.declared.jail.WatchDef.{WatchDef}
use Rattle.f2b_model.specs.Lists.{AllOf, AreDistinct}
use Rattle.jail_conf.specs.declared.conf_error.ConfKind.TheVariants.{TooMany}
use Rattle.jail_conf.specs.declared.source.Source.{Source}
use Rattle.jail_conf.specs.Logs.{watch_of, has_path, with_watch, distinct, most_watches, watches}
use Rattle.jail_conf.specs.Sources.{own}
use Rattle.jail_conf.specs.Table.{logpath}
use Rattle.jail_conf.specs.Then.{refuse_if, each}
use Rattle.jail_conf.specs.Words.{full_lines}
use Rattle.jail_conf.proofs.DistinctLemmas.{distinct_append, neither, none_of_both}
use Rattle.jail_conf.proofs.GoodLemmas.{OfOk, bind_ok, then_ok, own_good, was_not_refused}

abbrev pub paths_of : List WatchDef → List (List ℕ)
paths_of all = map (λ (watch : WatchDef). watch.path) all

abbrev pub AreApartPaths : List WatchDef → Type 0
AreApartPaths all = AreDistinct bytes_eq (paths_of all)

none_has : (all : List WatchDef) (path : List ℕ) → has_path all path ≡ false →
    AllOf (λ other. list_any (bytes_eq other) (path ∷ []) ≡ false) (paths_of all)
none_has [] path none = tt
none_has (watch ∷ all) path none =
    let parts = neither (bytes_eq watch.path path) (has_path all path) none in
    (none_of_both (bytes_eq watch.path path) false parts.0 refl, none_has all path parts.1)

with_watch_apart : (all : List WatchDef) (watch : WatchDef) → AreApartPaths all → AreApartPaths (with_watch all watch)
with_watch_apart all watch apart = by (has_path all watch.path) refl
  where
    by : (b : Bool) → has_path all watch.path ≡ b → AreApartPaths (cond b all (all ++ watch ∷ []))
    by true has = apart
    by false none =
        subst (AreDistinct bytes_eq) (sym (map-append (λ (watch : WatchDef). watch.path) all (watch ∷ [])))
        (distinct_append bytes_eq (paths_of all) (watch.path ∷ []) apart (refl, tt) (none_has all watch.path none))

fold_apart : (all found : List WatchDef) → AreApartPaths found → AreApartPaths (fold with_watch found all)
fold_apart [] found apart = apart
fold_apart (watch ∷ all) found apart = fold_apart all (with_watch found watch) (with_watch_apart found watch apart)

pub record AreGoodWatches (all : List WatchDef) : Type 0 where
  pub few : length all ≤ 64
  pub apart : AreApartPaths all

read_watches : (text : List ℕ) (all : List WatchDef) → watches text ≡ Ok all → AreGoodWatches all
read_watches text all is =
    let listed = bind_ok (each watch_of (full_lines text)) _ all is in
    let few : nat_lt most_watches (length (distinct listed.0)) ≡ false =
    was_not_refused (nat_lt most_watches (length (distinct listed.0))) TooMany _ all listed.2 in
    let found = then_ok (refuse_if (nat_lt most_watches (length (distinct listed.0))) TooMany) _ all listed.2 in
    subst (OfOk AreGoodWatches) found (record { few = grind (arith, nat_tests, few); apart = fold_apart listed.0 [] tt })

-- the logs of a jail
pub watches_are : (jail : Source) (all : List WatchDef) → own jail logpath ≡ Ok all → AreGoodWatches all
watches_are jail all is = own_good AreGoodWatches watches read_watches jail (codes "logpath") [] all (record { few = omega arith; apart = tt }) is
