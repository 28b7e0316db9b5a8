-- What is left of the jails that were there, while a configuration takes out those that it keeps.
use Rattle.std.proofs.Common.{◌≡◌, ℕ, zero, suc, ◌≤◌, true, false, cond, List, [], ◌∷◌, ◌++◌, Option, Some, length, map, remove, refl, ◌∙◌, ap, arith}
use Rattle.std.specs.Prelude.{bytes_eq}
use Rattle.std.specs.List.{list_any}
use Rattle.f2b_base.specs.declared.jail.JailDef.{JailDef}
use Rattle.f2b_model.specs.Bounds.{IsBounded}
use Rattle.f2b_model.specs.Lists.{AllOf, AreDistinct}
use Rattle.f2b_model.specs.Steps.{find_jail, moves_now}
use Rattle.f2b_model.specs.declared.jail_now.JailNow.{JailNow}
use Rattle.f2b_model.proofs.ListLemmas.{by_test}
use Rattle.f2b_model.proofs.SameLemmas.{bytes_eq-true}
use Rattle.jail_rooms.specs.Kept.{now_of}
use Rattle.jail_rooms.specs.Places.{jail_place}
use Rattle.jail_rooms.specs.declared.jail.Jail.{Jail}

-- nothing is taken out behind the last one
pub none_removed : {X : Type 0} (i : ℕ) (xs : List X) → length xs ≤ i → remove xs i ≡ xs
none_removed zero [] past = refl
none_removed (suc i) [] past = refl
none_removed zero (x ∷ xs) past = absurd (omega arith)
none_removed (suc i) (x ∷ xs) past = ap (λ r. x ∷ r) (none_removed i xs (omega arith))

-- what holds of all holds of those that are left
pub all_of_left : {X : Type 0} (P : X → Type 0) (i : ℕ) (xs : List X) → AllOf P xs → AllOf P (remove xs i)
all_of_left P zero [] all = tt
all_of_left P (suc i) [] all = tt
all_of_left P zero (x ∷ xs) all = all.1
all_of_left P (suc i) (x ∷ xs) all = (all.0, all_of_left P i xs all.1)

-- one that is taken out leaves those of other names
others_left : (name other : List ℕ) (js : List Jail) → bytes_eq name other ≡ false
    → find_jail moves_now other (map now_of (remove js (jail_place name js))) ≡ find_jail moves_now other (map now_of js)
others_left name other [] apart = refl
others_left name other (j ∷ js) apart =
    by_test (bytes_eq j.definition.name name) _
    (λ is.
    let not_other : bytes_eq j.definition.name other ≡ false = ap (λ (n : List ℕ). bytes_eq n other) (bytes_eq-true j.definition.name name is) ∙ apart in
    rw (is, not_other) refl)
    (λ elsewhere. rw elsewhere (ap (λ (r : Option JailNow). cond (bytes_eq j.definition.name other) (Some (now_of j)) r) (others_left name other js apart)))

-- of each definition to come the jail of its name is left, where it was there, no later one has its name, and it is bounded
abbrev pub AreToCome : List JailNow → List Jail → List JailDef → Type 0
AreToCome before left [] = Unit {0}
AreToCome before left (d ∷ ds) =
    (find_jail moves_now d.name (map now_of left) ≡ find_jail moves_now d.name before)
    × ((list_any (bytes_eq d.name) (map (λ (e : JailDef). e.name) ds) ≡ false)
    × (IsBounded d
    × AreToCome before left ds))

-- at first all definitions are to come
pub first_to_come : (js : List Jail) (ds : List JailDef) → AllOf IsBounded ds → AreDistinct bytes_eq (map (λ (d : JailDef). d.name) ds) → AreToCome (map now_of js) js ds
first_to_come js [] bounded distinct = tt
first_to_come js (d ∷ ds) bounded distinct = (refl, (distinct.0, (bounded.0, first_to_come js ds bounded.1 distinct.1)))

-- those of other names still are once the jail of a name is taken out
still_to_come : (name : List ℕ) (before : List JailNow) (left : List Jail) (ds : List JailDef)
    → list_any (bytes_eq name) (map (λ (d : JailDef). d.name) ds) ≡ false → AreToCome before left ds → AreToCome before (remove left (jail_place name left)) ds
still_to_come name before left [] apart come = tt
still_to_come name before left (d ∷ ds) apart come =
    by_test (bytes_eq name d.name) _
    (λ is. absurd (let h : true ≡ false = rw is at apart in cc))
    (λ other.
    let others : list_any (bytes_eq name) (map (λ (e : JailDef). e.name) ds) ≡ false = rw other at apart in
    (others_left name d.name left other ∙ come.0, (come.1.0, (come.1.1.0, still_to_come name before left ds others come.1.1.1))))

-- so of the definitions to come after one
pub next_to_come : (before : List JailNow) (left : List Jail) (d : JailDef) (ds : List JailDef) → AreToCome before left (d ∷ ds)
    → AreToCome before (remove left (jail_place d.name left)) ds
next_to_come before left d ds come = still_to_come d.name before left ds come.1.0 come.1.1.1

-- and what holds of all of a list holds where one more stands behind it
pub all_of_more : {X : Type 0} (P : X → Type 0) (xs : List X) (x : X) → AllOf P xs → P x → AllOf P (xs ++ x ∷ [])
all_of_more P [] x all is = (is, tt)
all_of_more P (y ∷ ys) x all is = (all.0, all_of_more P ys x all.1 is)
