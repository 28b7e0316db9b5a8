-- The entries of a map, place by place, and a list from a place on.
use Rattle.std.proofs.Common.{◌≡◌, ℕ, zero, suc, ◌+◌, ◌<◌, List, [], ◌∷◌, ◌++◌, length, map, drop, slice_get, option_map, Option, None, Some, String, string_bytes, refl, sym, ap, ◌∙◌, arith, add-one}
use Rattle.std.proofs.lemmas.Option.{none-some}
use Rattle.ini_interp.specs.Entries.{by_bytes}
use Rattle.ini_interp.specs.Kept.{Kept, without_last}

pub length-by_bytes : {A V : Type 0} (es : List (String A × V)) → length (by_bytes es) ≡ length es
length-by_bytes [] = refl
length-by_bytes (e ∷ es) = ap suc (length-by_bytes es)

pub entry_at : {A V : Type 0} (es : List (String A × V)) (index : ℕ) →
    option_map (λ (e : String A × V). (string_bytes e.0, e.1)) (slice_get es index) ≡ slice_get (by_bytes es) index
entry_at [] index = refl
entry_at (e ∷ es) zero = refl
entry_at (e ∷ es) (suc index) = entry_at es index

pub map_at : {X Y : Type 0} (f : X → Y) (xs : List X) (index : ℕ) → option_map f (slice_get xs index) ≡ slice_get (map f xs) index
map_at f [] index = refl
map_at f (x ∷ xs) zero = refl
map_at f (x ∷ xs) (suc index) = map_at f xs index

-- something stands at each place of a list
pub stands : {X : Type 0} (xs : List X) (index : ℕ) → index < length xs → None ≡ slice_get xs index → ⊥
stands [] index within none = omega arith
stands (x ∷ xs) zero within none = none-some _ none
stands (x ∷ xs) (suc index) within none = stands xs index (omega arith) none

-- what stands at a place is the first of the list from there on
pub drop_at_place : {X : Type 0} (xs : List X) (index : ℕ) (x : X) → Some x ≡ slice_get xs index → drop index xs ≡ x ∷ drop (index + 1) xs
drop_at_place [] index x there = absurd (none-some _ (sym there))
drop_at_place (y ∷ xs) zero x there = cc
drop_at_place (y ∷ xs) (suc index) x there = drop_at_place xs index x there ∙ ap (λ (k : ℕ). x ∷ drop k (y ∷ xs)) (more index)
  where
    more : (n : ℕ) → suc (n + 1) ≡ suc n + 1
    more n = omega arith

pub length-seen : (sections : List (List ℕ × Kept)) → length (without_last sections) ≡ length sections
length-seen [] = refl
length-seen (s ∷ sections) = ap suc (length-seen sections)
