-- What places that are empty or not say of the numbers that are in use.
use Rattle.std.proofs.Common.{ℕ, ◌≡◌, ◌+◌, ◌<◌, ◌≤◌, Bool, true, false, not, List, [], ◌∷◌, ◌++◌, map, length, get_or, set, replicate, refl, sym, ap, ◌∙◌, Option, Some, None}
use Rattle.std.proofs.lemmas.List.{length-map, length-replicate, map-append, map-set, replicate_more, set_past}
use Rattle.std.proofs.lemmas.List.Quantifiers.{position-Some}
use Rattle.std.proofs.lemmas.Option.{slice_get-get_or, slice_get-map, slice_get_past}
use Rattle.std.specs.List.{position, prefix_len, slice_get}
use Rattle.std.specs.Prelude.{is_some, is_none, option_map}
use Rattle.gate_socket.specs.Uses.{IsUnused, begun, ended, first_unused}

prefix_len-map : {A : Type 0} (places : List (Option A)) → prefix_len (λ used. not (not used)) (map is_some places) ≡ prefix_len (λ place. not (is_none place)) places
prefix_len-map [] = refl
prefix_len-map (None ∷ places) = refl
prefix_len-map (Some x ∷ places) = ap (λ n. 1 + n) (prefix_len-map places)

-- the first place that is empty has the lowest number that is not in use
pub first_empty_is : {A : Type 0} (places : List (Option A)) → position is_none places ≡ first_unused (map is_some places)
first_empty_is places = simp (prefix_len-map, length-map)

is_false : (b : Bool) → not b ≡ true → b ≡ false
is_false true e = sym e
is_false false e = refl

-- a number that is the lowest not in use is not in use
pub first_is_unused : (uses : List Bool) (conn : ℕ) → first_unused uses ≡ Some conn → IsUnused uses conn
first_is_unused uses conn is =
    let at = position-Some not uses conn true is in
    slice_get-get_or uses conn true at.0 ∙ ap Some (is_false _ at.1)

-- a number is in use exactly where its place is not empty
pub use_at : {A : Type 0} (places : List (Option A)) (conn : ℕ) (place : Option A) → conn < length places → Some (is_some (get_or places conn place)) ≡ slice_get (map is_some places) conn
use_at places conn place within = sym (slice_get-map is_some places conn ∙ ap (option_map is_some) (slice_get-get_or places conn place within))

-- what is no number of a place is not in use
pub use_past : {A : Type 0} (places : List (Option A)) (conn : ℕ) → length places ≤ conn → slice_get (map is_some places) conn ≡ None
use_past places conn past = slice_get_past (map is_some places) conn (rw length-map past)

-- a place that is filled
pub begun_at : {A : Type 0} (places : List (Option A)) (conn : ℕ) (x : A) → map is_some (set places conn (Some x)) ≡ begun (map is_some places) conn
begun_at places conn x = map-set is_some places conn (Some x)

-- a place that is emptied
pub ended_at : {A : Type 0} (places : List (Option A)) (conn : ℕ) → map is_some (set places conn None) ≡ ended (map is_some places) conn
ended_at places conn = map-set is_some places conn None

-- where there is no place nothing ends
pub ended_past : {A : Type 0} (places : List (Option A)) (conn : ℕ) → length places ≤ conn → ended (map is_some places) conn ≡ map is_some places
ended_past places conn past = set_past (map is_some places) conn false (rw length-map past)

-- one more place that is empty
pub none_more : {A : Type 0} (places : List (Option A)) (n : ℕ) → map is_some places ≡ replicate n false → map is_some (places ++ None ∷ []) ≡ replicate (n + 1) false
none_more places n is = map-append is_some places (None ∷ []) ∙ (ap (λ uses. uses ++ false ∷ []) is ∙ replicate_more n false)

-- there are as many places as uses
pub places_of : {A : Type 0} (places : List (Option A)) (n : ℕ) → map is_some places ≡ replicate n false → length places ≡ n
places_of places n is = sym (length-map places is_some) ∙ (ap length is ∙ length-replicate n false)
