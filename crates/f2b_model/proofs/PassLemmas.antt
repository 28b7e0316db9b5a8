-- Laws of lists.
use Rattle.std.proofs.Common.{◌≡◌, Bool, true, false, ◌&&◌, ◌||◌, Option, Some, None, List, [], ◌∷◌, ◌++◌, map, filter, refl, sym, ap, ◌∙◌}
use Rattle.std.specs.Prelude.{option_and_then}
use Rattle.std.proofs.Common.{inl, inr}
use Rattle.std.proofs.lemmas.Bool.{cases_Bool, or_parts, or_from, and_from, and_parts, both_ways, false_from_ne_true}
use Rattle.std.proofs.lemmas.List.Folds.{list_any-append}
use Rattle.f2b_model.specs.LaneSound.{NonePasses, AtMostOne}
use Rattle.std.specs.List.{filter_map, list_any, cons_option}

pub filter_map_agree : {X Y : Type 0} (f g : X → Option Y) → ((x : X) → f x ≡ g x) → (xs : List X) → filter_map f xs ≡ filter_map g xs
filter_map_agree f g same [] = refl
filter_map_agree f g same (x ∷ xs) = rw (same x, filter_map_agree f g same xs) refl

filter_map_cons : {Y Z : Type 0} (f : Y → Option Z) (o : Option Y) (ys : List Y) → filter_map f (cons_option o ys) ≡ cons_option (option_and_then f o) (filter_map f ys)
filter_map_cons f None ys = refl
filter_map_cons f (Some y) ys = refl

pub filter_map-filter_map : {X Y Z : Type 0} (f : Y → Option Z) (g : X → Option Y) (xs : List X) → filter_map f (filter_map g xs) ≡ filter_map (λ x. option_and_then f (g x)) xs
filter_map-filter_map f g [] = refl
filter_map-filter_map f g (x ∷ xs) = filter_map_cons f (g x) (filter_map g xs) ∙ ap (cons_option (option_and_then f (g x))) (filter_map-filter_map f g xs)

cons_append : {Y : Type 0} (o : Option Y) (xs ys : List Y) → cons_option o xs ++ ys ≡ cons_option o (xs ++ ys)
cons_append None xs ys = refl
cons_append (Some y) xs ys = refl

pub filter_map_append : {X Y : Type 0} (f : X → Option Y) (xs ys : List X) → filter_map f (xs ++ ys) ≡ filter_map f xs ++ filter_map f ys
filter_map_append f [] ys = refl
filter_map_append f (x ∷ xs) ys = ap (cons_option (f x)) (filter_map_append f xs ys) ∙ sym (cons_append (f x) (filter_map f xs) (filter_map f ys))

-- a test over what a filter and a map leave
pub any_map_filter : {X Y : Type 0} (p : Y → Bool) (f : X → Y) (q : X → Bool) (xs : List X) → list_any p (map f (filter q xs)) ≡ list_any (λ x. q x && p (f x)) xs
any_map_filter p f q [] = refl
any_map_filter p f q (x ∷ xs) = elim (cases_Bool (q x)) [
  | inl h ↦ rw (h, any_map_filter p f q xs) refl
  | inr h ↦ rw (h, any_map_filter p f q xs) refl
]

pub any_filter : {X : Type 0} (p : X → Bool) (q : X → Bool) (xs : List X) → list_any p (filter q xs) ≡ list_any (λ x. q x && p x) xs
any_filter p q [] = refl
any_filter p q (x ∷ xs) = elim (cases_Bool (q x)) [
  | inl h ↦ rw (h, any_filter p q xs) refl
  | inr h ↦ rw (h, any_filter p q xs) refl
]

pub any_agree : {X : Type 0} (p q : X → Bool) → ((x : X) → p x ≡ q x) → (xs : List X) → list_any p xs ≡ list_any q xs
any_agree p q same [] = refl
any_agree p q same (x ∷ xs) = rw (same x, any_agree p q same xs) refl

and_over : (x y k : Bool) → ((x && k) || (y && k)) ≡ ((x || y) && k)
and_over false y k = refl
and_over true false false = refl
and_over true true false = refl
and_over true false true = refl
and_over true true true = refl

-- a test that is the same for each
pub any_and : {X : Type 0} (p : X → Bool) (k : Bool) (xs : List X) → list_any (λ x. p x && k) xs ≡ (list_any p xs && k)
any_and p k [] = refl
any_and p k (x ∷ xs) = rw (any_and p k xs) (and_over (p x) (list_any p xs) k)

pub none_implied : {X : Type 0} (p q : X → Bool) → ((x : X) → q x ≡ true → p x ≡ true) → (xs : List X) → NonePasses p xs → NonePasses q xs
none_implied p q implies [] none = refl
none_implied p q implies (x ∷ xs) none =
    let parts = or_parts (p x) (list_any p xs) none in
    let here : q x ≡ false = false_from_ne_true (q x) (λ h. both_ways (p x) parts.0 (implies x h)) in
    rw here (none_implied p q implies xs parts.1)

pub one_implied : {X : Type 0} (p q : X → Bool) → ((x : X) → q x ≡ true → p x ≡ true) → (xs : List X) → AtMostOne p xs → AtMostOne q xs
one_implied p q implies [] one = tt
one_implied p q implies (x ∷ xs) one = ((λ h. none_implied p q implies xs (one.0 (implies x h))), one_implied p q implies xs one.1)

pub one_map_filter : {X Y : Type 0} (p : Y → Bool) (f : X → Y) (q : X → Bool) (xs : List X) → AtMostOne (λ x. q x && p (f x)) xs → AtMostOne p (map f (filter q xs))
one_map_filter p f q [] one = tt
one_map_filter p f q (x ∷ xs) one = elim (cases_Bool (q x)) [
  | inl h ↦ rw h ((λ here. any_map_filter p f q xs ∙ one.0 (and_from (q x) (p (f x)) h here)), one_map_filter p f q xs one.1)
  | inr h ↦ rw h (one_map_filter p f q xs one.1)
]

pub one_filter : {X : Type 0} (p : X → Bool) (q : X → Bool) (xs : List X) → AtMostOne p xs → AtMostOne p (filter q xs)
one_filter p q [] one = tt
one_filter p q (x ∷ xs) one = elim (cases_Bool (q x)) [
  | inl h ↦ rw h ((λ here. any_filter p q xs ∙ none_implied p (λ x. q x && p x) (λ y both. (and_parts (q y) (p y) both).1) xs (one.0 here)), one_filter p q xs one.1)
  | inr h ↦ rw h (one_filter p q xs one.1)
]

pub one_push : {X : Type 0} (p : X → Bool) (xs : List X) (x : X) → (p x ≡ true → NonePasses p xs) → AtMostOne p xs → AtMostOne p (xs ++ x ∷ [])
one_push p [] x apart one = ((λ h. refl), tt)
one_push p (y ∷ ys) x apart one = (
  (λ h. list_any-append p ys (x ∷ []) ∙ or_from (list_any p ys) (p x || false) (one.0 h)
      (let no : p x ≡ false = false_from_ne_true (p x) (λ k. both_ways (p y) (or_parts (p y) (list_any p ys) (apart k)).0 h) in rw no refl)),
  one_push p ys x (λ k. (or_parts (p y) (list_any p ys) (apart k)).1) one.1,
)
