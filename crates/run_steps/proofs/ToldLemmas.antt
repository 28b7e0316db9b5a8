-- Going over a list, one element after another.
use Rattle.std.proofs.Common.{ℕ, ◌≡◌, ◌+◌, ◌<◌, ◌++◌, List, [], ◌∷◌, length, get_or, take, drop, map, flat_map, refl, sym, ap, ◌∙◌, append-nil, append_assoc}
use Rattle.std.proofs.lemmas.List.{take_more, take-append-drop, map-append}
use Rattle.std.proofs.lemmas.List.Concat.{flat_map-append}
use Rattle.run_law.specs.Said.{joined}

pub map_take_more : {A B : Type 0} (f : A → B) (xs : List A) (i : ℕ) (x : A) → i < length xs → x ≡ get_or xs i x → map f (take (i + 1) xs) ≡ map f (take i xs) ++ f x ∷ []
map_take_more f xs i x less is =
    ap (map f) (take_more xs i x less ∙ ap (λ y. take i xs ++ y ∷ []) (sym is)) ∙ map-append f (take i xs) (x ∷ [])

pub map_cut : {A B : Type 0} (f : A → B) (xs : List A) (i : ℕ) (x : A) → i < length xs → x ≡ get_or xs i x → map f xs ≡ (map f (take i xs) ++ f x ∷ []) ++ map f (drop (i + 1) xs)
map_cut f xs i x less is =
    ap (map f) (sym (take-append-drop (i + 1) xs)) ∙ map-append f (take (i + 1) xs) (drop (i + 1) xs)
    ∙ ap (λ ys. ys ++ map f (drop (i + 1) xs)) (map_take_more f xs i x less is)

pub take_one : {A : Type 0} (xs : List A) (i : ℕ) (x y : A) → i < length xs → x ≡ get_or xs i x → y ≡ x → take (i + 1) xs ≡ take i xs ++ y ∷ []
take_one xs i x y less is same = take_more xs i x less ∙ ap (λ z. take i xs ++ z ∷ []) (sym is ∙ sym same)

pub take_cut : {A : Type 0} (xs : List A) (i : ℕ) (x y : A) → i < length xs → x ≡ get_or xs i x → y ≡ x → xs ≡ (take i xs ++ y ∷ []) ++ drop (i + 1) xs
take_cut xs i x y less is same = sym (take-append-drop (i + 1) xs) ∙ ap (λ ys. ys ++ drop (i + 1) xs) (take_one xs i x y less is same)

pub flat_take_more : {A B : Type 0} (f : A → List B) (xs : List A) (i : ℕ) (x : A) → i < length xs → x ≡ get_or xs i x → flat_map f (take (i + 1) xs) ≡ flat_map f (take i xs) ++ f x
flat_take_more f xs i x less is =
    ap (flat_map f) (take_more xs i x less ∙ ap (λ y. take i xs ++ y ∷ []) (sym is)) ∙ flat_map-append f (take i xs) (x ∷ [])
    ∙ ap (λ ys. flat_map f (take i xs) ++ ys) (append-nil (f x))

pub flat_cut : {A B : Type 0} (f : A → List B) (xs : List A) (i : ℕ) (x : A) → i < length xs → x ≡ get_or xs i x → flat_map f xs ≡ (flat_map f (take i xs) ++ f x) ++ flat_map f (drop (i + 1) xs)
flat_cut f xs i x less is =
    ap (flat_map f) (sym (take-append-drop (i + 1) xs)) ∙ flat_map-append f (take (i + 1) xs) (drop (i + 1) xs)
    ∙ ap (λ ys. ys ++ flat_map f (drop (i + 1) xs)) (flat_take_more f xs i x less is)

joined-append : (xs ys : List (List ℕ)) → joined (xs ++ ys) ≡ joined xs ++ joined ys
joined-append [] ys = refl
joined-append (x ∷ xs) ys = ap (λ b. x ++ b) (joined-append xs ys) ∙ sym (append_assoc x (joined xs) (joined ys))

-- one line more of those that are said in one call
pub joined_take_more : (xs : List (List ℕ)) (i : ℕ) (x : List ℕ) → i < length xs → x ≡ get_or xs i x → joined (take (i + 1) xs) ≡ joined (take i xs) ++ x
joined_take_more xs i x less is =
    ap joined (take_more xs i x less ∙ ap (λ y. take i xs ++ y ∷ []) (sym is)) ∙ joined-append (take i xs) (x ∷ [])
    ∙ ap (λ b. joined (take i xs) ++ b) (append-nil x)
