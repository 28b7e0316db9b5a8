-- Lengths of bytes that are joined, up to the greatest number of 64 bits.
use Rattle.std.proofs.Common.{◌≡◌, ℕ, ◌+◌, ◌-◌, ◌^◌, ◌<◌, ◌≤◌, min, List, [], ◌∷◌, ◌++◌, length, take, get_or, sym, ap, ◌∙◌, arith}
use Rattle.std.proofs.lemmas.Grind.{flat_map-append}
use Rattle.std.proofs.lemmas.List.{length-append, append-nil, take_more}
use Rattle.std.specs.List.{flat_map}
use Rattle.record_fields.specs.Codec.{capped}

-- the length of two parts
pub length_joined : (a b : List ℕ) (m n sum : ℕ) → m ≡ capped a → n ≡ capped b → sum ≡ min (m + n) (2 ^ 64 - 1) → sum ≡ capped (a ++ b)
unfolding capped
length_joined a b m n sum one two is = omega (arith, length-append a b)

-- the length of a byte and what follows
pub length_tagged : (byte : ℕ) (bytes : List ℕ) (n sum : ℕ) → n ≡ capped bytes → sum ≡ min (n + 1) (2 ^ 64 - 1) → sum ≡ capped (byte ∷ bytes)
unfolding capped
length_tagged byte bytes n sum is total = omega arith

-- the length of a list before its items
pub length_begun : (a : List ℕ) (n : ℕ) → n ≡ capped a → n ≡ capped (a ++ [])
unfolding capped
length_begun a n is = omega (arith, length-append a [])

-- the length of a list with one more item
pub length_more : {A : Type 0} (spell : A → List ℕ) (front : List ℕ) (xs : List A) (i : ℕ) (x : A) (before item after : ℕ) → i < length xs → x ≡ get_or xs i x
    → before ≡ capped (front ++ flat_map spell (take i xs)) → item ≡ capped (spell x) → after ≡ min (before + item) (2 ^ 64 - 1) → after ≡ capped (front ++ flat_map spell (take (i + 1) xs))
unfolding capped
length_more spell front xs i x before item after lt is so_far one sum =
    let items : take (i + 1) xs ≡ take i xs ++ x ∷ [] = take_more xs i x lt ∙ ap (λ (y : _). take i xs ++ y ∷ []) (sym is) in
    let bytes : flat_map spell (take (i + 1) xs) ≡ flat_map spell (take i xs) ++ spell x =
    ap (flat_map spell) items ∙ flat_map-append spell (take i xs) (x ∷ []) ∙ ap (λ (t : List ℕ). flat_map spell (take i xs) ++ t) (append-nil (spell x)) in
    omega (arith, ap length bytes, length-append (flat_map spell (take i xs)) (spell x), length-append front (flat_map spell (take i xs)), length-append front (flat_map spell (take (i + 1) xs)))
