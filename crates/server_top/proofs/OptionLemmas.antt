-- Options of the command line, one behind the other.
use Rattle.std.proofs.Common.{ℕ, ◌≡◌, ◌≤◌, ◌-◌, zero, suc, List, [], ◌∷◌, length, map, take, drop, get_or, Option, Some, Result, IfOk, refl, sym, ap, ◌∙◌, subst, arith}
use Rattle.std.specs.Prelude.{option_and_then, option_map}
use Rattle.run_law.specs.Words.{Asked, with_option, with_options}
use Rattle.server_top.specs.Options.{asked_of}
use Rattle.server_top.specs.declared.words.Options.{Options}

pub options_on : {E : Type 0} (r : Result (Option Options) E) (words rest : List (List ℕ)) (name text : List ℕ) (a : Asked) (b : Options) → words ≡ name ∷ text ∷ rest
    → option_map asked_of (Some b) ≡ with_option name text a → IfOk r (λ o. option_map asked_of o ≡ with_options rest (asked_of b)) → IfOk r (λ o. option_map asked_of o ≡ with_options words a)
options_on r words rest name text a b is asked h =
    let same : with_options rest (asked_of b) ≡ with_options words a =
    ap (λ (o : Option Asked). option_and_then (with_options rest) o) asked ∙ sym (ap (λ (ws : List (List ℕ)). with_options ws a) is) in
    let P : Option Asked → Type 0 = λ x. IfOk r (λ o. option_map asked_of o ≡ x) in
    subst P same h

-- as many as there are, or more, are all
take_all : {S : Type 0} (xs : List S) (n : ℕ) → length xs ≤ n → take n xs ≡ xs
take_all [] zero le = refl
take_all [] (suc n) le = refl
take_all (x ∷ xs) zero le = absurd (let none : ⊥ = omega (arith, le) in none)
take_all (x ∷ xs) (suc n) le = ap (λ (ys : List _). x ∷ ys) (take_all xs n (omega (arith, le)))

-- words of which there are two at least begin with those two
pub two_words : {S : Type 0} (f : S → List ℕ) (words : List S) (x y : S) (name text : List ℕ) → 2 ≤ length words → x ≡ get_or words 0 x → y ≡ get_or words 1 y → name ≡ f x → text ≡ f y
    → map f words ≡ name ∷ text ∷ map f (take (length words - 2) (drop 2 words))
two_words f [] x y name text long is other first second = absurd (let none : ⊥ = omega (arith, long) in none)
two_words f (a ∷ []) x y name text long is other first second = absurd (let none : ⊥ = omega (arith, long) in none)
two_words f (a ∷ b ∷ words) x y name text long is other first second =
    let p : f a ≡ name = sym (first ∙ ap f is) in
    let q : f b ≡ text = sym (second ∙ ap f other) in
    let all = take_all words (length (a ∷ b ∷ words) - 2) (omega arith) in
    λ i. p i ∷ q i ∷ map f (sym all i)
