-- The number of the group with a name, from the relation that `regex` ensures.
use Rattle.std.proofs.Common.{◌≡◌, ◌≢◌, ℕ, zero, suc, ◌+◌, Bool, true, false, ◌&&◌, List, [], ◌∷◌, Option, Some, None, option_map, refl, sym, ap, ap₂, ◌∙◌, arith, true≢false, add-one}
use Rattle.std.proofs.lemmas.Bool.{cond-true, cond-false, eq-eqb, eqb-true, false_from_ne_true}
use Rattle.regex.specs.Names.{IsIndexOf}
use Rattle.regex_syntax.specs.Grammar.{Names}
use Rattle.f2b_world.specs.Matches.{same_text, has_name, number_of}

both_of : (a b : Bool) → (a && b) ≡ true → (a ≡ true) × (b ≡ true)
both_of true b h = (refl, h)
both_of false b h = absurd (true≢false (sym h))

same_text-true : (a b : List ℕ) → same_text a b ≡ true → a ≡ b
same_text-true [] [] h = refl
same_text-true [] (y ∷ ys) h = absurd (true≢false (sym h))
same_text-true (x ∷ xs) [] h = absurd (true≢false (sym h))
same_text-true (x ∷ xs) (y ∷ ys) h =
    let p = both_of _ _ h in ap₂ ◌∷◌ (eqb-true x y p.0) (same_text-true xs ys p.1)

same_text-refl : (a : List ℕ) → same_text a a ≡ true
same_text-refl [] = refl
same_text-refl (x ∷ xs) = ap (λ b. b && same_text xs xs) (eq-eqb x x refl) ∙ same_text-refl xs

has_name-true : (name : List ℕ) (g : Option (List ℕ)) → has_name name g ≡ true → g ≡ Some name
has_name-true name None h = absurd (true≢false (sym h))
has_name-true name (Some given) h = ap Some (same_text-true given name h)

has_name-of : (name : List ℕ) (g : Option (List ℕ)) → g ≡ Some name → has_name name g ≡ true
has_name-of name g e = ap (has_name name) e ∙ same_text-refl name

has_name-not : (name : List ℕ) (g : Option (List ℕ)) → g ≢ Some name → has_name name g ≡ false
has_name-not name g ne = false_from_ne_true _ (λ h. ne (has_name-true name g h))

pub number_is : (name : List ℕ) (names : Names) (found : Option ℕ) → IsIndexOf names name found → found ≡ number_of name names
number_is name [] None h = refl
number_is name [] (Some n) h = absurd (omega (arith, h.0))
number_is name (g ∷ gs) None h =
    let rest : None ≡ number_of name gs = number_is name gs None (λ k le. h (suc k) (omega (arith, le))) in
    ap (option_map (λ n. n + 1)) rest
    ∙ sym (cond-false _ _ _ (has_name-not name g (h 0 (omega arith))))
number_is name (g ∷ gs) (Some zero) h = sym (cond-true _ _ _ (has_name-of name g h.1))
number_is name (g ∷ gs) (Some (suc k)) h =
    let rest : Some k ≡ number_of name gs =
    number_is name gs (Some k) (omega (arith, h.0), h.1, λ j le. h.2 (suc j) (omega (arith, le))) in
    ap Some (sym (add-one k)) ∙ ap (option_map (λ n. n + 1)) rest
    ∙ sym (cond-false _ _ _ (has_name-not name g (h.2 0 (omega arith))))
