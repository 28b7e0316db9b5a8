-- The calls for the patterns of a list, one after the other.
use Rattle.std.proofs.Common.{◌≡◌, ℕ, ◌+◌, ◌<◌, ◌≤◌, List, [], ◌∷◌, ◌++◌, Ok, Err, sym, ap, ◌∙◌, subst, length, map, take, drop, get_or, length-take-le, arith}
use Rattle.std.proofs.lemmas.List.{map-append, take-append-drop, take_all, take_more, length-map}
use Rattle.f2b_world.specs.Told.{Standing}
use Rattle.host_ident.specs.Expanded.{expanded}
use Rattle.filter_regex.specs.Rules.{numbered}
use Rattle.filter_regex.specs.Builds.{Makes, MakesAll}
use Rattle.filter_regex.specs.declared.error.PatternPlace.{PatternPlace}
use Rattle.filter_regex.specs.declared.error.PatternError.{PatternError}
use Rattle.filter_regex.specs.declared.error.PatternError.TheVariants.{NoMemory}
use Rattle.filter_regex.proofs.MakesLemmas.{Placed, one_made, one_failed, gave_out, first_failed, second_failed, both_made}

numbered-append : (place : ℕ → PatternPlace) (n : ℕ) (xs ys : List (List ℕ)) → numbered place n (xs ++ ys) ≡ numbered place n xs ++ numbered place (n + length xs) ys
numbered-append place n [] ys = let same : n ≡ n + 0 = omega arith in ap (λ k. numbered place k ys) same
numbered-append place n (x ∷ xs) ys =
    let same : (n + 1) + length xs ≡ n + length (x ∷ xs) = omega arith in
    ap (λ zs. (place n, x) ∷ zs) (numbered-append place (n + 1) xs ys ∙ ap (λ k. numbered place (n + 1) xs ++ numbered place k ys) same)

module _ (place : ℕ → PatternPlace) (texts : List (List ℕ)) where
  -- the patterns of the first texts
  abbrev pub first_of : ℕ → List Placed
  first_of i = numbered place 1 (map expanded (take i texts))

  abbrev pub all_of : List Placed
  all_of = numbered place 1 (map expanded texts)

  rest_after : ℕ → List Placed
  rest_after i = numbered place (1 + length (map expanded (take i texts))) (map expanded (drop i texts))

  divided : (i : ℕ) → all_of ≡ first_of i ++ rest_after i
  unfolding rest_after
  divided i =
      ap (λ ts. numbered place 1 (map expanded ts)) (sym (take-append-drop i texts))
      ∙ ap (numbered place 1) (map-append expanded (take i texts) (drop i texts))
      ∙ numbered-append place 1 (map expanded (take i texts)) (map expanded (drop i texts))

  -- all were made
  pub all_done : {B : Type 0} (b : B) (i : ℕ) → length texts ≤ i → (old new : Standing) → MakesAll {A = ℕ} (first_of i) (Ok 0) old new → MakesAll {A = B} all_of (Ok b) old new
  all_done {B} b i le old new made =
      let P : List (List ℕ) → Type 0 = λ ts. MakesAll {A = B} (numbered place 1 (map expanded ts)) (Ok b) old new in
      subst P (take_all i texts le) (record { told = made.told; steady = made.steady; cause = tt; leaves = made.leaves; still = made.still })

  pub one_text_more : (i : ℕ) (text : List ℕ) → i < length texts → text ≡ get_or texts i text
      → map expanded (take (i + 1) texts) ≡ map expanded (take i texts) ++ expanded text ∷ []
  one_text_more i text less is =
      ap (map expanded) (take_more texts i text less ∙ ap (λ t. take i texts ++ t ∷ []) (sym is))
      ∙ map-append expanded (take i texts) (text ∷ [])

  module _ (i : ℕ) (text : List ℕ) (less : i < length texts) (is : text ≡ get_or texts i text) (old mid new : Standing) (made : MakesAll {A = ℕ} (first_of i) (Ok 0) old mid) where
    one_more : first_of (i + 1) ≡ first_of i ++ (place (i + 1), expanded text) ∷ []
    one_more =
        let number : 1 + length (map expanded (take i texts)) ≡ i + 1 = omega (arith, length-map (take i texts) expanded, length-take-le i texts (omega (arith, less))) in
        ap (numbered place 1) (one_text_more i text less is)
        ∙ numbered-append place 1 (map expanded (take i texts)) (expanded text ∷ [])
        ∙ ap (λ k. first_of i ++ (place k, expanded text) ∷ []) number

    pub more_made : (at : PatternPlace) → at ≡ place (i + 1) → (pattern : List ℕ) → Makes at (expanded text) (Ok pattern) mid new → MakesAll {A = ℕ} (first_of (i + 1)) (Ok 0) old new
    more_made at at_is pattern makes =
        let R : PatternPlace → Type 0 = λ p. Makes p (expanded text) (Ok pattern) mid new in
        let P : List Placed → Type 0 = λ ps. MakesAll {A = ℕ} ps (Ok 0) old new in
        let last = one_made {A = ℕ} 0 (place (i + 1)) (expanded text) pattern mid new (subst R at_is makes) in
        subst P (sym one_more) (both_made 0 (first_of i) ((place (i + 1), expanded text) ∷ []) old mid new made 0 0 last)

    pub more_failed : (at : PatternPlace) → at ≡ place (i + 1) → (B : Type 0) (error : PatternError) → Makes at (expanded text) (Err error) mid new → MakesAll {A = B} all_of (Err error) old new
    more_failed at at_is B error makes =
        let R : PatternPlace → Type 0 = λ p. Makes p (expanded text) (Err error) mid new in
        let P : List Placed → Type 0 = λ ps. MakesAll {A = ℕ} ps (Err error) old new in
        let Q : List Placed → Type 0 = λ ps. MakesAll {A = B} ps (Err error) old new in
        let last = one_failed ℕ (place (i + 1)) (expanded text) error mid new (subst R at_is makes) in
        let so_far = subst P (sym one_more) (second_failed 0 (first_of i) ((place (i + 1), expanded text) ∷ []) old mid new made ℕ error last) in
        subst Q (sym (divided (i + 1))) (first_failed B (first_of (i + 1)) (rest_after (i + 1)) error old new so_far)

    -- memory ran out after one more
    pub more_lost : (at : PatternPlace) → at ≡ place (i + 1) → (B : Type 0) (pattern : List ℕ) → Makes at (expanded text) (Ok pattern) mid new → MakesAll {A = B} all_of (Err NoMemory) old new
    more_lost at at_is B pattern makes =
        let Q : List Placed → Type 0 = λ ps. MakesAll {A = B} ps (Err NoMemory) old new in
        let so_far = gave_out {A = ℕ} ℕ 0 (first_of (i + 1)) old new (more_made at at_is pattern makes) in
        subst Q (sym (divided (i + 1))) (first_failed B (first_of (i + 1)) (rest_after (i + 1)) NoMemory old new so_far)
