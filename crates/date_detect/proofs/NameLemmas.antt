-- The number of the group with a name, and the names that a parser gives.
use Rattle.std.proofs.Common.{◌≡◌, ℕ, suc, ◌+◌, ◌<◌, true, false, ◌&&◌, ◌==◌, List, [], ◌∷◌, length, map, drop, get_or, Option, Some, None, option_map, refl, sym, ap, ◌∙◌, arith, drop-cons, zero-add, add-one}
use Rattle.std.proofs.lemmas.Bool.{cond-true, cond-false}
use Rattle.std.specs.Option.{option_map_or}
use Rattle.std.specs.Str.{bytes_eq}
use Rattle.regex.specs.Patterns.{default_config, Reads}
use Rattle.regex_hir.specs.declared.hir.Hir.{Hir}
use Rattle.regex_syntax.specs.Grammar.{Names}
use Rattle.f2b_world.proofs.ReadingLemmas.{read_as}
use Rattle.f2b_world.specs.Matches.{same_text, has_name, number_of}
use Rattle.f2b_world.specs.Reading.{Expression}
use Rattle.date_detect.specs.Forms.{names_in}

pub same_text-bytes_eq : (a b : List ℕ) → bytes_eq a b ≡ same_text a b
same_text-bytes_eq [] [] = refl
same_text-bytes_eq [] (y ∷ ys) = refl
same_text-bytes_eq (x ∷ xs) [] = refl
same_text-bytes_eq (x ∷ xs) (y ∷ ys) = ap (λ same. (x == y) && same) (same_text-bytes_eq xs ys)

-- a number counted from 0, and then from i
pub from_zero : (o : Option ℕ) → option_map (λ n. n + 0) o ≡ o
from_zero None = refl
from_zero (Some n) = let e : n + 0 ≡ n = omega arith in ap Some e

shifted : (i : ℕ) (o : Option ℕ) → option_map (λ n. n + i) (option_map (λ n. n + 1) o) ≡ option_map (λ n. n + suc i) o
shifted i None = refl
shifted i (Some n) = let e : n + 1 + i ≡ n + suc i = omega arith in ap Some e

module _ {A : Type 0} (f : A → Option (List ℕ)) (name : List ℕ) (xs : List A) (i : ℕ) (x : A) (within : i < length xs) (is : x ≡ get_or xs i x) where
  -- the group at a place has the name
  pub named_here : has_name name (f x) ≡ true → option_map (λ n. n + i) (number_of name (map f (drop i xs))) ≡ Some i
  named_here has =
      rw (drop-cons xs i x, ← is) (ap (option_map (λ n. n + i)) (cond-true _ _ _ has) ∙ ap Some (zero-add i))

  -- or it has not
  pub not_here : has_name name (f x) ≡ false → option_map (λ n. n + i) (number_of name (map f (drop i xs)))
      ≡ option_map (λ n. n + (i + 1)) (number_of name (map f (drop (i + 1) xs)))
  not_here hasnt =
      rw (drop-cons xs i x, ← is, add-one) (ap (option_map (λ n. n + i)) (cond-false _ _ _ hasnt) ∙ shifted i _)

-- the names that were read with a text are those of its reading
pub names_are : (text : List ℕ) (hir : Hir) (names : Names) → Reads default_config text hir names → names_in text ≡ names
unfolding names_in
names_are text hir names reads =
    let found = read_as text hir names reads in
    ap (λ o. option_map_or (λ (e : Expression). e.names) o []) found.is ∙ sym found.named
