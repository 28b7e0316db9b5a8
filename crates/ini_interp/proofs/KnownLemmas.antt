-- A raw value whose pieces are written anew.
use Rattle.std.proofs.Common.{◌≡◌, ℕ, ◌+◌, ◌-◌, ◌<◌, ◌≤◌, List, [], ◌∷◌, ◌++◌, length, append_assoc, append-nil, refl, sym, ap, ◌∙◌, arith, map}
use Rattle.std.specs.List.{flat_map}
use Rattle.ini_interp.specs.declared.parts.Cut.{Cut}
use Rattle.ini_interp.specs.Parts.{pieces_of, IsFirstCut}
use Rattle.ini_interp.specs.References.{Piece, Byte, pieces, pieces_from}
use Rattle.ini_interp.specs.Known.{known_text}
use Rattle.ini_interp.specs.Sections.{Sections}

pub flat_map-append : {X A : Type 0} (f : X → List A) (xs ys : List X) → flat_map f (xs ++ ys) ≡ flat_map f xs ++ flat_map f ys
flat_map-append f [] ys = refl
flat_map-append f (x ∷ xs) ys = ap (λ (l : List _). f x ++ l) (flat_map-append f xs ys) ∙ sym (append_assoc (f x) (flat_map f xs) (flat_map f ys))

-- the pieces were written up to what is left
pub record IsRespelled (f : Piece → List ℕ) (whole rest text : List ℕ) : Type 0 where
  pub so_far : flat_map f (pieces whole) ≡ text ++ flat_map f (pieces_from (length whole - length rest) 0 rest)
  pub within : length rest ≤ length whole

pub known_bytes : (before : Sections) (section text : List ℕ) → flat_map (known_text before section) (map Byte text) ≡ text
known_bytes before section [] = refl
known_bytes before section (x ∷ text) = ap (λ (l : List ℕ). x ∷ l) (known_bytes before section text)

module _ (f : Piece → List ℕ) (whole rest text : List ℕ) where
  pub respelled-starts : rest ≡ whole → text ≡ [] → IsRespelled f whole rest text
  respelled-starts same empty = record {
    so_far =
        ap (λ (l : List ℕ). flat_map f (pieces_from 0 0 l)) (sym same)
        ∙ ap (λ (at : ℕ). flat_map f (pieces_from at 0 rest)) (omega (arith, ap length same))
        ∙ ap (λ (front : List ℕ). front ++ flat_map f (pieces_from (length whole - length rest) 0 rest)) (sym empty);
    within = omega (arith, ap length same);
  }

  pub respelled-goes_on : (so_far : IsRespelled f whole rest text) (cut : Cut) (newer : List ℕ) → IsFirstCut rest cut → length cut.rest.now < length rest →
      ((at : ℕ) → newer ≡ text ++ flat_map f (pieces_of at cut.part)) → IsRespelled f whole cut.rest.now newer
  respelled-goes_on so_far cut newer first shorter added =
      let at : ℕ = length whole - length rest in
      let further : ℕ → List ℕ = λ (k : ℕ). flat_map f (pieces_from k 0 cut.rest.now) in
      let moved : at + (length rest - length cut.rest.now) ≡ length whole - length cut.rest.now = omega (arith, so_far.within, shorter) in
      record {
        so_far =
            so_far.so_far
            ∙ ap (λ (l : List ℕ). text ++ l)
            (ap (flat_map f) (first at) ∙ flat_map-append f (pieces_of at cut.part) (pieces_from (at + (length rest - length cut.rest.now)) 0 cut.rest.now)
            ∙ ap (λ (k : ℕ). flat_map f (pieces_of at cut.part) ++ further k) moved)
            ∙ sym (append_assoc text (flat_map f (pieces_of at cut.part)) (further (length whole - length cut.rest.now)))
            ∙ ap (λ (front : List ℕ). front ++ further (length whole - length cut.rest.now)) (sym (added at));
        within = omega (arith, so_far.within, shorter);
      }

  pub respelled-ends : (so_far : IsRespelled f whole rest text) → rest ≡ [] → text ≡ flat_map f (pieces whole)
  unfolding pieces_from
  respelled-ends so_far none =
      sym (so_far.so_far ∙ ap (λ (l : List ℕ). text ++ flat_map f (pieces_from (length whole - length rest) 0 l)) none ∙ append-nil text)
