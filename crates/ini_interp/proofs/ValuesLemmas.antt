-- What a reference is replaced by, and what a raw value becomes.
use Rattle.std.proofs.Common.{◌≡◌, ℕ, zero, suc, ◌+◌, ◌-◌, ◌<◌, ◌≤◌, List, [], ◌∷◌, ◌++◌, length, map, append_assoc, append-nil, Option, Some, None, Result, Ok, Err, refl, sym, ap, ◌∙◌, arith}
use Rattle.ini_interp.specs.declared.value_error.InterpError.{InterpError}
use Rattle.ini_interp.specs.declared.value_error.InterpError.TheVariants.{Missing, TooDeep, BadPercent}
use Rattle.ini_interp.specs.declared.parts.Part.TheVariants.{Plain, Sign, Named, Lone}
use Rattle.ini_interp.specs.declared.parts.Cut.{Cut}
use Rattle.ini_interp.specs.Added.{IsAdded}
use Rattle.ini_interp.specs.InTurn.{followed, in_turn}
use Rattle.ini_interp.specs.Parts.{pieces_of, IsFirstCut}
use Rattle.ini_interp.specs.References.{Piece, Byte, Percent, Reference, Stray, pieces, pieces_from}
use Rattle.ini_interp.specs.Sections.{Sections, raw}
use Rattle.ini_interp.specs.Values.{Scope, raw_in, scope_of, name_of, text_of, found_or_missing, filled, replaced, interpolated, value_in, value_of_raw, some_text, most_depth}

module _ (sections : Sections) (scope : Scope) (reference : List ℕ) where
  pub replaced-deepest : (depth : ℕ) → depth ≡ 0 → replaced sections scope depth reference ≡ Err (TooDeep (name_of reference))
  unfolding replaced
  replaced-deepest zero e = refl
  replaced-deepest (suc depth) e = absurd (omega (arith, e))

  pub replaced-found : (depth : ℕ) (text : List ℕ) → 0 < depth → Some text ≡ raw_in sections (scope_of scope reference) (name_of reference) →
      replaced sections scope depth reference ≡ interpolated sections scope (depth - 1) text
  unfolding replaced
  replaced-found zero text deep e = absurd (omega arith)
  replaced-found (suc depth) text deep e =
      ap (found_or_missing (filled (replaced sections scope depth)) (name_of reference)) (sym e)
      ∙ ap (λ (k : ℕ). interpolated sections scope k text) (one_less depth)
    where
      one_less : (d : ℕ) → d ≡ suc d - 1
      one_less d = omega arith

  pub replaced-missing : (depth : ℕ) → 0 < depth → None ≡ raw_in sections (scope_of scope reference) (name_of reference) →
      replaced sections scope depth reference ≡ Err (Missing (name_of reference))
  unfolding replaced
  replaced-missing zero deep e = absurd (omega arith)
  replaced-missing (suc depth) deep e = ap (found_or_missing (filled (replaced sections scope depth)) (name_of reference)) (sym e)

-- In turn.

pub followed_assoc : {A E : Type 0} (r s t : Result (List A) E) → followed (followed r s) t ≡ followed r (followed s t)
followed_assoc (Err e) s t = refl
followed_assoc (Ok xs) (Err e) t = refl
followed_assoc (Ok xs) (Ok ys) (Err e) = refl
followed_assoc {A} (Ok xs) (Ok ys) (Ok zs) = ap (λ (l : List A). Ok l) (append_assoc xs ys zs)

pub followed-nothing : {A E : Type 0} (r : Result (List A) E) → followed (Ok []) r ≡ r
followed-nothing (Err e) = refl
followed-nothing (Ok xs) = refl

pub followed-end : {A E : Type 0} (r : Result (List A) E) → followed r (Ok []) ≡ r
followed-end (Err e) = refl
followed-end {A} (Ok xs) = ap (λ (l : List A). Ok l) (append-nil xs)

pub followed-fault : {A E : Type 0} (xs : List A) (fault : E) → followed (Ok xs) (Err fault) ≡ Err fault
followed-fault xs fault = refl

pub in_turn-append : {X A E : Type 0} (give : X → Result (List A) E) (xs ys : List X) →
    in_turn give (xs ++ ys) ≡ followed (in_turn give xs) (in_turn give ys)
in_turn-append give [] ys = sym (followed-nothing (in_turn give ys))
in_turn-append give (x ∷ xs) ys = ap (followed (give x)) (in_turn-append give xs ys) ∙ sym (followed_assoc (give x) (in_turn give xs) (in_turn give ys))

pub in_turn-one : {X A E : Type 0} (give : X → Result (List A) E) (x : X) → in_turn give (x ∷ []) ≡ give x
in_turn-one give x = followed-end (give x)

-- Text without percent signs.
pub plain_text : (replace : List ℕ → Result (List ℕ) InterpError) (text : List ℕ) → in_turn (text_of replace) (map Byte text) ≡ Ok text
plain_text replace [] = refl
plain_text replace (x ∷ text) = ap (followed (Ok (x ∷ []))) (plain_text replace text)

-- how far the pieces of a raw value have been taken, where `rest` is left of it, `old` has become `new`, and all went well
pub record IsSoFar (give : Piece → Result (List ℕ) InterpError) (whole rest old new : List ℕ) : Type 0 where
  pub text : List ℕ
  pub added : new ≡ old ++ text
  pub taken : in_turn give (pieces whole) ≡ followed (Ok text) (in_turn give (pieces_from (length whole - length rest) 0 rest))
  pub within : length rest ≤ length whole

-- what is left to take begins with the pieces of the first part
left : (give : Piece → Result (List ℕ) InterpError) (at : ℕ) (rest : List ℕ) (cut : Cut) → IsFirstCut rest cut →
    in_turn give (pieces_from at 0 rest)
    ≡ followed (in_turn give (pieces_of at cut.part)) (in_turn give (pieces_from (at + (length rest - length cut.rest.now)) 0 cut.rest.now))
left give at rest cut first = ap (in_turn give) (first at) ∙ in_turn-append give (pieces_of at cut.part) _

nothing_left : (give : Piece → Result (List ℕ) InterpError) (at : ℕ) (rest : List ℕ) → rest ≡ [] → in_turn give (pieces_from at 0 rest) ≡ Ok []
unfolding pieces_from
nothing_left give at rest none = ap (λ (l : List ℕ). in_turn give (pieces_from at 0 l)) none

module _ (give : Piece → Result (List ℕ) InterpError) (whole rest old new : List ℕ) where
  pub starts : rest ≡ whole → new ≡ old → IsSoFar give whole rest old new
  starts same kept = record {
    text = [];
    added = kept ∙ sym (append-nil old);
    taken =
        ap (λ (l : List ℕ). in_turn give (pieces_from 0 0 l)) (sym same)
        ∙ ap (λ (at : ℕ). in_turn give (pieces_from at 0 rest)) (omega (arith, ap length same))
        ∙ sym (followed-nothing (in_turn give (pieces_from (length whole - length rest) 0 rest)));
    within = omega (arith, ap length same);
  }

  pub goes_on : (so_far : IsSoFar give whole rest old new) (cut : Cut) (newer more : List ℕ) → IsFirstCut rest cut → length cut.rest.now < length rest →
      in_turn give (pieces_of (length whole - length rest) cut.part) ≡ Ok more → newer ≡ new ++ more → IsSoFar give whole cut.rest.now old newer
  goes_on so_far cut newer more first shorter given added =
      let at : ℕ = length whole - length rest in
      let further : ℕ → Result (List ℕ) InterpError = λ (k : ℕ). in_turn give (pieces_from k 0 cut.rest.now) in
      let moved : at + (length rest - length cut.rest.now) ≡ length whole - length cut.rest.now = omega (arith, so_far.within, shorter) in
      record {
        text = so_far.text ++ more;
        added = added ∙ ap (λ (l : List ℕ). l ++ more) so_far.added ∙ append_assoc old so_far.text more;
        taken =
            so_far.taken
            ∙ ap (followed (Ok so_far.text))
            (left give at rest cut first ∙ ap (λ (r : Result (List ℕ) InterpError). followed r (further (at + (length rest - length cut.rest.now)))) given
            ∙ ap (λ (k : ℕ). followed (Ok more) (further k)) moved)
            ∙ sym (followed_assoc (Ok so_far.text) (Ok more) (further (length whole - length cut.rest.now)));
        within = omega (arith, so_far.within, shorter);
      }

  pub faults : (so_far : IsSoFar give whole rest old new) (cut : Cut) (fault : InterpError) → IsFirstCut rest cut →
      in_turn give (pieces_of (length whole - length rest) cut.part) ≡ Err fault → in_turn give (pieces whole) ≡ Err fault
  faults so_far cut fault first given =
      let at : ℕ = length whole - length rest in
      let further : Result (List ℕ) InterpError = in_turn give (pieces_from (at + (length rest - length cut.rest.now)) 0 cut.rest.now) in
      so_far.taken
      ∙ ap (followed (Ok so_far.text))
      (left give at rest cut first ∙ ap (λ (r : Result (List ℕ) InterpError). followed r further) given)

  pub ends : (so_far : IsSoFar give whole rest old new) → rest ≡ [] → IsAdded (in_turn give (pieces whole)) old new
  ends so_far none = record {
    text = so_far.text;
    given =
        so_far.taken ∙ ap (followed (Ok so_far.text)) (nothing_left give (length whole - length rest) rest none)
        ∙ followed-end {E = InterpError} (Ok so_far.text);
    added = so_far.added;
  }

-- The value of a name, by what was added to an empty text.
pub value-added : (sections : Sections) (scope : Scope) (name raw old new : List ℕ) → Some raw ≡ raw_in sections scope name → old ≡ [] →
    IsAdded (interpolated sections scope most_depth raw) old new → value_in sections scope name ≡ Ok (Some new)
value-added sections scope name raw old new found empty read =
    ap (value_of_raw sections scope) (sym found)
    ∙ ap some_text (read.given ∙ ap (λ (text : List ℕ). Ok text) (sym (read.added ∙ ap (λ (front : List ℕ). front ++ read.text) empty)))
