-- What contracts see of the parts that the code cuts from a raw value.
use Rattle.std.specs.Prelude.{◌≡◌, ℕ, ◌+◌, ◌-◌, ◌≤◌, List, [], ◌∷◌, ◌++◌, length, drop, map, Some}
use Rattle.ini_interp.specs.declared.parts.Part.{Part}
use Rattle.ini_interp.specs.declared.parts.Part.TheVariants.{Plain, Sign, Named, Lone}
use Rattle.ini_interp.specs.declared.parts.Cut.{Cut}
use Rattle.ini_interp.specs.References.{Piece, Byte, Percent, Reference, Stray, referred, percent_piece, pieces_from}

-- the pieces that a part at this offset stands for
abbrev pub pieces_of : ℕ → Part → List Piece
pieces_of at (Plain text) = map Byte text.now
pieces_of at Sign = Percent ∷ []
pieces_of at (Named name) = Reference name.now ∷ []
pieces_of at Lone = Stray at ∷ []

-- the text is `NAME)s` and what stands behind it
pub record IsReferenceCut (text : List ℕ) (cut : Cut) : Type 0 where
  pub name : List ℕ
  pub part : (at : ℕ) → pieces_of at cut.part ≡ Reference name ∷ []
  pub text_is : text ≡ name ++ 41 ∷ 115 ∷ cut.rest.now
  pub referred_is : referred text ≡ Some name

-- a percent sign before the text begins this part
pub record IsPercentCut (text : List ℕ) (cut : Cut) : Type 0 where
  pub part : (at : ℕ) → pieces_of at cut.part ≡ (percent_piece at text).0 ∷ []
  pub rest : (at : ℕ) → cut.rest.now ≡ drop (percent_piece at text).1 text
  pub within : (at : ℕ) → (percent_piece at text).1 ≤ length text

-- the text is this part and what stands behind it
abbrev pub IsFirstCut : List ℕ → Cut → Type 0
IsFirstCut text cut =
    (at : ℕ) → pieces_from at 0 text
    ≡ pieces_of at cut.part ++ pieces_from (at + (length text - length cut.rest.now)) 0 cut.rest.now
