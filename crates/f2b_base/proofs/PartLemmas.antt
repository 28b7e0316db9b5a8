-- The parts of a text round each `<`.
use Rattle.std.proofs.Common.{◌≡◌, ℕ, ◌+◌, ◌<◌, false, ◌==◌, List, [], ◌∷◌, length, Option, Some, None, ap₂, sym, ◌∙◌, arith}
use Rattle.std.specs.List.{slice_split, position_or_len, before_first, after_first}
use Rattle.std.proofs.lemmas.List.Elements.{All-from_get_or}
use Rattle.std.proofs.lemmas.List.Splits.{slice_split_first, slice_split_none}
use Rattle.std.proofs.lemmas.List.Sums.{fails_before_first}

-- a text with a `<`
pub parts_at_first : (text part rest : List ℕ) →
    (part ≡ before_first (λ b. b == 60) text) × (rest ≡ after_first (λ b. b == 60) text) × (position_or_len (λ b. b == 60) text < length text) →
    slice_split (λ b. b == 60) text ≡ part ∷ slice_split (λ b. b == 60) rest
parts_at_first text part rest h =
    slice_split_first (λ b. b == 60) text 0 h.2 ∙ sym (ap₂ (λ p r. p ∷ slice_split (λ b. b == 60) r) h.0 h.1)

-- and one without
pub one_part : (text : List ℕ) → position_or_len (λ b. b == 60) text ≡ length text → slice_split (λ b. b == 60) text ≡ text ∷ []
one_part text none =
    slice_split_none (λ b. b == 60) text
    (All-from_get_or (λ b. (b == 60) ≡ false) text 0
    (λ i within. fails_before_first (λ b. b == 60) text i 0 (omega (arith, within, none))))

-- how much of a text is left, counting the `<` before it
abbrev pub left_of : Option (List ℕ) → ℕ
left_of None = 0
left_of (Some rest) = length rest + 1
