-- Texts that grow piece by piece.
use Rattle.std.proofs.Common.{◌≡◌, ℕ, List, ◌++◌, ap, ◌∙◌}
use Rattle.std.proofs.lemmas.List.{append_assoc}

-- one piece more
pub grown : (t a b some more : List ℕ) → some ≡ t ++ a → more ≡ some ++ b → more ≡ t ++ (a ++ b)
grown t a b some more first second = second ∙ (ap (λ (x : List ℕ). x ++ b) first ∙ append_assoc t a b)
