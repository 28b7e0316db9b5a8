-- Words that a table does not have.
use Rattle.std.proofs.Common.{◌≡◌, ℕ, inl, inr, None, List, [], ◌∷◌, refl, sym}
use Rattle.std.specs.Str.{bytes_eq}
use Rattle.std.proofs.lemmas.Bool.{cases_Bool}
use Rattle.std.specs.Cmp.Lexicographic.{bytes_decides}
use Rattle.client_words.specs.Verbs.{named_in}

-- the word is that of no row
abbrev pub IsNoneOf : {A : Type 0} → List ℕ → List (List ℕ × A) → Type 0
IsNoneOf word [] = Unit {0}
IsNoneOf word (row ∷ rows) = (word ≡ row.0 → ⊥) × IsNoneOf word rows

-- so the table has nothing for it
pub named_none : {A : Type 0} (rows : List (List ℕ × A)) (word : List ℕ) → IsNoneOf word rows → None ≡ named_in rows word
named_none [] word none = refl
named_none (row ∷ rows) word none = elim (cases_Bool (bytes_eq row.0 word)) [
  | inl y ↦ absurd (none.0 (sym ((bytes_decides row.0 word).0 y)))
  | inr n ↦ rw n (named_none rows word none.1)
]
