-- The count of a pattern that is raised.
use Rattle.std.proofs.Common.{◌≡◌, ◌≢◌, ℕ, zero, suc, ◌+◌, ◌-◌, ◌<◌, ◌≤◌, List, [], ◌∷◌, length, slice_index_or, slice_set, Option, None, Some, refl, sym, ap, ap₂, ◌∙◌, arith, true}
use Rattle.regex_tool.specs.Counts.{raised_at, raised, raised_by, plus_if}

set_at : (counts : List ℕ) (k count more : ℕ) → k < length counts → count ≡ slice_index_or counts k count → more ≡ count + 1 → slice_set counts k more ≡ raised_at k counts
set_at [] k count more within is rise = absurd (omega arith)
set_at (first ∷ counts) zero count more within is rise = ap (λ n. n ∷ counts) (rise ∙ ap (λ n. n + 1) is)
set_at (first ∷ counts) (suc k) count more within is rise = ap (λ ns. first ∷ ns) (set_at counts k count more (omega arith) is rise)

pub at_outside : (counts : List ℕ) (k : ℕ) → length counts ≤ k → raised_at k counts ≡ counts
at_outside [] k past = refl
at_outside (first ∷ counts) zero past = absurd (omega arith)
at_outside (first ∷ counts) (suc k) past = ap (λ ns. first ∷ ns) (at_outside counts k (omega arith))

raised-number : (number : ℕ) (counts : List ℕ) → number ≢ 0 → raised_at (number - 1) counts ≡ raised number counts
raised-number zero counts some = absurd (some refl)
raised-number (suc k) counts some = let place : suc k - 1 ≡ k = omega arith in ap (λ j. raised_at j counts) place

raised_by-some : (given : Option ℕ) (number : ℕ) (counts : List ℕ) → given ≡ Some number → number ≢ 0 → raised_at (number - 1) counts ≡ raised_by given counts
raised_by-some given number counts is some = raised-number number counts some ∙ ap (λ g. raised_by g counts) (sym is)

-- the count of a pattern of the list is set to one more
pub raised_inside : (given : Option ℕ) (number : ℕ) (counts : List ℕ) (count more : ℕ) → given ≡ Some number → number ≢ 0 → number - 1 < length counts →
    count ≡ slice_index_or counts (number - 1) count → more ≡ plus_if true count → slice_set counts (number - 1) more ≡ raised_by given counts
raised_inside given number counts count more is some within at rise = set_at counts (number - 1) count more within at rise ∙ raised_by-some given number counts is some

-- no count is set where the list has no such pattern
pub raised_outside : (given : Option ℕ) (number : ℕ) (counts : List ℕ) → given ≡ Some number → number ≢ 0 → length counts ≤ number - 1 → raised_by given counts ≡ counts
raised_outside given number counts is some past = sym (raised_by-some given number counts is some) ∙ at_outside counts (number - 1) past
