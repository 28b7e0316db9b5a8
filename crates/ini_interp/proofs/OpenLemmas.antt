-- Opening a section.
use Rattle.std.proofs.Common.{◌≡◌, ℕ, Bool, true, false, cond, List, [], Option, None, Some, is_some, refl, sym, true≢false}
use Rattle.std.proofs.lemmas.Option.{none-some}
use Rattle.ini_interp.specs.Kept.{Kept, kept_or_none}
use Rattle.ini_interp.specs.Sections.{value_of, with_value}
use Rattle.ini_interp.proofs.Named.{some_value, with_value-same}

module _ (section : List ℕ) (sections : List (List ℕ × Kept)) where
  -- a section that is there stays as it is
  pub opened_there : is_some (value_of section sections) ≡ true → sections ≡ with_value section (kept_or_none (value_of section sections)) sections
  opened_there there = by (value_of section sections) refl there
    where
      by : (o : Option Kept) → value_of section sections ≡ o → is_some o ≡ true → sections ≡ with_value section (kept_or_none o) sections
      by None is there = absurd (true≢false (sym there))
      by (Some kept) is there = sym (with_value-same section kept sections is)

  -- a section that is not there gets no items
  pub opened_new : is_some (value_of section sections) ≡ false →
      with_value section (record { items = []; last = None }) sections ≡ with_value section (kept_or_none (value_of section sections)) sections
  opened_new new = by (value_of section sections) new
    where
      by : (o : Option Kept) → is_some o ≡ false → with_value section (record { items = []; last = None }) sections ≡ with_value section (kept_or_none o) sections
      by None new = refl
      by (Some kept) new = absurd (true≢false new)

-- the place that a test has found
pub found_place : (test : Bool) (found place : ℕ) → Some place ≡ cond test (Some found) None → place ≡ found
found_place true found place is = some_value place found is
found_place false found place is = absurd (none-some _ (sym is))
