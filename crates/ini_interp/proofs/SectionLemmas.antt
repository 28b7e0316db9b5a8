-- Sections with what is kept of them, seen as sections of items.
use Rattle.std.proofs.Common.{◌≡◌, ℕ, zero, suc, List, [], ◌∷◌, Option, None, Some, is_some, option_map, option_and_then, slice_get, true, false, true≢false, refl, sym, ap, ◌∙◌}
use Rattle.std.specs.Str.{str_to_ascii_lowercase}
use Rattle.ini_interp.specs.Kept.{Kept, with_item, without_last}
use Rattle.ini_interp.specs.Sections.{value_of, with_value, items_or_none, items_of, raw, with_raw, opened, section_at, item_at}
use Rattle.ini_interp.proofs.Named.{with_value-same, valued-with_value, value_of-valued}

-- the names stand in the same places
pub section_name : (sections : List (List ℕ × Kept)) (place : ℕ) → option_map (λ e. e.0) (slice_get sections place) ≡ section_at (without_last sections) place
section_name [] place = refl
section_name (e ∷ sections) zero = refl
section_name (e ∷ sections) (suc place) = section_name sections place

module _ (section : List ℕ) (sections : List (List ℕ × Kept)) where
  -- what is looked up in a section that is there, and in one that is not
  pub raw_there : (name : List ℕ) (kept : Kept) → value_of section sections ≡ Some kept →
      value_of (str_to_ascii_lowercase name) kept.items ≡ raw (without_last sections) section name
  unfolding raw
  raw_there name kept there =
      ap (option_and_then (value_of (str_to_ascii_lowercase name))) (sym (value_of-valued (λ (k : Kept). k.items) section sections ∙ ap (option_map (λ k. k.items)) there))

  pub raw_none : (name : List ℕ) → value_of section sections ≡ None → None ≡ raw (without_last sections) section name
  unfolding raw
  raw_none name none =
      ap (option_and_then (value_of (str_to_ascii_lowercase name))) (sym (value_of-valued (λ (k : Kept). k.items) section sections ∙ ap (option_map (λ k. k.items)) none))

  pub item_there : (place : ℕ) (kept : Kept) → value_of section sections ≡ Some kept →
      option_map (λ e. e.0) (slice_get kept.items place) ≡ item_at (without_last sections) section place
  unfolding item_at
  item_there place kept there =
      ap (option_and_then (λ items. option_map (λ e. e.0) (slice_get items place))) (sym (value_of-valued (λ (k : Kept). k.items) section sections ∙ ap (option_map (λ k. k.items)) there))

  pub item_none : (place : ℕ) → value_of section sections ≡ None → None ≡ item_at (without_last sections) section place
  unfolding item_at
  item_none place none =
      ap (option_and_then (λ items. option_map (λ e. e.0) (slice_get items place))) (sym (value_of-valued (λ (k : Kept). k.items) section sections ∙ ap (option_map (λ k. k.items)) none))

  -- the items of a section
  items_there : (kept : Kept) → value_of section sections ≡ Some kept → items_of section (without_last sections) ≡ kept.items
  unfolding items_of
  items_there kept there = ap items_or_none (value_of-valued (λ (k : Kept). k.items) section sections ∙ ap (option_map (λ k. k.items)) there)

  items_none : value_of section sections ≡ None → items_of section (without_last sections) ≡ []
  unfolding items_of
  items_none none = ap items_or_none (value_of-valued (λ (k : Kept). k.items) section sections ∙ ap (option_map (λ k. k.items)) none)

  -- what is set in a section that is there, and in a new one
  pub put_there : (name value : List ℕ) (kept changed : Kept) → value_of section sections ≡ Some kept → changed ≡ with_item (str_to_ascii_lowercase name) value kept →
      without_last (with_value section changed sections) ≡ with_raw (without_last sections) section name value
  unfolding with_raw
  put_there name value kept changed there is =
      valued-with_value (λ (k : Kept). k.items) section changed sections
      ∙ ap (λ (k : Kept). with_value section k.items (without_last sections)) is
      ∙ ap (λ items. with_value section (with_value (str_to_ascii_lowercase name) value items) (without_last sections)) (sym (items_there kept there))

  pub put_new : (name value : List ℕ) (made : Kept) → value_of section sections ≡ None →
      made ≡ with_item (str_to_ascii_lowercase name) value (record { items = []; last = None }) →
      without_last (with_value section made sections) ≡ with_raw (without_last sections) section name value
  unfolding with_raw
  put_new name value made none is =
      valued-with_value (λ (k : Kept). k.items) section made sections
      ∙ ap (λ (k : Kept). with_value section k.items (without_last sections)) is
      ∙ ap (λ items. with_value section (with_value (str_to_ascii_lowercase name) value items) (without_last sections)) (sym (items_none none))

  -- opening a section that is there, and a new one
  pub open_there : (kept : Kept) → value_of section sections ≡ Some kept → without_last sections ≡ opened section (without_last sections)
  unfolding opened
  open_there kept there =
      sym (ap (λ items. with_value section items (without_last sections)) (items_there kept there)
      ∙ with_value-same section kept.items (without_last sections) (value_of-valued (λ (k : Kept). k.items) section sections ∙ ap (option_map (λ k. k.items)) there))

  pub open_new : value_of section sections ≡ None →
      without_last (with_value section (record { items = []; last = None }) sections) ≡ opened section (without_last sections)
  unfolding opened
  open_new none =
      valued-with_value (λ (k : Kept). k.items) section (record { items = []; last = None }) sections
      ∙ ap (λ items. with_value section items (without_last sections)) (sym (items_none none))

-- an option that is there, and one that is not
pub some_there : {A : Type 0} (o : Option A) → is_some o ≡ true → (a : A) × (o ≡ Some a)
some_there None there = absurd (true≢false (sym there))
some_there (Some a) there = (a, refl)

pub none_there : {A : Type 0} (o : Option A) → is_some o ≡ false → o ≡ None
none_there None none = refl
none_there (Some a) none = absurd (true≢false none)
