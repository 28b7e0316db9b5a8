-- Sections in order, each with its items in order. Names of items are kept in ASCII lower case; names of sections stay as written.
use Rattle.std.specs.Prelude.{ℕ, not, List, [], ◌∷◌, filter, Option, None, Some, option_and_then, option_map, slice_get, if◌then◌else◌}
use Rattle.std.specs.Str.{bytes_eq, str_to_ascii_lowercase}

-- what the first entry with the name has
abbrev pub value_of : {V : Type 0} → List ℕ → List (List ℕ × V) → Option V
value_of name [] = None
value_of name (e ∷ es) = if bytes_eq name e.0 then Some e.1 else value_of name es

-- the entries with the value under the name: an entry that is there keeps its place, and a new one goes last
abbrev pub with_value : {V : Type 0} → List ℕ → V → List (List ℕ × V) → List (List ℕ × V)
with_value name value [] = (name, value) ∷ []
with_value name value (e ∷ es) = if bytes_eq name e.0 then (e.0, value) ∷ es else e ∷ with_value name value es

-- the entries but those of the name
abbrev pub without : {V : Type 0} → List ℕ → List (List ℕ × V) → List (List ℕ × V)
without name es = filter (λ e. not (bytes_eq name e.0)) es

-- the items of one section: name and raw value
abbrev pub Items : Type 0
Items = List (List ℕ × List ℕ)

-- name and items
abbrev pub Sections : Type 0
Sections = List (List ℕ × Items)

abbrev pub items_or_none : Option Items → Items
items_or_none None = []
items_or_none (Some items) = items

-- the items of a section, and none where it is not there
unfoldable pub items_of : List ℕ → Sections → Items
items_of section sections = items_or_none (value_of section sections)

-- the raw value of an item, whose name is read in any case
unfoldable pub raw : Sections → List ℕ → List ℕ → Option (List ℕ)
raw sections section name = option_and_then (value_of (str_to_ascii_lowercase name)) (value_of section sections)

-- the sections with this one, which goes last where it is new
unfoldable pub opened : List ℕ → Sections → Sections
opened section sections = with_value section (items_of section sections) sections

-- the sections with that raw value of that item; a section or an item that is new goes last
unfoldable pub with_raw : Sections → List ℕ → List ℕ → List ℕ → Sections
with_raw sections section name value =
    with_value section (with_value (str_to_ascii_lowercase name) value (items_of section sections)) sections

-- the name of the section at a place
abbrev pub section_at : Sections → ℕ → Option (List ℕ)
section_at sections index = option_map (λ e. e.0) (slice_get sections index)

-- the name of the item at a place of a section
unfoldable pub item_at : Sections → List ℕ → ℕ → Option (List ℕ)
item_at sections section index = option_and_then (λ items. option_map (λ e. e.0) (slice_get items index)) (value_of section sections)
