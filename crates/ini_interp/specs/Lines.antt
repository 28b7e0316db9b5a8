-- What one line of a configuration file says. A blank is a space or a tab.
use Rattle.std.specs.Prelude.{ℕ, ◌+◌, ◌-◌, ◌==◌, ◌&&◌, ◌||◌, Bool, true, false, List, [], ◌∷◌, length, take, drop, position, Option, None, Some, option_map, if◌then◌else◌}
use Rattle.std.specs.List.{prefix_len, suffix_len}

abbrev pub is_blank : ℕ → Bool
is_blank byte = byte == 32 || byte == 9

-- without the blanks at the beginning
unfoldable pub trimmed_start : List ℕ → List ℕ
trimmed_start text = drop (prefix_len is_blank text) text

-- without the blanks at the end
unfoldable pub trimmed_end : List ℕ → List ℕ
trimmed_end text = take (length text - suffix_len is_blank text) text

abbrev pub trimmed : List ℕ → List ℕ
trimmed text = trimmed_start (trimmed_end text)

-- nothing, or a comment, which begins with `#` or `;`
abbrev pub is_empty_or_comment : List ℕ → Bool
is_empty_or_comment [] = true
is_empty_or_comment (first ∷ rest) = first == 35 || first == 59

-- what stands before the first `;` that has a blank before it
abbrev pub without_comment : List ℕ → List ℕ
without_comment [] = []
without_comment (one ∷ []) = one ∷ []
without_comment (one ∷ next ∷ rest) = if is_blank one && next == 59 then one ∷ [] else one ∷ without_comment (next ∷ rest)

abbrev pub begins_with_blank : List ℕ → Bool
begins_with_blank [] = false
begins_with_blank (first ∷ rest) = is_blank first

-- the name of the section that a text opens: what stands between the `[` that it begins with and the first `]`
unfoldable pub opened_by : List ℕ → Option (List ℕ)
opened_by [] = None
opened_by (first ∷ rest) = if first == 91 then option_map (λ place. take place rest) (position (λ byte. byte == 93) rest) else None

-- what a line says
pub data Form : Type 0 where
  Nothing : Form
  Opens : (section : List ℕ) → Form
  Continues : (value : List ℕ) → Form
  Sets : (name value : List ℕ) → Form
  Broken : Form

-- an item has a name
abbrev pub named : List ℕ → List ℕ → Form
named [] value = Broken
named (first ∷ rest) value = Sets (first ∷ rest) value

-- name and value stand before and behind the first `=` or `:`
abbrev pub divided_at : List ℕ → Option ℕ → Form
divided_at text None = Broken
divided_at text (Some place) = named (trimmed (take place text)) (trimmed (drop (place + 1) text))

unfoldable pub item_of : List ℕ → Form
item_of text = divided_at text (position (λ byte. byte == 61 || byte == 58) text)

abbrev pub header_or_item : List ℕ → Option (List ℕ) → Form
header_or_item text None = item_of text
header_or_item text (Some section) = Opens section

-- what a line says whose comment and last blanks are gone
unfoldable pub content_form : List ℕ → Form
content_form text = if begins_with_blank text then Continues (trimmed_start text) else header_or_item text (opened_by text)

unfoldable pub form_of : List ℕ → Form
form_of line = if is_empty_or_comment (trimmed_start line) then Nothing else content_form (trimmed_end (without_comment line))
