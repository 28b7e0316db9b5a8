-- A pattern with its tags expanded. The text is taken apart at each `<`: a tag stands at the front of a part.
use Rattle.std.specs.Prelude.{ℕ, ◌+◌, ◌-◌, ◌^◌, Bool, ◌||◌, ◌==◌, List, [], ◌∷◌, ◌++◌, length, min, nat_lt, Option, Some, None, codes, nat_eq, if◌then◌else◌}
use Rattle.std.specs.List.{slice_split, ends_with, before_first, after_first, position_or_len}
use Rattle.host_ident.specs.Tags.{tag_named, expansion, is_host}
use Rattle.host_ident.specs.declared.tag.Tag.{Tag}

-- what a `<` after this text begins is a group of the pattern itself
abbrev pub begins_group : List ℕ → Bool
begins_group before = ends_with nat_eq before (codes "(?") || ends_with nat_eq before (codes "(?P")

-- the tag at the front of a part, which is a name and then a `>`
abbrev pub front_tag : List ℕ → Option Tag
front_tag part =
    if nat_lt (position_or_len (λ b. b == 62) part) (length part) then tag_named (before_first (λ b. b == 62) part) else None

-- the tag of a part, by the part before its `<`
abbrev pub tag_of : List ℕ → List ℕ → Option Tag
tag_of before part = if begins_group before then None else front_tag part

-- a part behind its `<`, as it is written where it has no tag
abbrev pub written : Option Tag → List ℕ → List ℕ
written None part = 60 ∷ part
written (Some tag) part = expansion tag ++ after_first (λ b. b == 62) part

abbrev pub written_after : List ℕ → List (List ℕ) → List ℕ
written_after before [] = []
written_after before (part ∷ parts) = written (tag_of before part) part ++ written_after part parts

abbrev pub written_parts : List (List ℕ) → List ℕ
written_parts [] = []
written_parts (first ∷ parts) = first ++ written_after first parts

-- the text with each tag expanded
unfoldable pub expanded : List ℕ → List ℕ
expanded text = written_parts (slice_split (λ b. b == 60) text)

abbrev pub host_count : Option Tag → ℕ
host_count None = 0
host_count (Some tag) = if is_host tag then 1 else 0

abbrev pub hosts_after : List ℕ → List (List ℕ) → ℕ
hosts_after before [] = 0
hosts_after before (part ∷ parts) = host_count (tag_of before part) + hosts_after part parts

abbrev pub hosts_of_parts : List (List ℕ) → ℕ
hosts_of_parts [] = 0
hosts_of_parts (first ∷ parts) = hosts_after first parts

-- how many tags of the text find a host, at most as many as a u32 can count
unfoldable pub hosts_in : List ℕ → ℕ
hosts_in text = min (hosts_of_parts (slice_split (λ b. b == 60) text)) (2 ^ 32 - 1)

-- the parts of what is left behind a `<`, if there is one
abbrev pub parts_of : Option (List ℕ) → List (List ℕ)
parts_of None = []
parts_of (Some rest) = slice_split (λ b. b == 60) rest
