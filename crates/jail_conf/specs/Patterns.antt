-- Patterns of failures and of lines that are ignored, as an item lists them.
use Rattle.std.specs.Prelude.{ℕ, ◌+◌, ◌==◌, ◌&&◌, ◌||◌, not, nat_le, nat_lt, Bool, true, false, List, [], ◌∷◌, length, Option, None, Some, Result, Ok, codes, if◌then◌else◌}
use Rattle.std.specs.List.{list_any, before_first, position_or_len, filter_map}
use Rattle.std.specs.Str.{bytes_eq}
use Rattle.host_ident.specs.Expanded.{begins_group, hosts_in}
use Rattle.host_ident.specs.Tags.{is_mark_name}
use Rattle.jail_conf.specs.declared.conf_error.ConfKind.{ConfKind}
use Rattle.jail_conf.specs.declared.conf_error.ConfKind.TheVariants.{BadTag, NoHost, TwoHosts, TooMany}
use Rattle.jail_conf.specs.Then.{◌>>=◌, ◌>>◌, refuse_if}
use Rattle.jail_conf.specs.Readers.{Reader}
use Rattle.jail_conf.specs.Words.{full_lines, parts_by}

-- ---- tags

-- what stands before the first `>` of a part
abbrev pub front_name : List ℕ → Option (List ℕ)
front_name part =
    if nat_lt (position_or_len (λ byte. byte == 62) part) (length part) then Some (before_first (λ byte. byte == 62) part) else None

-- the name of the tag at the front of a part, where its `<` begins no group of the pattern itself
abbrev pub name_of : (before part : List ℕ) → Option (List ℕ)
name_of before part = if begins_group before then None else front_name part

abbrev pub with_name : Option (List ℕ) → List (List ℕ) → List (List ℕ)
with_name None names = names
with_name (Some name) names = name ∷ names

abbrev pub names_after : List ℕ → List (List ℕ) → List (List ℕ)
names_after before [] = []
names_after before (part ∷ parts) = with_name (name_of before part) (names_after part parts)

abbrev pub names_of_parts : List (List ℕ) → List (List ℕ)
names_of_parts [] = []
names_of_parts (first ∷ parts) = names_after first parts

-- the names of the tags of a pattern, in order
abbrev pub tag_names : List ℕ → List (List ℕ)
tag_names pattern = names_of_parts (parts_by (codes "<") pattern)

-- a tag that stands for nothing here
abbrev pub is_refused : List ℕ → Bool
is_refused name =
    bytes_eq name (codes "SKIPLINES")
    || (bytes_eq name (codes "SUBNET")
    || (bytes_eq name (codes "CIDR")
    || (bytes_eq name (codes "F-ID")
    || (bytes_eq name (codes "F-NOFAIL")
    || is_mark_name (codes "F-MLF") name))))

abbrev pub is_content : List ℕ → Bool
is_content name = bytes_eq name (codes "F-CONTENT")

abbrev pub has_bad_tag : List ℕ → Bool
has_bad_tag pattern = list_any (λ name. is_refused name || is_content name) (tag_names pattern)

-- whether a tag begins the content or ends it
abbrev pub content_mark : List ℕ → Option Bool
content_mark name = if is_content name then Some true else if bytes_eq name (codes "/F-CONTENT") then Some false else None

abbrev pub is_one_pair : List Bool → Bool
is_one_pair (first ∷ second ∷ []) = first && not second
is_one_pair marks = false

-- the content begins once, and behind that ends once
abbrev pub has_one_content : List (List ℕ) → Bool
has_one_content names = is_one_pair (filter_map content_mark names)

abbrev pub has_bad_prefix_tag : List ℕ → Bool
has_bad_prefix_tag pattern =
    nat_lt 0 (hosts_in pattern) || (list_any is_refused (tag_names pattern) || not (has_one_content (tag_names pattern)))

-- ---- patterns

abbrev pub most_patterns : ℕ
most_patterns = 512

abbrev pub most_bytes : ℕ
most_bytes = 8_192

abbrev pub is_too_long : List ℕ → Bool
is_too_long pattern = nat_lt most_bytes (length pattern)

-- one pattern more than these, or one that is too long
abbrev pub is_too_much : ℕ → List ℕ → Bool
is_too_much before pattern = is_too_long pattern || nat_le most_patterns before

-- a pattern that finds one host, or at most one, `before` being how many the jails have before it
abbrev pub pattern : (needs_host : Bool) → (before : ℕ) → List ℕ → Result (List ℕ) ConfKind
pattern needs_host before text = do
  refuse_if (needs_host && hosts_in text == 0) NoHost
  refuse_if (nat_lt 1 (hosts_in text)) TwoHosts
  refuse_if (has_bad_tag text) BadTag
  refuse_if (is_too_much before text) TooMany
  Ok text

abbrev pub in_order : (needs_host : Bool) → (before : ℕ) → List (List ℕ) → Result (List (List ℕ)) ConfKind
in_order needs_host before [] = Ok []
in_order needs_host before (line ∷ lines) = do
  first ← pattern needs_host before line
  others ← in_order needs_host (before + 1) lines
  Ok (first ∷ others)

abbrev pub patterns_in : (needs_host : Bool) → (before : ℕ) → Reader (List (List ℕ))
patterns_in needs_host before text = in_order needs_host before (full_lines text)

abbrev pub fail_patterns : ℕ → Reader (List (List ℕ))
fail_patterns before = patterns_in true before

abbrev pub ignore_patterns : ℕ → Reader (List (List ℕ))
ignore_patterns before = patterns_in false before

abbrev pub prefix : Reader (Option (List ℕ))
prefix text = do
  refuse_if (has_bad_prefix_tag text) BadTag
  refuse_if (is_too_long text) TooMany
  Ok (Some text)
