-- The leftmost match of a pattern in a line, and what its groups cover.
use Rattle.std.specs.Prelude.{◌≡◌, ℕ, zero, suc, ◌+◌, ◌<◌, Bool, true, false, ◌&&◌, ◌==◌, List, [], ◌∷◌, Option, Some, None, is_some, map, option_and_then, option_map, slice_index_or, codes, if◌then◌else◌}
use Rattle.regex.specs.Patterns.{Re, Match, find_str, span}
use Rattle.regex.specs.Sets.{matches_of}
use Rattle.regex.specs.Writes.{group_of}
use Rattle.regex.specs.Names.{span_at}
use Rattle.regex_syntax.specs.Grammar.{Names}
use Rattle.f2b_world.specs.Reading.{reading}
use Rattle.f2b_world.specs.declared.pattern.spans.Cut.{Cut}
use Rattle.f2b_world.specs.declared.pattern.spans.HostSpans.{HostSpans}

abbrev pub same_text : List ℕ → List ℕ → Bool
same_text [] [] = true
same_text [] (y ∷ ys) = false
same_text (x ∷ xs) [] = false
same_text (x ∷ xs) (y ∷ ys) = (x == y) && same_text xs ys

abbrev pub has_name : List ℕ → Option (List ℕ) → Bool
has_name name None = false
has_name name (Some given) = same_text given name

-- the number of the first group with the name
abbrev pub number_of : List ℕ → Names → Option ℕ
number_of name [] = None
number_of name (given ∷ rest) = if has_name name given then Some 0 else option_map (λ n. n + 1) (number_of name rest)

-- the first and the last offset of a part of the line
abbrev pub cut : ℕ × ℕ → Cut
cut s = record { start = s.0; end = s.1 }

-- the offsets of the group with that number, if it took part; group 0 is the match
unfoldable pub offsets : Match → ℕ → Option (ℕ × ℕ)
offsets m zero = Some (span m)
offsets m (suc n) = group_of m (suc n)

-- what the group with that number covers
abbrev pub numbered : Match → ℕ → Option Cut
numbered m n = option_map cut (offsets m n)

-- what the first group with that name covers: none where no group has it, or where it took no part
abbrev pub named : Names → Match → List ℕ → Option Cut
named names m name = option_map cut (span_at (offsets m) (number_of name names))

abbrev pub host_spans : Names → Match → HostSpans
host_spans names m = record {
  whole = cut (span m);
  ip4 = named names m (codes "f2b4");
  ip6 = named names m (codes "f2b6");
  name = named names m (codes "f2bn");
  content = named names m (codes "f2bc");
}

-- a match, and what one of its groups covers: none where the group took no part
pub record NumberedSpans : Type 0 where
  pub whole : Cut
  pub group : Option Cut

abbrev pub numbered_spans : ℕ → Match → NumberedSpans
numbered_spans group m = record { whole = cut (span m); group = numbered m group }

-- the leftmost match of the pattern with that text in the line, by its groups of a host and of the content
unfoldable pub hosts_in : List ℕ → List ℕ → Option HostSpans
hosts_in text line = option_and_then (λ e. option_map (host_spans e.names) (find_str e.tree line 0)) (reading text)

-- the same match, by the group of that number
unfoldable pub numbered_in : List ℕ → ℕ → List ℕ → Option NumberedSpans
numbered_in text group line = option_and_then (λ e. option_map (numbered_spans group) (find_str e.tree line 0)) (reading text)

-- where that match lies
abbrev pub whole_in : List ℕ → List ℕ → Option Cut
whole_in text line = option_map (λ (s : NumberedSpans). s.whole) (numbered_in text 0 line)

-- what the group with a number covers in it: none without a number or a match, and where the group took no part
abbrev pub group_in : List ℕ → List ℕ → Option ℕ → Option Cut
group_in text line number =
    option_and_then (λ n. option_and_then (λ (s : NumberedSpans). s.group) (numbered_in text n line)) number

-- in each line of bytes the trees match where the patterns with the texts do
abbrev pub MatchAlike : List (List ℕ) → List Re → Type 0
MatchAlike texts trees =
    (line : List ℕ) → ((k : ℕ) → slice_index_or line k 0 < 256)
    → matches_of true trees line 0 ≡ map (λ text. is_some (whole_in text line)) texts
