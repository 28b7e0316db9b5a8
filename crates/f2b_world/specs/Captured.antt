-- What the captures of a match say of its groups.
use Rattle.std.specs.Prelude.{◌≡◌, ℕ, List, Option, option_and_then, option_map, codes}
use Rattle.regex.specs.Patterns.{Re}
use Rattle.regex.specs.Strings.{captures_span, match_span}
use Rattle.regex.specs.declared.string.captures.Captures.{Captures}
use Rattle.regex_syntax.specs.Grammar.{Names}
use Rattle.f2b_world.specs.Matches.{cut, number_of, NumberedSpans}
use Rattle.f2b_world.specs.Reading.{IsReadAs}
use Rattle.f2b_world.specs.declared.pattern.numbers.HostNumbers.{HostNumbers}
use Rattle.f2b_world.specs.declared.pattern.spans.Cut.{Cut}
use Rattle.f2b_world.specs.declared.pattern.spans.HostSpans.{HostSpans}

-- the numbers of the groups of a host and of the content
abbrev pub host_numbers : Names → HostNumbers
host_numbers names = record {
  ip4 = number_of (codes "f2b4") names;
  ip6 = number_of (codes "f2b6") names;
  name = number_of (codes "f2bn") names;
  content = number_of (codes "f2bc") names;
}

-- what the group with that number covers
abbrev pub captured_numbered : Captures → ℕ → NumberedSpans
captured_numbered c group = record { whole = cut (match_span c.whole); group = option_map cut (captures_span c group) }

-- what the group with a number covers, where a number is given
abbrev pub captured_group : Captures → Option ℕ → Option Cut
captured_group c number = option_and_then (λ n. option_map cut (captures_span c n)) number

-- what the groups of a host and of the content cover, by their numbers
abbrev pub captured_hosts : HostNumbers → Captures → HostSpans
captured_hosts numbers c = record {
  whole = cut (match_span c.whole);
  ip4 = captured_group c numbers.ip4;
  ip6 = captured_group c numbers.ip6;
  name = captured_group c numbers.name;
  content = captured_group c numbers.content;
}

-- the text is read as the tree with these names, by which the numbers are those of its groups
pub record IsMatcherOf (text : List ℕ) (tree : Re) (names : Names) (numbers : HostNumbers) : Type 0 where
  pub read : IsReadAs text tree names
  pub numbered : numbers ≡ host_numbers names
