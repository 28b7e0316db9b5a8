-- What the text of a pattern stands for, by the grammar of `regex` under its default options.
use Rattle.std.specs.Prelude.{◌≡◌, ℕ, List, Option, Some, None, IsSome, nat_le, option_and_then, chars, if◌then◌else◌}
use Rattle.regex.specs.Patterns.{Re, SameCaptures, default_config}
use Rattle.regex_syntax.specs.Brackets.{Nested}
use Rattle.regex_syntax.specs.Grammar.{Names, read}
use Rattle.f2b_world.specs.declared.pattern.Made.{Made}
use Rattle.f2b_world.specs.declared.pattern.Made.TheVariants.{Built, Syntax, TooBig, NoMemory}

-- a pattern as a tree, and the name of each of its groups, from group 0 on, which is the whole match
pub record Expression : Type 0 where
  pub tree : Re
  pub names : Names

-- what was read, unless it nests deeper than 250
abbrev pub within_limit : Nested Re × Names → Option Expression
within_limit x = if nat_le x.0.depth 250 then Some (record { tree = x.0.value; names = x.1 }) else None

-- what the grammar reads in the text: none where it is no pattern, or where it nests deeper than 250
unfoldable pub reading : List ℕ → Option Expression
reading text = option_and_then within_limit (read default_config (chars text))

-- Built is the pattern of the text. Syntax is answered only where the text has no reading, and TooBig only where it has one.
abbrev pub IsMadeOf : List ℕ → Made → Type 0
IsMadeOf text (Built p) = (p ≡ text) × IsSome (reading text)
IsMadeOf text Syntax = reading text ≡ None
IsMadeOf text TooBig = IsSome (reading text)
IsMadeOf text NoMemory = Unit {0}

-- The same of an answer that may be TooBig for any text.
abbrev pub IsAnswerTo : List ℕ → Made → Type 0
IsAnswerTo text TooBig = Unit {0}
IsAnswerTo text made = IsMadeOf text made

-- the text has a reading, with these names, and the tree matches as it does
pub record IsReadAs (text : List ℕ) (tree : Re) (names : Names) : Type 0 where
  pub expression : Expression
  pub is : reading text ≡ Some expression
  pub alike : SameCaptures tree expression.tree
  pub named : names ≡ expression.names
