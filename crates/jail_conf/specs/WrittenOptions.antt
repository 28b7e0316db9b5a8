-- How a name with options is written: `NAME[key=value, key="value"][..]`.
use Rattle.std.specs.Prelude.{◌≡◌, ℕ, true, false, List, [], ◌∷◌, ◌++◌, codes}
use Rattle.std.specs.List.{list_all}
use Rattle.std.specs.Str.{str_to_ascii_lowercase}
use Rattle.ini_interp.specs.Lines.{is_blank, trimmed}
use Rattle.ini_interp.specs.Sections.{Items}
use Rattle.jail_conf.specs.declared.options.Named.{Named}
use Rattle.jail_conf.specs.Options.{is_quote, IsPlain}
use Rattle.jail_conf.specs.Words.{HasNone, is_empty}

abbrev pub AreBlanks : List ℕ → Type 0
AreBlanks text = list_all is_blank text ≡ true

-- a value as it stands between `=` and the comma or bracket behind it
pub data IsValue : (value text : List ℕ) → Type 0 where
  -- as it is, with no comma, bracket or quote in it
  plain : (before text : List ℕ) → AreBlanks before → IsPlain text → HasNone (codes ",]\"'") text → IsValue (trimmed text) (before ++ text)
  -- between two quotes of one kind, where that kind is not in it
  quoted : (quote : ℕ) (before value behind : List ℕ) → is_quote quote ≡ true → AreBlanks before → HasNone (quote ∷ []) value → AreBlanks behind →
      IsValue value (before ++ quote ∷ (value ++ quote ∷ behind))

-- what stands before the `=` of an option
pub record IsKey (text : List ℕ) : Type 0 where
  pub alone : HasNone (codes "=,[]\"'") text
  pub some : is_empty (trimmed text) ≡ false

-- the options of a group behind its `[`, with its `]`; there is one at least
pub data AreOptions : Items → (text : List ℕ) → Type 0 where
  last : (key value text : List ℕ) → IsKey key → IsValue value text → AreOptions ((str_to_ascii_lowercase (trimmed key), value) ∷ []) (key ++ 61 ∷ (text ++ 93 ∷ []))
  more : (key value text : List ℕ) (options : Items) (others : List ℕ) → IsKey key → IsValue value text → AreOptions options others →
      AreOptions ((str_to_ascii_lowercase (trimmed key), value) ∷ options) (key ++ 61 ∷ (text ++ 44 ∷ others))

-- groups, each with blanks behind it
pub data AreGroups : Items → (text : List ℕ) → Type 0 where
  none : AreGroups [] []
  group : (options : Items) (text behind : List ℕ) (others : Items) (groups : List ℕ) → AreOptions options text → AreBlanks behind → AreGroups others groups →
      AreGroups (options ++ others) (91 ∷ (text ++ (behind ++ groups)))

-- a name with its options
pub record IsNamed (named : Named) (text : List ℕ) : Type 0 where
  pub front : List ℕ
  pub groups : List ℕ
  pub whole : text ≡ front ++ groups
  pub alone : HasNone (codes "[") front
  pub name : named.name ≡ trimmed front
  pub some : is_empty named.name ≡ false
  pub options : AreGroups named.options groups

-- the text is no name with options
abbrev pub NamesNothing : List ℕ → Type 0
NamesNothing text = (named : Named) → IsNamed named text → ⊥
