-- What is proved of the names in sections that are read from files.
use Rattle.std.specs.Prelude.{◌≡◌, ◌==◌, ℕ, Bool, false, List}
use Rattle.std.specs.List.{All, IsDistinct, list_any}
use Rattle.std.specs.Map.{keys_of}
use Rattle.std.specs.Str.{bytes_eq, str_to_ascii_lowercase}
use Rattle.ini_interp.specs.Sections.{Items, Sections}

-- no name stands twice
abbrev pub AreApart : {V : Type 0} → List (List ℕ × V) → Type 0
AreApart es = IsDistinct bytes_eq (keys_of es)

-- a name in lower case
abbrev pub IsLowercase : List ℕ → Type 0
IsLowercase name = str_to_ascii_lowercase name ≡ name

-- a name holds `]`
abbrev pub has_bracket : List ℕ → Bool
has_bracket name = list_any (λ byte. byte == 93) name

-- no name of an item stands twice, and each is in lower case
pub record AreItems (items : Items) : Type 0 where
  pub apart : AreApart items
  pub lowercase : All (λ item. IsLowercase item.0) items

-- no name of a section stands twice, and none holds `]`; the items of each are as above
pub record AreSections (sections : Sections) : Type 0 where
  pub apart : AreApart sections
  pub no_bracket : All (λ section. has_bracket section.0 ≡ false) sections
  pub items : All (λ section. AreItems section.1) sections
