-- What is kept of bases that were merged, and what goes back to it.
use Rattle.std.specs.Prelude.{◌≡◌, ◌++◌, ℕ, List, [], ◌∷◌, Ok, codes, String, string_bytes}
use Rattle.ini_interp.specs.Merges.{Files, merged_in}
use Rattle.ini_interp.specs.Sections.{Sections, without}
use Rattle.jail_conf.specs.declared.source.Source.{Source}

-- these sections are what the files of the base come to whose first file this is
abbrev pub IsOfBase : Files → (file : List ℕ) → Sections → Type 0
IsOfBase files file sections = (base : List ℕ) → file ≡ base ++ codes ".conf" → merged_in files base ≡ Ok sections

-- under the first file of each base, what its files come to
abbrev pub AreOfBases : {A : Type 0} → Files → List (String A × Sections) → Type 0
AreOfBases files [] = Unit {0}
AreOfBases files (one ∷ kept) = IsOfBase files (string_bytes one.0) one.1 × AreOfBases files kept

-- the sections of a filter or an action, without what was put in for a jail
abbrev pub given_back : Source → Sections
given_back source = without (codes "]name") (without (codes "]options") source.sections)
