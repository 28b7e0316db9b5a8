-- What is proved of the files of a base, laid over one another.
use Rattle.std.specs.Prelude.{◌≡◌, ℕ, List, false, Ok, option_map, codes}
use Rattle.std.specs.List.{All}
use Rattle.std.specs.Str.{bytes_eq}
use Rattle.ini_interp.specs.AreSections.{AreSections}
use Rattle.ini_interp.specs.Joins.{joined}
use Rattle.ini_interp.specs.Known.{known_replaced}
use Rattle.ini_interp.specs.Merges.{Files, all_read}
use Rattle.ini_interp.specs.Sections.{Sections, raw, value_of}
use Rattle.ini_interp.specs.Values.{first_of}

pub record MergeLaw : Type 0 where
  -- each file that is read for a base names its sections and items once
  pub read : (files : Files) (base : List ℕ) (all : List Sections) → all_read files base ≡ Ok all → All AreSections all
  -- a later file's value of an item counts, with its references to known values replaced; an item that it has not keeps its value
  pub later_wins :
      (before file : Sections) (section name : List ℕ) → AreSections file → bytes_eq section (codes "INCLUDES") ≡ false →
      raw (joined before file) section name
      ≡ first_of (option_map (known_replaced before section) (raw file section name)) (raw before section name)
  -- [INCLUDES] is not merged
  pub includes : (before file : Sections) → value_of (codes "INCLUDES") (joined before file) ≡ value_of (codes "INCLUDES") before
