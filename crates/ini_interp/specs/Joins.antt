-- A file laid over what was read before it.
use Rattle.std.specs.Prelude.{ℕ, not, List, [], ◌∷◌, map, filter, fold, codes}
use Rattle.std.specs.List.{flat_map}
use Rattle.std.specs.Str.{bytes_eq}
use Rattle.ini_interp.specs.Known.{known_replaced}
use Rattle.ini_interp.specs.Sections.{Items, Sections, opened, with_raw}

-- what a file does to the sections
pub data Setting : Type 0 where
  -- it names a section
  Opens : List ℕ → Setting
  -- it gives an item of a section this raw value
  Sets : List ℕ → List ℕ → List ℕ → Setting

-- of a section: its items, each with its references to known values replaced
abbrev pub section_settings : Sections → List ℕ × Items → List Setting
section_settings before section =
    Opens section.0 ∷ map (λ item. Sets section.0 item.0 (known_replaced before section.0 item.1)) section.1

-- [INCLUDES] is not merged
abbrev pub without_includes : Sections → Sections
without_includes file = filter (λ section. not (bytes_eq section.0 (codes "INCLUDES"))) file

-- of a file, in order
abbrev pub settings : Sections → Sections → List Setting
settings before file = flat_map (section_settings before) (without_includes file)

abbrev pub with_setting : Sections → Setting → Sections
with_setting sections (Opens section) = opened section sections
with_setting sections (Sets section name value) = with_raw sections section name value

-- the sections of the files read before, with those of the file laid over them
unfoldable pub joined : Sections → Sections → Sections
joined before file = fold with_setting before (settings before file)
