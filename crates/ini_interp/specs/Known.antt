-- References to what the files read before have set: `%(known/NAME)s`. They are replaced while files are merged.
use Rattle.std.specs.Prelude.{ℕ, ◌&&◌, List, [], ◌∷◌, ◌++◌, Option, None, Some, unwrap_or, if◌then◌else◌, Bool, codes}
use Rattle.std.specs.List.{before_first, list_any, flat_map}
use Rattle.std.specs.Str.{bytes_eq}
use Rattle.ini_interp.specs.References.{Piece, Byte, Percent, Reference, Stray, pieces}
use Rattle.ini_interp.specs.Sections.{Sections, raw}
use Rattle.ini_interp.specs.Values.{first_of, is_slash, name_of}

abbrev pub is_known : List ℕ → Bool
is_known reference = list_any is_slash reference && bytes_eq (before_first is_slash reference) (codes "known")

-- the raw value that a reference `known/NAME` in this section stands for: that of NAME in the same section, or else in [DEFAULT],
-- by the files read before
abbrev pub known_raw : Sections → List ℕ → List ℕ → Option (List ℕ)
known_raw before section reference =
    if is_known reference
    then first_of (raw before section (name_of reference)) (raw before (codes "DEFAULT") (name_of reference))
    else None

-- how a piece is written
abbrev pub spelled : Piece → List ℕ
spelled (Byte x) = x ∷ []
spelled Percent = codes "%%"
spelled (Reference reference) = codes "%(" ++ reference ++ codes ")s"
spelled (Stray at) = codes "%"

-- a piece as it is written, but for a reference to a known value that there is: that raw value
abbrev pub known_text : Sections → List ℕ → Piece → List ℕ
known_text before section (Reference reference) = unwrap_or (known_raw before section reference) (spelled (Reference reference))
known_text before section piece = spelled piece

-- a raw value with its references to known values replaced, from left to right; what is put in is not looked at again
unfoldable pub known_replaced : Sections → List ℕ → List ℕ → List ℕ
known_replaced before section text = flat_map (known_text before section) (pieces text)
