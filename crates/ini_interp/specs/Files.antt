-- What one configuration file means: its sections with their items, or the first fault in it.
use Rattle.std.specs.Prelude.{ℕ, ◌+◌, ◌==◌, List, [], ◌∷◌, ◌++◌, length, map, fold, Option, None, Some, Result, Ok, Err, is_none, if◌then◌else◌}
use Rattle.std.specs.List.{join_with_byte, last_or}
use Rattle.std.specs.Option.{option_map_or}
use Rattle.std.specs.Str.{IsValidUpTo, is_utf8, str_to_ascii_lowercase}
use Rattle.std.specs.Str.Lines.{lines}
use Rattle.std.specs.Str.Lossy.{utf8_valid_len}
use Rattle.ini_interp.specs.declared.error.IniError.{IniError}
use Rattle.ini_interp.specs.declared.error.IniError.TheVariants.{NoSection, NoDelimiter, Indent, NotUtf8, NoMemory}
use Rattle.ini_interp.specs.Lines.{Form, Nothing, Opens, Continues, Sets, Broken, form_of}
use Rattle.ini_interp.specs.Sections.{Items, Sections, value_of, with_value}

-- Sections.

-- the lines up to the next header
abbrev pub before_header : List Form → List Form
before_header [] = []
before_header (Opens section ∷ rest) = []
before_header (line ∷ rest) = line ∷ before_header rest

-- each header's section, with the lines up to the next header
abbrev pub blocks : List Form → List (List ℕ × List Form)
blocks [] = []
blocks (Opens section ∷ rest) = (section, before_header rest) ∷ blocks rest
blocks (line ∷ rest) = blocks rest

abbrev pub lines_or_none : Option (List Form) → List Form
lines_or_none None = []
lines_or_none (Some lines) = lines

-- the lines of a section, and none where it is not there
abbrev pub lines_in : List ℕ → List (List ℕ × List Form) → List Form
lines_in section sections = lines_or_none (value_of section sections)

-- the sections with the lines of one more block: a section that is there goes on in its place, and a new one goes last
abbrev pub with_block : List (List ℕ × List Form) → List ℕ × List Form → List (List ℕ × List Form)
with_block sections block = with_value block.0 (lines_in block.0 sections ++ block.1) sections

-- the sections in the order in which they are named first, each with all its lines
abbrev pub gathered : List Form → List (List ℕ × List Form)
gathered lines = fold with_block [] (blocks lines)

-- Items.

-- the texts that continue a value, up to the next item
abbrev pub continued : List Form → List (List ℕ)
continued [] = []
continued (Sets name value ∷ rest) = []
continued (Continues text ∷ rest) = text ∷ continued rest
continued (line ∷ rest) = continued rest

-- the items among the lines of a section: the name in lower case, and the value with the texts that continue it, joined by LF
abbrev pub entries : List Form → Items
entries [] = []
entries (Sets name value ∷ rest) = (str_to_ascii_lowercase name, join_with_byte 10 (value ∷ continued rest)) ∷ entries rest
entries (line ∷ rest) = entries rest

-- the items of a section: a later value of a name replaces an earlier one, and the item keeps its place
abbrev pub items_in : List Form → Items
items_in lines = fold (λ items item. with_value item.0 item.1 items) [] (entries lines)

-- what the lines of a file mean, where none of them is at fault
abbrev pub sections_of : List Form → Sections
sections_of lines = map (λ section. (section.0, items_in section.1)) (gathered lines)

-- Faults.

-- the section that is open behind these lines: the one that was named last
abbrev pub open_section : List Form → Option (List ℕ)
open_section lines = last_or None (map (λ block. block.0) (blocks lines))

-- its lines so far
abbrev pub open_lines : List Form → List Form
open_lines lines = option_map_or (λ section. lines_in section (gathered lines)) (open_section lines) []

-- the fault of a line behind these lines. A line without name and divider is no item, wherever it stands.
abbrev pub fault : List Form → Form → Option IniError
fault before Nothing = None
fault before (Opens section) = None
fault before (Continues value) = if length (entries (open_lines before)) == 0 then Some (Indent (length before + 1)) else None
fault before (Sets name value) = if is_none (open_section before) then Some (NoSection (length before + 1)) else None
fault before Broken = Some (NoDelimiter (length before + 1))

abbrev pub or_else : Option IniError → Option IniError → Option IniError
or_else None later = later
or_else (Some error) later = Some error

-- the first fault of further lines behind these
abbrev pub first_fault : List Form → List Form → Option IniError
first_fault before [] = None
first_fault before (line ∷ rest) = or_else (fault before line) (first_fault (before ++ line ∷ []) rest)

-- Files.

abbrev pub unless_at_fault : List Form → Option IniError → Result Sections IniError
unless_at_fault lines None = Ok (sections_of lines)
unless_at_fault lines (Some error) = Err error

unfoldable pub meaning_of : List Form → Result Sections IniError
meaning_of lines = unless_at_fault lines (first_fault [] lines)

-- what a file means: bytes that are not UTF-8 are a fault of the whole file
unfoldable pub file_of : List ℕ → Result Sections IniError
file_of bytes = if is_utf8 bytes then meaning_of (map form_of (lines bytes)) else Err (NotUtf8 (utf8_valid_len bytes))

-- What is said of an error: want of memory is free.
abbrev pub UnlessNoMemory : IniError → Type 0 → Type 0
UnlessNoMemory NoMemory claim = Unit {0}
UnlessNoMemory error claim = claim

-- the place of ill-formed bytes: what stands before it is UTF-8, and no more is
abbrev pub IsFirstIllFormed : List ℕ → IniError → Type 0
IsFirstIllFormed bytes (NotUtf8 at) = IsValidUpTo bytes at
IsFirstIllFormed bytes error = Unit {0}
