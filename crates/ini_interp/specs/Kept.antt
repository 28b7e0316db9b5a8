-- What is kept while a file is read.
use Rattle.std.specs.Prelude.{ℕ, List, [], ◌∷◌, ◌++◌, zero, suc, Option, None, Some, option_and_then, option_map, slice_get, map, is_none, if◌then◌else◌}
use Rattle.std.specs.List.{position_or_len}
use Rattle.std.specs.Str.{bytes_eq, str_to_ascii_lowercase}
use Rattle.ini_interp.specs.declared.error.IniError.{IniError}
use Rattle.ini_interp.specs.declared.error.IniError.TheVariants.{NoSection, NoDelimiter, Indent}
use Rattle.ini_interp.specs.Lines.{Form, Nothing, Opens, Continues, Sets, Broken}
use Rattle.ini_interp.specs.Sections.{Items, Sections, value_of, with_value}

-- the place of the first entry with the name, or the length
abbrev pub place_of : {V : Type 0} → List ℕ → List (List ℕ × V) → ℕ
place_of name es = position_or_len (λ e. bytes_eq name e.0) es

-- the value at a place changed
abbrev pub changed_at : {V : Type 0} → (V → V) → List (List ℕ × V) → ℕ → List (List ℕ × V)
changed_at change [] place = []
changed_at change (e ∷ es) zero = (e.0, change e.1) ∷ es
changed_at change (e ∷ es) (suc place) = e ∷ changed_at change es place

abbrev pub changed : {V : Type 0} → (V → V) → List (List ℕ × V) → Option ℕ → List (List ℕ × V)
changed change es None = es
changed change es (Some place) = changed_at change es place

abbrev pub at_place : {V : Type 0} → List (List ℕ × V) → Option ℕ → Option V
at_place es place = option_and_then (λ n. option_map (λ e. e.1) (slice_get es n)) place

-- the items of a section in order, and the place of the one that was set last
pub record Kept : Type 0 where
  pub items : Items
  pub last : Option ℕ

-- with this value under this name, which was set last
abbrev pub with_item : List ℕ → List ℕ → Kept → Kept
with_item name value kept = record { items = with_value name value kept.items; last = Some (place_of name kept.items) }

-- the value that was set last
abbrev pub last_value : Kept → Option (List ℕ)
last_value kept = at_place kept.items kept.last

-- with LF and a text behind the value that was set last
abbrev pub with_more : List ℕ → Kept → Kept
with_more text kept = record kept { items = changed (λ value. value ++ 10 ∷ text) kept.items kept.last }

abbrev pub kept_or_none : Option Kept → Kept
kept_or_none None = record { items = []; last = None }
kept_or_none (Some kept) = kept

-- the sections with their items alone
abbrev pub without_last : List (List ℕ × Kept) → Sections
without_last sections = map (λ section. (section.0, section.1.items)) sections

-- the sections that were read so far, and the place of the one that is open
pub record Read : Type 0 where
  pub sections : List (List ℕ × Kept)
  pub at : Option ℕ

-- with this section open, which goes last where it is new
abbrev pub with_open : List ℕ → Read → Read
with_open section read = record {
  sections = with_value section (kept_or_none (value_of section read.sections)) read.sections;
  at = Some (place_of section read.sections);
}

-- with the items of the open section changed
abbrev pub with_changed : (Kept → Kept) → Read → Read
with_changed change read = record read { sections = changed change read.sections read.at }

-- what is read behind one more line
abbrev pub with_line : Form → Read → Read
with_line Nothing read = read
with_line (Opens section) read = with_open section read
with_line (Continues text) read = with_changed (with_more text) read
with_line (Sets name value) read = with_changed (with_item (str_to_ascii_lowercase name) value) read
with_line Broken read = read

-- whether a section is open, and whether an item was set in it
abbrev pub open_kept : Read → Option Kept
open_kept read = at_place read.sections read.at

abbrev pub open_value : Read → Option (List ℕ)
open_value read = option_and_then last_value (open_kept read)

-- the fault of a line with this number
abbrev pub fault_of : Form → ℕ → Read → Option IniError
fault_of Nothing number read = None
fault_of (Opens section) number read = None
fault_of (Continues text) number read = if is_none (open_value read) then Some (Indent number) else None
fault_of (Sets name value) number read = if is_none (open_kept read) then Some (NoSection number) else None
fault_of Broken number read = Some (NoDelimiter number)
