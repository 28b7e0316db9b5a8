-- Names with options: `NAME[key=value, key="value"]`. A plain value runs to a comma or `]` and is trimmed; a quoted one holds all but its
-- quote. Keys are kept in lower case.
use Rattle.std.specs.Prelude.{◌≡◌, ℕ, ◌==◌, ◌||◌, Bool, true, not, List, [], ◌∷◌, ◌++◌, drop, fold, Option, None, Some, if◌then◌else◌}
use Rattle.std.specs.List.{before_first, position_or_len}
use Rattle.std.specs.Str.{str_to_ascii_lowercase}
use Rattle.ini_interp.specs.Lines.{is_blank, trimmed}
use Rattle.ini_interp.specs.Sections.{Items}
use Rattle.jail_conf.specs.declared.options.Named.{Named}
use Rattle.jail_conf.specs.Words.{is_empty}

-- where the reading of the groups stands
pub data Place : Type 0 where
  -- between groups
  Outside : Place
  -- in a key, of which this was read
  Key : List ℕ → Place
  -- behind the `=` of this key
  Value : List ℕ → Place
  -- in its plain value, of which this was read
  Plain : (key value : List ℕ) → Place
  -- in its value within these quotes
  Quoted : (quote : ℕ) → (key value : List ℕ) → Place
  -- behind its closing quote
  Closed : Place
  -- at what is no option
  Nowhere : Place

pub record Reading : Type 0 where
  pub place : Place
  pub options : Items

abbrev pub is_quote : ℕ → Bool
is_quote byte = byte == 34 || byte == 39

abbrev pub at : Place → Reading → Reading
at place reading = record reading { place = place }

-- one more option
abbrev pub given : List ℕ → List ℕ → Place → Reading → Reading
given key value place reading = record { place = place; options = reading.options ++ (str_to_ascii_lowercase key, value) ∷ [] }

abbrev pub behind_key : List ℕ → Place
behind_key key = if is_empty (trimmed key) then Nowhere else Value (trimmed key)

-- a byte behind a whole value
abbrev pub behind_value : ℕ → Place
behind_value byte = if byte == 44 then Key [] else if byte == 93 then Outside else Nowhere

abbrev pub ends_value : ℕ → Bool
ends_value byte = byte == 44 || byte == 93

abbrev pub read_byte : Place → ℕ → Reading → Reading
read_byte Outside byte reading = at (if byte == 91 then Key [] else if is_blank byte then Outside else Nowhere) reading
read_byte (Key key) byte reading =
    at (if byte == 61 then behind_key key else if ends_value byte || byte == 91 || is_quote byte then Nowhere else Key (key ++ byte ∷ [])) reading
read_byte (Value key) byte reading =
    if is_blank byte then reading
    else if is_quote byte then at (Quoted byte key []) reading
    else if ends_value byte then given key [] (behind_value byte) reading
    else at (Plain key (byte ∷ [])) reading
read_byte (Plain key value) byte reading =
    if ends_value byte then given key (trimmed value) (behind_value byte) reading
    else if is_quote byte then at Nowhere reading
    else at (Plain key (value ++ byte ∷ [])) reading
read_byte (Quoted quote key value) byte reading =
    if byte == quote then given key value Closed reading else at (Quoted quote key (value ++ byte ∷ [])) reading
read_byte Closed byte reading = if is_blank byte then reading else at (behind_value byte) reading
read_byte Nowhere byte reading = reading

abbrev pub whole : Reading → Place → Option Items
whole reading Outside = Some reading.options
whole reading place = None

abbrev pub whole_of : Reading → Option Items
whole_of reading = whole reading reading.place

-- what comes of a text that is read from here on
abbrev pub outcome : Reading → List ℕ → Option Items
outcome reading text = whole_of (fold (λ reading byte. read_byte reading.place byte reading) reading text)

-- where the reading stands at this place, with these options read before
abbrev pub options_from : Place → Items → List ℕ → Option Items
options_from place options text = outcome (record { place = place; options = options }) text

-- the options of some groups
abbrev pub groups : List ℕ → Option Items
groups text = options_from Outside [] text

abbrev pub opens : ℕ → Bool
opens byte = byte == 91

abbrev pub from_first : List ℕ → List ℕ
from_first text = drop (position_or_len opens text) text

abbrev pub if_named : List ℕ → Option Items → Option Named
if_named name None = None
if_named name (Some options) = if is_empty name then None else Some (record { name = name; options = options })

-- a name with options, in their order; of two with one key the later counts
unfoldable pub named : List ℕ → Option Named
named text = if_named (trimmed (before_first opens text)) (groups (from_first text))

-- ---- parts of a text

-- nothing comes of the text from this place on
abbrev pub ReadsNothing : Place → List ℕ → Type 0
ReadsNothing place text = (options : Items) → options_from place options text ≡ None

-- from this place on the text comes to what the rest of it comes to from the next
abbrev pub ReadsAs : Place → (text : List ℕ) → (next : Place) → (rest : List ℕ) → Type 0
ReadsAs place text next rest = (options : Items) → options_from place options text ≡ options_from next options rest

-- and with one option more
abbrev pub ReadsOption : Place → (text key value : List ℕ) → (next : Place) → (rest : List ℕ) → Type 0
ReadsOption place text key value next rest =
    (options : Items) → options_from place options text ≡ options_from next (options ++ (str_to_ascii_lowercase key, value) ∷ []) rest

-- behind an option
abbrev pub behind : (is_last : Bool) → Place
behind is_last = if is_last then Outside else Key []

-- the text begins with neither a blank nor a quote
abbrev pub begins_plain : List ℕ → Bool
begins_plain [] = true
begins_plain (byte ∷ text) = not (is_blank byte || is_quote byte)

abbrev pub IsPlain : List ℕ → Type 0
IsPlain text = begins_plain text ≡ true
