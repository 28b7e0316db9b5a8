-- The value of an item: its raw value, in which each reference is replaced by the value of the item that it names.
use Rattle.std.specs.Prelude.{ℕ, zero, suc, ◌==◌, List, [], ◌∷◌, Option, None, Some, Result, Ok, Err, if◌then◌else◌, Bool, codes}
use Rattle.std.specs.List.{before_first, after_first, list_any}
use Rattle.std.specs.Str.{bytes_eq}
use Rattle.ini_interp.specs.declared.value_error.InterpError.{InterpError}
use Rattle.ini_interp.specs.declared.value_error.InterpError.TheVariants.{Missing, TooDeep, BadPercent}
use Rattle.ini_interp.specs.InTurn.{in_turn}
use Rattle.ini_interp.specs.References.{Piece, Byte, Percent, Reference, Stray, pieces}
use Rattle.ini_interp.specs.Sections.{Sections, raw}

-- the names of sections, the first of which counts most
abbrev pub Scope : Type 0
Scope = List (List ℕ)

abbrev pub first_of : {A : Type 0} → Option A → Option A → Option A
first_of (Some x) other = Some x
first_of None other = other

-- the raw value that the name has in the first section of the scope that has it
abbrev pub raw_in : Sections → Scope → List ℕ → Option (List ℕ)
raw_in sections [] name = None
raw_in sections (section ∷ scope) name = first_of (raw sections section name) (raw_in sections scope name)

abbrev pub is_slash : ℕ → Bool
is_slash x = x == 47

-- the section that a reference names before its slash: `default` stands for `DEFAULT`, and `known` for `]known`
abbrev pub section_called : List ℕ → List ℕ
section_called word =
    if bytes_eq word (codes "default") then codes "DEFAULT" else if bytes_eq word (codes "known") then codes "]known" else word

-- where a reference looks: in the section that stands before its first slash, or in the whole scope where it has none
abbrev pub scope_of : Scope → List ℕ → Scope
scope_of scope reference =
    if list_any is_slash reference then section_called (before_first is_slash reference) ∷ [] else scope

-- the name that it looks for
abbrev pub name_of : List ℕ → List ℕ
name_of reference = if list_any is_slash reference then after_first is_slash reference else reference

-- the text that a piece stands for, where `replaced` is the text of a reference
abbrev pub text_of : (List ℕ → Result (List ℕ) InterpError) → Piece → Result (List ℕ) InterpError
text_of replaced (Byte x) = Ok (x ∷ [])
text_of replaced Percent = Ok (codes "%")
text_of replaced (Reference reference) = replaced reference
text_of replaced (Stray at) = Err (BadPercent at)

-- what `read` gives of the raw value, or that the name has none
abbrev pub found_or_missing : (List ℕ → Result (List ℕ) InterpError) → List ℕ → Option (List ℕ) → Result (List ℕ) InterpError
found_or_missing read name None = Err (Missing name)
found_or_missing read name (Some text) = read text

-- a raw value with each reference in it replaced
abbrev pub filled : (List ℕ → Result (List ℕ) InterpError) → List ℕ → Result (List ℕ) InterpError
filled replace text = in_turn (text_of replace) (pieces text)

-- the text that a reference is replaced by, where so many replacements may stand in one another: the raw value that it names, in
-- which references are replaced in turn
unfoldable pub replaced : Sections → Scope → ℕ → List ℕ → Result (List ℕ) InterpError
replaced sections scope zero reference = Err (TooDeep (name_of reference))
replaced sections scope (suc depth) reference =
    found_or_missing (filled (replaced sections scope depth)) (name_of reference)
    (raw_in sections (scope_of scope reference) (name_of reference))

-- a raw value with its references replaced
abbrev pub interpolated : Sections → Scope → ℕ → List ℕ → Result (List ℕ) InterpError
interpolated sections scope depth text = filled (replaced sections scope depth) text

-- replacements stand at most so many deep in one another
abbrev pub most_depth : ℕ
most_depth = 10

abbrev pub some_text : Result (List ℕ) InterpError → Result (Option (List ℕ)) InterpError
some_text (Ok text) = Ok (Some text)
some_text (Err fault) = Err fault

abbrev pub value_of_raw : Sections → Scope → Option (List ℕ) → Result (Option (List ℕ)) InterpError
value_of_raw sections scope None = Ok None
value_of_raw sections scope (Some text) = some_text (interpolated sections scope most_depth text)

-- the value of a name in a scope: none where no section of the scope has the name
abbrev pub value_in : Sections → Scope → List ℕ → Result (Option (List ℕ)) InterpError
value_in sections scope name = value_of_raw sections scope (raw_in sections scope name)
